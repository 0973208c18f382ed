-- `checks::say` meets its contract. Assumes nothing.
use Rattle.checks.proofs.Ways.{says_all, says_refused, says_nothing}
use Rattle.checks.proofs.say.Goals as goal
use Rattle.checks.proofs.say.Goals.{else-only-via-then-only+else-verdict-eq0, else-only-via-else-only}

pub returns-then-verdict-eq0 : goal.returns-then-verdict-eq0
returns-then-verdict-eq0 c =
    let a = c.args in
    let both = says_nothing a.only a.n a.verdict _ _ c.if-only.true c.if-verdict-eq0.true in
    record { value = both.0; out_after = both.1 }

pub returns : goal.returns
returns c =
    let a = c.args in
    elim c.else-only.branch [
      | else-only-via-then-only+else-verdict-eq0 w ↦ let both = says_refused a.only a.n a.verdict _ _ w.if-only.true w.if-verdict-eq0.false (c.put.ensures.value, c.put.ensures.out_after) in record { value = both.0; out_after = both.1 }
      | else-only-via-else-only w ↦ let both = says_all a.only a.n a.verdict _ _ w.if-only.false (c.put.ensures.value, c.put.ensures.out_after) in record { value = both.0; out_after = both.1 }
    ]
