-- `checks::count` meets its contract. Assumes nothing.
use mathlib.Core.Path.{◌≡◌}
use Prim.Native.Nat.{◌+◌}
use native.Mathlib.Omega.{arith}
use Rattle.checks.proofs.Ways.{count_read, count_refused}
use Rattle.checks.proofs.count.Goals as goal
use Rattle.checks.proofs.count.Goals.{then-verdict-eq0, else-verdict-eq0}

pub returns : goal.returns
returns c =
    let a = c.args in
    let z : a.sums.read + 0 ≡ a.sums.read = omega arith in
    elim c.if-verdict-eq0.branch [
      | then-verdict-eq0 w ↦ rw w.reads-is (count_read a.sums a.verdict w.if-verdict-eq0.true)
      | else-verdict-eq0 w ↦ rw (w.reads-is, z) (count_refused a.sums a.verdict w.if-verdict-eq0.false)
    ]
