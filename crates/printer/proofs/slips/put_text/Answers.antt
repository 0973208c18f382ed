-- `printer::slips::put_text` meets its contract: a hyphen for 0, else the text. Assumes nothing.
use mathlib.Core.Path.{sym, ap, ◌∙◌}
use native.Mathlib.Omega.{arith}
use lib.ListN.{length}
use Rattle.printer.proofs.Lines.{part_none, put_none, put_some, put_never}
use Rattle.printer.proofs.slips.put_text.Goals as goal

pub bounds-out-at : goal.bounds-out-at
bounds-out-at c = omega (arith, ap length (part_none _ c.if-word-eq0.true))

pub returns-then-word-eq0 : goal.returns-then-word-eq0
returns-then-word-eq0 c =
    let both = put_none _ _ _ c.requires.0 c.requires.1 c.if-word-eq0.true in
    record { value = both.0; out_after = both.1 }

pub returns-in-Ok : goal.returns-in-Ok
returns-in-Ok c =
    let both = put_some _ _ _ c.requires.0 c.requires.1 c.if-word-eq0.false (sym c.put-written.ensures.value ∙ c.in-Ok.is) c.put-written.ensures.out_after in
    record { value = both.0; out_after = both.1 }

pub returns-in-Err : goal.returns-in-Err
returns-in-Err c = put_never _ _ _ c.requires.0 c.requires.1 c.if-word-eq0.false _ (sym c.put-written.ensures.value ∙ c.in-Err.is)
