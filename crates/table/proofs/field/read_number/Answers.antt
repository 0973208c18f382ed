-- `table::field::read_number` meets its contract. Assumes nothing.
use mathlib.Core.Path.{sym, ◌∙◌}
use borrow.Author.Tests.{eq-eqb, ne_eqb}
use Rattle.table.specs.Field.{read_in, read_mark, follows, barred}
use Rattle.table.proofs.ReadingWays.{number_none}
use Rattle.table.proofs.field.read_number.Goals.{then-mark-eq0-via-then-mark-eq0, then-mark-eq0-via-else-mark-eq0+then-marks-mark-ne0}
use Rattle.table.proofs.field.read_number.Goals as goal

pub returns-then-mark-eq0 : goal.returns-then-mark-eq0
unfolding read_in read_mark follows barred
returns-then-mark-eq0 c = elim c.then-mark-eq0.branch [
  | then-mark-eq0-via-then-mark-eq0 w ↦ number_none _ _ (sym c.mark-mark.ensures ∙ w.if-mark-eq0.true)
  | then-mark-eq0-via-else-mark-eq0+then-marks-mark-ne0 w ↦ rw (← c.mark-mark.ensures, ne_eqb _ _ w.if-marks-mark-ne0.true)
]

pub returns : goal.returns
unfolding read_in read_mark follows barred
returns c = rw (c.word.ensures, ← c.mark-mark.ensures, eq-eqb _ _ c.if-marks-mark-ne0.false, ne_eqb _ _ c.if-mark-eq0.false)
