-- `table::kinds::marks_after` meets its contract. Assumes nothing.
use borrow.Author.Tests.{eq-eqb, ne_eqb}
use Rattle.table.specs.Field.{marks_of}
use Rattle.table.proofs.kinds.marks_after.Goals as goal

pub returns-then-kind-eq-AMENDMENT : goal.returns-then-kind-eq-AMENDMENT
unfolding marks_of
returns-then-kind-eq-AMENDMENT c = rw (eq-eqb _ _ c.if-kind-eq-AMENDMENT.true, c.mark.ensures)

pub returns : goal.returns
unfolding marks_of
returns c = rw (ne_eqb _ _ c.if-kind-eq-AMENDMENT.false)
