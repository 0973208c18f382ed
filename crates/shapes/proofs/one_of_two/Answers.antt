-- `shapes::one_of_two` meets its contract. Assumes nothing.
use borrow.Author.Tests.{eq-eqb, ne_eqb}
use Rattle.shapes.proofs.one_of_two.Goals as goal

pub returns-then-b-x : goal.returns-then-b-x
returns-then-b-x c = rw (eq-eqb _ _ c.if-b-x.true)

pub returns-else-b-x : goal.returns-else-b-x
returns-else-b-x c = rw (ne_eqb _ _ c.if-b-x.false)
