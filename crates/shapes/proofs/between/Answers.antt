-- `shapes::between` meets its contract. Assumes nothing.
use borrow.Author.Tests.{le-leb, lt-leb}
use Rattle.shapes.proofs.between.Goals as goal

pub returns-then-lo-b : goal.returns-then-lo-b
returns-then-lo-b c = rw (le-leb _ _ c.if-lo-b.true)

pub returns-else-lo-b : goal.returns-else-lo-b
returns-else-lo-b c = rw (lt-leb _ _ c.if-lo-b.false)
