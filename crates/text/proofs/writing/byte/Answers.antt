-- `text::writing::byte` meets its contract: each way out is a case of the definition. Assumes nothing.
use borrow.Author.Tests.{le-leb, lt-leb}
use Rattle.text.specs.Code.{byte_of}
use Rattle.text.proofs.writing.byte.Goals as goal

pub returns-then-d-le10 : goal.returns-then-d-le10
unfolding byte_of
returns-then-d-le10 c = simp (le-leb _ _ c.if-d-le10.true)

pub returns-then-d-le36 : goal.returns-then-d-le36
unfolding byte_of
returns-then-d-le36 c = simp (lt-leb _ _ c.if-d-le10.false, le-leb _ _ c.if-d-le36.true)

pub returns : goal.returns
unfolding byte_of
returns c = simp (lt-leb _ _ c.if-d-le10.false, lt-leb _ _ c.if-d-le36.false)
