-- `table::field::read_route` meets its contract. Assumes nothing.
use Rattle.text.proofs.Logic.{so, not_so}
use Rattle.table.proofs.field.read_route.Goals as goal

pub returns-then-not-is_route : goal.returns-then-not-is_route
returns-then-not-is_route c = rw (not_so c.is_route.ensures c.if-not-is_route.true-raw)

pub returns : goal.returns
returns c = rw (so c.is_route.ensures c.if-not-is_route.false-raw)
