-- `read` meets its contract. Assumes nothing.
use Rattle.planner.proofs.AskWays.{asks_as}
use Rattle.planner.proofs.asks.read.Goals as goal

pub returns : goal.returns
returns c = asks_as _ _ _ c.read.ensures.value c.map.ensures.cases
