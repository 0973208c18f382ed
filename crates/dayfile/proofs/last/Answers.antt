-- `last` meets its contract. Assumes nothing.
use Rattle.shapes.proofs.Laws.{rest_all}
use Rattle.dayfile.proofs.last.Goals as goal

pub returns : goal.returns
returns c = rw c.saturating_sub.ensures (rest_all c.args.s.now _)
