-- `walking::walk` meets its contract: the offsets are the numbers of the index. Assumes nothing.
use Rattle.std.proofs.Common.{rules}
use Rattle.dayfile.specs.Opening.{offsets_in}
use Rattle.dayfile.proofs.Bytes.{length-offsets}
use Rattle.dayfile.proofs.Walks.{four_number}
use Rattle.dayfile.proofs.walking.walk.Goals as goal

pub returns : goal.returns
returns c = c.walk_beside.ensures (offsets_in c.args.index.now) (length-offsets _) (λ k n h e. four_number _ _ _ h (search rules))
