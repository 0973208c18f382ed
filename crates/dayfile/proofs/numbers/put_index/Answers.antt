-- `numbers::put_index` meets its contract: the offsets so far are written. Assumes nothing.
use mathlib.Core.Path.{sym}
use Rattle.text.proofs.Splice.{spliced_none}
use Rattle.dayfile.specs.DayFile.{index_of}
use Rattle.dayfile.proofs.Puts.{index_next}
use Rattle.dayfile.proofs.numbers.put_index.Goals as goal

pub loop-k-init : goal.loop-k-init
unfolding index_of
loop-k-init c = sym (spliced_none _ _)

pub loop-k-preserved : goal.loop-k-preserved
loop-k-preserved c = index_next _ _ _ _ _ c.requires c.loop-k-test.true c.loop-k.invariant c.put_number.ensures
