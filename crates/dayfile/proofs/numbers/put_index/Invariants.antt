-- `numbers::put_index` meets its contract: the offsets so far are written. Assumes nothing.
use mathlib.Core.Path.{◌≡◌}
use lib.ListN.{take}
use Rattle.text.specs.Text.{spliced}
use Rattle.dayfile.specs.DayFile.{index_of}
use Rattle.dayfile.proofs.numbers.put_index.Given as goal

abbrev pub invariant-loop-k : goal.invariant-loop-k
invariant-loop-k l = l.out ≡ spliced l.initial.out l.at (index_of (take l.k l.offsets))
