-- `keep::keep_part` meets its contract: what was kept so far is what the bytes used so far bring, until a line does not fit. Assumes nothing.
use Prim.Native.Nat.{◌-◌}
use lib.ListN.{length}
use Rattle.keeper.proofs.Parts.{Partly}
use Rattle.keeper.proofs.keep.keep_part.Given as goal

abbrev pub invariant-loop-used : goal.invariant-loop-used
invariant-loop-used l = Partly l.base l.initial.held l.initial.out l.initial.offsets l.initial.now l.part l.held l.out l.offsets l.now l.used

abbrev pub decreases-loop-used : goal.decreases-loop-used
decreases-loop-used l = length l.part - l.used
