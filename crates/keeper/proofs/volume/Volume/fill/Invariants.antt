-- `fill` meets its contract. The measure is what is left of the window. Assumes nothing.
use Prim.Native.Nat.{◌≤◌}
use lib.ListN.{length}
use Rattle.keeper.proofs.volume.Volume.fill.Given as goal

abbrev pub invariant-loop-self : goal.invariant-loop-self
invariant-loop-self l = length l.rest ≤ l.size

abbrev pub decreases-loop-self : goal.decreases-loop-self
decreases-loop-self l = length l.rest
