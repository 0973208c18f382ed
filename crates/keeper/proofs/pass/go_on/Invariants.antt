-- `go_on` meets its contract: window after window, the pass stands where a file of that size would have it. Assumes nothing.
use mathlib.Core.Path.{◌≡◌}
use Prim.Native.Nat.{◌-◌}
use lib.ListN.{length}
use Rattle.keeper.proofs.Passes.{Going}
use Rattle.keeper.proofs.pass.go_on.Given as goal

abbrev pub invariant-loop-volume : goal.invariant-loop-volume
invariant-loop-volume l = Going l.volume.size l.day l.writes l.pass × (length l.lines ≡ length l.initial.lines) × (length l.index ≡ length l.initial.index)

abbrev pub decreases-loop-volume : goal.decreases-loop-volume
decreases-loop-volume l = l.day.lines - l.pass.sweep.lines
