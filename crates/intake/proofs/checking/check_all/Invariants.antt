-- `checking::check_all` meets its contract: what is kept stays so, block after block, until no more comes or is taken. Assumes nothing.
use mathlib.Core.Path.{◌≡◌}
use lib.ListN.{length}
use Rattle.intake.specs.Desk.{Kept}
use Rattle.intake.proofs.Desks.{still_to_come}
use Rattle.intake.proofs.checking.check_all.Given as goal

abbrev pub invariant-loop-asked : goal.invariant-loop-asked
invariant-loop-asked l = (Kept l.asked l.held l.work) × (length l.block ≡ length l.initial.block) × (length l.held ≡ length l.initial.held) × (length l.out ≡ length l.initial.out)

abbrev pub decreases-loop-asked : goal.decreases-loop-asked
decreases-loop-asked l = still_to_come l.work.input
