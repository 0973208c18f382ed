-- `work::keep_all` meets its contract: what is stored stays so, block after block, until no more comes, fits or is taken. Assumes nothing.
use mathlib.Core.Path.{◌≡◌}
use lib.ListN.{length}
use Rattle.intake.proofs.Desks.{still_to_come}
use Rattle.keeper.specs.Work.{IsStored}
use Rattle.keeper.proofs.work.keep_all.Given as goal

abbrev pub invariant-loop-block : goal.invariant-loop-block
invariant-loop-block l =
    (IsStored l.held l.offsets l.work) × (length l.block ≡ length l.initial.block) × (length l.held ≡ length l.initial.held)
    × (length l.out ≡ length l.initial.out) × (length l.offsets ≡ length l.initial.offsets)

abbrev pub decreases-loop-block : goal.decreases-loop-block
decreases-loop-block l = still_to_come l.work.input
