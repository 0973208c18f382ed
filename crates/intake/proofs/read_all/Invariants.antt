-- `read_all` meets its contract: what is kept stays so, block after block, until no more comes. Assumes nothing.
use mathlib.Core.Path.{◌≡◌}
use lib.ListN.{length}
use Rattle.intake.specs.Day.{Kept}
use Rattle.intake.proofs.Days.{to_come}
use Rattle.intake.proofs.read_all.Given as goal

abbrev pub invariant-loop-block : goal.invariant-loop-block
invariant-loop-block l = (Kept l.board l.held l.day) × (length l.block ≡ length l.initial.block) × (length l.board ≡ length l.initial.board) × (length l.held ≡ length l.initial.held)

abbrev pub decreases-loop-block : goal.decreases-loop-block
decreases-loop-block l = to_come l.day
