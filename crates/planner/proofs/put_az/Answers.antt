-- `put_az` meets its contract. Assumes nothing.
use mathlib.Core.Path.{refl}
use Rattle.planner.proofs.Ways.{az_row, az_entered, handed_err}
use Rattle.planner.proofs.put_az.Goals as goal

pub write-requires : goal.write-requires
write-requires c = (c.requires.board_value, az_row _ c.requires.board_value _ c.requires.key_value _ c.requires.value _ c.look-track.ensures)

pub returns-in_err-write : goal.returns-in_err-write
returns-in_err-write c = az_entered _ _ _ _ (handed_err _ _ c.from_residual.ensures.1) _ _ _ c.look-track.ensures c.in_err-write.ensures

pub returns : goal.returns
returns c = az_entered _ _ _ _ refl _ _ _ c.look-track.ensures c.in_ok-write.ensures
