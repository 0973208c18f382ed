-- `put_dz` meets its contract. Assumes nothing.
use mathlib.Core.Path.{refl}
use Rattle.planner.proofs.Ways.{dz_row, dz_entered, handed_err}
use Rattle.planner.proofs.put_dz.Goals as goal

pub write-requires : goal.write-requires
write-requires c = (c.requires.board_value, dz_row _ c.requires.board_value _ c.requires.key_value _ c.requires.value)

pub returns-in_err-write : goal.returns-in_err-write
returns-in_err-write c = dz_entered _ _ _ _ (handed_err _ _ c.from_residual.ensures.1) _ _ c.in_err-write.ensures

pub returns : goal.returns
returns c = dz_entered _ _ _ _ refl _ _ c.in_ok-write.ensures
