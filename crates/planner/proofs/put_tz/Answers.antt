-- `put_tz` meets its contract. Assumes nothing.
use mathlib.Core.Path.{refl}
use Rattle.planner.proofs.Ways.{tz_row, tz_entered, handed_err}
use Rattle.planner.proofs.put_tz.Goals as goal

pub write-requires : goal.write-requires
write-requires c = (c.requires.board_value, tz_row _ c.requires.board_value _ c.requires.key_value _ c.requires.value _ c.look-arrival.ensures)

pub returns-in_err-write : goal.returns-in_err-write
returns-in_err-write c = tz_entered _ _ _ _ (handed_err _ _ c.from_residual.ensures.1) _ _ _ c.look-arrival.ensures c.in_err-write.ensures

pub returns : goal.returns
returns c = tz_entered _ _ _ _ refl _ _ _ c.look-arrival.ensures c.in_ok-write.ensures
