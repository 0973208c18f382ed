-- `enter` meets its contract. Assumes nothing.
use Rattle.feeding.proofs.Ways.{buffer_entered, part_entered, none_entered}
use borrow.Enum.Refused.{opened}
use Rattle.feeding.proofs.enter.Goals as goal

pub returns-in-InBuffer : goal.returns-in-InBuffer
returns-in-InBuffer c =
    let both = buffer_entered _ _ _ _ _ c.line.ensures _ _ (c.apply_line.ensures.value, c.apply_line.ensures.board_after) _ c.in-InBuffer.is in
    record { value = both.0; board_after = both.1 }

pub returns-in-InPart : goal.returns-in-InPart
returns-in-InPart c =
    let both = part_entered _ _ _ _ _ c.line-in-InPart.ensures _ _ (c.apply_line-in-InPart.ensures.value, c.apply_line-in-InPart.ensures.board_after) _ c.in-InPart.is in
    record { value = both.0; board_after = both.1 }

pub returns-in_default : goal.returns-in_default
returns-in_default c =
    let both = none_entered _ _ _ _ c.requires (opened c.in_default.in_default-own.keys3) in
    record { value = both.0; board_after = both.1 }
