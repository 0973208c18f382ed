-- `apply_line` meets its contract. Assumes nothing.
use Rattle.feeding.proofs.Ways.{line_as}
use Rattle.feeding.proofs.apply_line.Goals as goal

pub returns-in-Ok : goal.returns-in-Ok
returns-in-Ok c =
    let both = line_as _ _ _ _ c.apply_allowed-answer.ensures _ c.in-Ok.is in
    record { value = both.0; board_after = both.1 }

pub returns-in-Err-Line : goal.returns-in-Err-Line
returns-in-Err-Line c =
    let both = line_as _ _ _ _ c.apply_allowed-answer.ensures _ c.in-Err-Line.is in
    record { value = both.0; board_after = both.1 }

pub returns-in-Err : goal.returns-in-Err
returns-in-Err c =
    let both = line_as _ _ _ _ c.apply_allowed-answer.ensures _ c.in-Err.is in
    record { value = both.0; board_after = both.1 }
