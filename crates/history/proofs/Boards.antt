-- A board that is allowed stays so, whatever line or strike comes, if its key and its entry are such as a line could
-- give. Assumes nothing.
use mathlib.Core.Path.{◌≡◌}
use mathlib.Core.Bool.{true}
use mathlib.Core.List.{List}
use Rattle.board.specs.Rows.{is_board}
use Rattle.board.specs.declared.rows.Row.{Row}
use Rattle.board.proofs.Kept.{fair, board_of}
use Rattle.history.specs.Events.{Event, History, is_event, all_events}
use Rattle.history.specs.Steps.{rows_after, after}
use Rattle.history.proofs.Allowed.{step_allowed, after_allowed}
use Rattle.history.proofs.Turns.{step_rising, step_room, after_rising, after_room}

pub step_board : (rs : List Row) (e : Event) → is_event e ≡ true → is_board rs ≡ true → is_board (rows_after rs e) ≡ true
step_board rs e p q =
    let b = fair rs q in
    board_of (rows_after rs e) (record { count = step_room rs e b.count; rows = step_allowed rs e p b.rows; rising = step_rising rs e b.rising })

pub after_board : (h : History) → all_events h ≡ true → is_board (after h) ≡ true
after_board h p = board_of (after h) (record { count = after_room h; rows = after_allowed h p; rising = after_rising h })
