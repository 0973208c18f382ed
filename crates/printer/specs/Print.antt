-- Printing a board (document 01, "Answer numbers"): "Printing a board: 13, 15". What `print` answers, and the buffer after it; and when `print_counts`
-- answers 15. Assumes nothing.
use Rattle.std.specs.Prelude.{ℕ, ◌+◌, ◌≡◌, true, false, cond, List, length, Err, Ok, Result}
use Rattle.text.specs.Text.{has_room, spliced}
use Rattle.board.specs.Board.{rows_of, is_allowed}
use Rattle.printer.specs.Text.{board_text, counts_text}
use Rattle.printer.specs.declared.NotPrinted.TheVariants.{NoRoom, NotAllowed}
use Rattle.printer.specs.declared.NotPrinted.{NotPrinted}

abbrev pub text_in : List ℕ → List ℕ
text_in board = board_text (rows_of board)

unfoldable pub print_of : List ℕ → List ℕ → ℕ → Result ℕ NotPrinted
print_of board out at = cond (is_allowed board) (cond (has_room (text_in board) out at) (Ok (at + length (text_in board))) (Err NoRoom)) (Err NotAllowed)

unfoldable pub out_after : List ℕ → List ℕ → ℕ → List ℕ
out_after board out at = cond (is_allowed board) (cond (has_room (text_in board) out at) (spliced out at (text_in board)) out) out

abbrev pub print_number : Result ℕ NotPrinted → ℕ
print_number (Ok n) = 0
print_number (Err NoRoom) = 15
print_number (Err NotAllowed) = 13

-- a call of `print`: its number, and the buffer that is left
pub data PrintCase (board out : List ℕ) (at : ℕ) : ℕ → List ℕ → Type 0 where
  -- "a board .. these rules do not allow"
  BoardNotAllowed : is_allowed board ≡ false → PrintCase board out at 13 out
  -- "output doesn't fit from the given place to the buffer's end"
  NoRoomLeft : is_allowed board ≡ true → has_room (text_in board) out at ≡ false → PrintCase board out at 15 out
  Fits : is_allowed board ≡ true → has_room (text_in board) out at ≡ true → PrintCase board out at 0 (spliced out at (text_in board))

-- a call of `print_counts`, of any two counts: its number, and the buffer that is left
pub data CountsCase (lines taken : ℕ) (out : List ℕ) (at : ℕ) : ℕ → List ℕ → Type 0 where
  CountsNoRoom : has_room (counts_text lines taken) out at ≡ false → CountsCase lines taken out at 15 out
  CountsFit : has_room (counts_text lines taken) out at ≡ true → CountsCase lines taken out at 0 (spliced out at (counts_text lines taken))
