-- What the inner functions of the printer write and ask for. The printer's own promise is in the words of specs/Print. Assumes nothing.
use Rattle.std.specs.Prelude.{ℕ, ◌+◌, ◌≤◌, ◌≡◌, true, List, [], ◌∷◌, ◌++◌, length}
use Rattle.board.specs.Board.{rows_of, is_allowed}
use Rattle.printer.specs.RowText.{rows_text}
use Rattle.text.specs.Decimal.{decimal}
use Rattle.printer.specs.Print.{text_in}

-- a name with its space, a number, and the byte after it
unfoldable pub counted : List ℕ → ℕ → ℕ → List ℕ
counted name n after = name ++ decimal n ++ after ∷ []

-- an allowed board, and room for its rows from place `at`
pub record RowsAsk (board out : List ℕ) (at : ℕ) : Type 0 where
  pub good : is_allowed board ≡ true
  pub room : at + length (rows_text (rows_of board)) ≤ length out

-- and room for its whole text
pub record BoardAsks (board out : List ℕ) (at : ℕ) : Type 0 where
  pub good : is_allowed board ≡ true
  pub room : at + length (text_in board) ≤ length out
