-- The board as text (document 01, "The printer"): the line of flights before the rows, and that of lines and taken after them.
-- Assumes nothing.
use Rattle.std.specs.Prelude.{ℕ, List, [], ◌∷◌, ◌++◌, length}
use Rattle.text.specs.Bytes.{bytes}
use Rattle.board.specs.declared.rows.Row.{Row}
use Rattle.printer.specs.RowText.{line_text, rows_text}
use Rattle.text.specs.Decimal.{decimal}

unfoldable pub board_text : List Row → List ℕ
board_text rs = line_text (bytes "FLIGHTS" ∷ decimal (length rs) ∷ []) ++ rows_text rs

unfoldable pub counts_text : ℕ → ℕ → List ℕ
counts_text lines taken = line_text (bytes "LINES" ∷ decimal lines ∷ bytes "TAKEN" ∷ decimal taken ∷ [])
