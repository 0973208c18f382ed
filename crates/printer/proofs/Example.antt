-- The example of document 01 is printed as it stands there. antt computes it. Assumes nothing.
use mathlib.Core.Path.{◌≡◌, refl}
use Rattle.text.specs.Class.{is_digit, is_letter}
use Rattle.text.specs.Code.{code_of, byte_of}
use Rattle.text.specs.Place.{value, places, digits}
use Rattle.text.specs.Text.{packed, text_of}
use Rattle.text.specs.Number.{padded}
use Rattle.printer.specs.RowText.{line_text, row_text, rows_text}
use Rattle.text.specs.Decimal.{width_by, decimal}
use Rattle.printer.specs.Text.{board_text, counts_text}
use Rattle.printer.specs.Example.{example_rows, example_board, example_counts}

pub example_board_lem : board_text example_rows ≡ example_board
unfolding board_text rows_text row_text line_text text_of digits byte_of packed value code_of is_digit is_letter decimal padded places width_by
example_board_lem = refl

pub example_counts_lem : counts_text 5 4 ≡ example_counts
unfolding counts_text line_text byte_of decimal padded places width_by
example_counts_lem = refl
