-- THE PRINTED CASE of document 01, from the bytes of the feed to the bytes of the output: the report of the five lines is the whole output, and whatever the
-- parts in which they are read, this is what is printed. Assumes nothing.
use Rattle.std.specs.Prelude.{Ok, Result}
use Prim.Native.Nat.{ℕ, ◌+◌, ◌≤◌}
use mathlib.Core.List.{List, [], ◌∷◌, map}
use mathlib.Core.Path.{◌≡◌, refl, sym, ap, ◌∙◌}
use native.Mathlib.Omega.{arith}
use lib.ListN.{length}
use Rattle.text.specs.Bytes.{bytes}
use Rattle.text.specs.Class.{is_digit, is_letter}
use Rattle.text.specs.Code.{code_of}
use Rattle.text.specs.Place.{value}
use Rattle.text.specs.Text.{packed, spliced}
use Rattle.shapes.specs.Cut.{up_to, has}
use Rattle.shapes.specs.Pieces.{none_has}
use Rattle.board.specs.Rows.{CAP, fits, written as placed, look_row}
use Rattle.history.specs.Steps.{rows_after, answer}
use Rattle.line.specs.Read.{read_of, line_number, line_place}
use Rattle.planner.specs.Apply.{line_event}
use Rattle.planner.proofs.Answers.{asks_number}
use Rattle.planner.proofs.Examples.{asks}
use Rattle.cutter.specs.Feed.{feed_of, Line, Whole, line_of, lines_of}
use Rattle.cutter.specs.declared.Begun.{Begun}
use Rattle.cutter.proofs.Feeds.{feed_only}
use Rattle.printer.specs.Example.{example_rows, example_board}
use Rattle.printer.specs.Print.{text_in}
use Rattle.printer.specs.Text.{board_text}
use Rattle.printer.proofs.Example.{example_board_lem, example_counts_lem}
use Rattle.feeding.specs.Tally.{event_of, rows_by, taken_by, line_feeds}
use Rattle.feeding.specs.Fed.{read_in}
use Rattle.feeding.proofs.Theorems.{reads_all}
use Rattle.reports.specs.Printed.{line1, line2, line3, line4, line5, example_input, example_output}
use Rattle.reports.specs.Report.{most_lines, lines_in, report_of}
use Rattle.reports.specs.Run.{Read, Prints, Counts}
use Rattle.reports.proofs.Limit.{report_of_limit}
use Rattle.reports.proofs.PrintedLines.{asks_later}
use Rattle.reports.proofs.Theorems.{read_stands, report_printed}
use Rattle.printer.specs.declared.NotPrinted.{NotPrinted}
use Rattle.text.specs.declared.NotWritten.{NotWritten}

-- the lines of the input
abbrev texts : List (List ℕ)
texts = bytes line1 ∷ bytes line2 ∷ bytes line3 ∷ bytes line4 ∷ bytes line5 ∷ []

abbrev five : List Line
five = map Whole texts

its_lines : lines_of example_input ≡ five
unfolding lines_of line_of feed_of none_has has up_to
its_lines = ap (map line_of) (feed_only texts [] refl refl).0

its_feeds : lines_in example_input ≡ 5
unfolding line_feeds
its_feeds = refl

all_read : read_in most_lines example_input ≡ example_input
all_read = reads_all most_lines example_input (rw its_feeds (omega arith))

-- what they make of an empty board, and how many are taken
its_rows : rows_by [] five ≡ example_rows
unfolding rows_by event_of line_event rows_after placed look_row CAP packed value code_of is_digit is_letter
its_rows = rw (asks.0, asks.1, asks_later.0, asks_later.1, asks_later.2)

its_taken : taken_by [] five ≡ 4
unfolding taken_by event_of line_event rows_after answer fits placed look_row CAP packed value code_of is_digit is_letter
its_taken = rw (asks.0, asks.1, asks_later.0, asks_later.1, asks_later.2)

-- THE PRINTED CASE: "for this input .. the whole output is .."
pub printed_case : report_of most_lines example_input ≡ example_output
printed_case =
    report_of_limit example_input (rw its_feeds (omega arith))
    ∙ rw (its_lines, its_feeds, its_rows, its_taken, example_board_lem, example_counts_lem)

-- "The last line read answers 9, place 1."
pub last_line : (line_number (read_of (bytes line5)) ≡ 9) × (line_place (read_of (bytes line5)) ≡ 1)
last_line = let q = asks_number (bytes line5) _ asks_later.2 in (sym q.0, sym q.1)

-- WHATEVER THE PARTS in which this input is read, `print` at a place and `print_counts` after it write the whole output there, where it fits, and every other
-- byte stays
pub printed_in_parts : {board held : List ℕ} {begun : Begun} {lines taken : ℕ} → Read most_lines example_input board held begun lines taken
    → (out : List ℕ) (at : ℕ) → at + length example_output ≤ length out
    → (r : Result ℕ NotPrinted) (out₁ : List ℕ) → Prints board out at r out₁
    → (r ≡ Ok (at + length example_board))
    × ((w : Result ℕ NotWritten) (out₂ : List ℕ) → Counts lines taken out₁ (at + length example_board) w out₂
    → (w ≡ Ok (at + length example_output)) × (out₂ ≡ spliced out at example_output))
printed_in_parts {board} p out at room r out₁ c =
    let q = read_stands most_lines p in
    let b : text_in board ≡ example_board = ap board_text (q.rows ∙ rw (all_read, its_lines) its_rows) ∙ example_board_lem in
    rw (printed_case, b) at (report_printed most_lines p out at (rw printed_case room) r out₁ c)
