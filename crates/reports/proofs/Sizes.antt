-- How long a report can be: at most 18,300 bytes, whatever the feed, so that a buffer of 32,768 bytes always holds it. Assumes nothing.
use mathlib.Core.Path.{◌≡◌, refl, ap}
use mathlib.Core.Bool.{true}
use mathlib.Core.List.{List, [], ◌∷◌}
use Prim.Native.Nat.{ℕ, ◌+◌, ◌*◌, ◌≤◌}
use native.Mathlib.Omega.{arith}
use lib.ListN.{length, length-append}
use Rattle.text.specs.Bytes.{bytes}
use Rattle.board.specs.Rows.{CAP, all_rows, rises_by_bytes, is_board}
use Rattle.board.specs.declared.rows.Row.{Row}
use Rattle.board.proofs.Kept.{fair}
use Rattle.board.proofs.Allowed.{cap_is}
use Rattle.rules.specs.Frame.{line_feed}
use Rattle.printer.specs.RowText.{line_text, rows_text}
use Rattle.text.specs.Decimal.{decimal}
use Rattle.text.proofs.Decimal.{decimal_short}
use Rattle.printer.specs.Text.{board_text, counts_text}
use Rattle.printer.proofs.Counts.{counted_size, flights_line, counts_size}
use Rattle.printer.proofs.Boards.{rows_width}
use Rattle.cutter.specs.Feed.{lines_of}
use Rattle.feeding.specs.Fed.{read_in}
use Rattle.feeding.proofs.Turns.{rows_allowed}
use Rattle.reports.specs.Report.{rows_after_feed, lines_in, taken_in, report_on, report_of}

-- ---- the lines before and after the rows

flights_short : (n : ℕ) → length (line_text (bytes "FLIGHTS" ∷ decimal n ∷ [])) ≤ 29
flights_short n = omega (arith, ap length (flights_line n), counted_size (bytes "FLIGHTS ") n line_feed, decimal_short n)

counts_short : (lines taken : ℕ) → length (counts_text lines taken) ≤ 54
counts_short lines taken = omega (arith, counts_size lines taken, decimal_short lines, decimal_short taken)

-- ---- the board

no_rows : is_board [] ≡ true
unfolding is_board CAP all_rows rises_by_bytes
no_rows = refl

-- rows that a board allows are at most 256, of at most 71 bytes each
board_short : (rs : List Row) → is_board rs ≡ true → length (board_text rs) ≤ 29 + 71 * 256
unfolding board_text
board_short rs e =
    let p = fair rs e in
    omega (
      arith,
      length-append (line_text (bytes "FLIGHTS" ∷ decimal (length rs) ∷ [])) (rows_text rs),
      flights_short (length rs),
      rows_width rs p.rows,
      p.count,
      cap_is,
    )

-- ---- the report

on_short : (s : List ℕ) → length (report_on s) ≤ 18300
on_short s =
    omega (
      arith,
      length-append (board_text (rows_after_feed s)) (counts_text (lines_in s) (taken_in s)),
      board_short (rows_after_feed s) (rows_allowed [] (lines_of s) no_rows),
      counts_short (lines_in s) (taken_in s),
    )

-- THE LAW
pub report_size : (limit : ℕ) (feed : List ℕ) → length (report_of limit feed) ≤ 18300
unfolding report_of
report_size limit feed = on_short (read_in limit feed)
