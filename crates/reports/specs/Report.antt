-- What the board printer prints for a feed (document 01, "The printer"): fixed by the bytes of the feed, given as one list, and by the limit
-- of lines. Assumes nothing.
use Rattle.std.specs.Prelude.{ℕ, List, [], ◌++◌}
use Rattle.board.specs.declared.rows.Row.{Row}
use Rattle.cutter.specs.Feed.{lines_of}
use Rattle.printer.specs.Text.{board_text, counts_text}
use Rattle.feeding.specs.Tally.{rows_by, taken_by, line_feeds}
use Rattle.feeding.specs.Fed.{read_in}

-- "It stops reading after 4,294,967,295 lines"; `proofs/Limit` shows that this is the greatest number that `print_counts` takes
abbrev pub most_lines : ℕ
most_lines = 4294967295

-- the rows after the lines of a text, from an empty board
abbrev pub rows_after_feed : List ℕ → List Row
rows_after_feed s = rows_by [] (lines_of s)

-- LINES: "counts line feeds"
abbrev pub lines_in : List ℕ → ℕ
lines_in s = line_feeds s

-- TAKEN: how many lines are taken, each on the board after those before it
abbrev pub taken_in : List ℕ → ℕ
taken_in s = taken_by [] (lines_of s)

abbrev pub report_on : List ℕ → List ℕ
report_on s = board_text (rows_after_feed s) ++ counts_text (lines_in s) (taken_in s)

unfoldable pub report_of : ℕ → List ℕ → List ℕ
report_of limit feed = report_on (read_in limit feed)
