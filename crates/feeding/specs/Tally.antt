-- What lines do to the rows, and how many of them are taken; how many line feeds a text has, and where the last of so many stands
-- (document 01, "The printer": "LINES counts line feeds"; "It stops reading after 4,294,967,295 lines"). Assumes nothing.
use Rattle.std.specs.Prelude.{ℕ, zero, suc, ◌+◌, cond, List, [], ◌∷◌, eqb}
use Rattle.board.specs.declared.rows.Row.{Row}
use Rattle.history.specs.Events.{Event, unread}
use Rattle.history.specs.Steps.{Answer, Took, Refused, NoRoom, NotListed, rows_after, answer}
use Rattle.planner.specs.Apply.{line_event}
use Rattle.rules.specs.Frame.{line_feed}
use Rattle.cutter.specs.Feed.{Line, Whole, TooLong}

-- a line as the board sees it; an overlong one has no reading
unfoldable pub event_of : Line → Event
event_of (Whole s) = line_event s
event_of TooLong = unread

-- the rows after lines, one after the other
unfoldable pub rows_by : List Row → List Line → List Row
rows_by rs [] = rs
rows_by rs (l ∷ ls) = rows_by (rows_after rs (event_of l)) ls

-- how many of the lines are taken: answered 0
abbrev pub one : Answer → ℕ
one Took = 1
one Refused = 0
one NoRoom = 0
one NotListed = 0

unfoldable pub taken_by : List Row → List Line → ℕ
taken_by rs [] = 0
taken_by rs (l ∷ ls) = one (answer rs (event_of l)) + taken_by (rows_after rs (event_of l)) ls

-- ---- line feeds

unfoldable pub line_feeds : List ℕ → ℕ
line_feeds [] = 0
line_feeds (x ∷ s) = cond (eqb x line_feed) (suc (line_feeds s)) (line_feeds s)

-- how many bytes of s are read where at most n lines are: up to and with the n-th line feed, else all
unfoldable pub read_of : ℕ → List ℕ → ℕ
read_of zero s = 0
read_of (suc n) [] = 0
read_of (suc n) (x ∷ s) = suc (cond (eqb x line_feed) (read_of n s) (read_of (suc n) s))
