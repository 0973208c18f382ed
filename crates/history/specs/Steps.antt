-- What a line or a strike makes of the rows, and what it is answered; and the rows after a run of them from an empty
-- board. Assumes nothing.
use Rattle.std.specs.Prelude.{ℕ, cond, List, [], None, Some}
use Rattle.board.specs.Rows.{key_of, look_row, written, fits, struck, is_listed}
use Rattle.board.specs.declared.rows.Row.{Row}
use Rattle.board.specs.declared.rows.Arrival.{Arrival}
use Rattle.board.specs.declared.rows.Track.{Track}
use Rattle.history.specs.Events.{Event, dz, az, tz, other, unread, strike, misnamed, History, start, ◌then◌}

-- taken; without a reading, or no key; board full; flight not listed
pub data Answer : Type 0 where
  Took : Answer
  Refused : Answer
  NoRoom : Answer
  NotListed : Answer

-- ---- the row that a line leaves, from the row that the flight has

-- "DZ writes the arrival entry and empties the track"
abbrev pub by_dz : ℕ → Arrival → Row → Row
by_dz k a r = record { key = record { 0 = k }; arrival = Some a; track = None }

-- "AZ writes the arrival entry"
abbrev pub by_az : ℕ → Arrival → Row → Row
by_az k a r = record { key = record { 0 = k }; arrival = Some a; track = r.track }

-- "TZ writes the track"
abbrev pub by_tz : ℕ → Track → Row → Row
by_tz k t r = record { key = record { 0 = k }; arrival = r.arrival; track = Some t }

-- ---- what an event asks of the rows: to write a row, to strike a flight off, or nothing, and what is answered then

pub data Ask : Type 0 where
  Put : Row → Ask
  Strike : ℕ → Ask
  Nothing : Answer → Ask

abbrev pub ask : List Row → Event → Ask
ask rs (dz k a) = Put (by_dz k a (look_row k rs))
ask rs (az k a) = Put (by_az k a (look_row k rs))
ask rs (tz k t) = Put (by_tz k t (look_row k rs))
ask rs other = Nothing Took
ask rs unread = Nothing Refused
ask rs (strike k) = Strike k
ask rs misnamed = Nothing Refused

abbrev pub rows_by : List Row → Ask → List Row
rows_by rs (Put r) = written rs r
rows_by rs (Strike k) = struck rs k
rows_by rs (Nothing a) = rs

abbrev pub answer_by : List Row → Ask → Answer
answer_by rs (Put r) = cond (fits rs (key_of r)) Took NoRoom
answer_by rs (Strike k) = cond (is_listed rs k) Took NotListed
answer_by rs (Nothing a) = a

-- ---- one event: the rows after it, and the answer

unfoldable pub rows_after : List Row → Event → List Row
rows_after rs e = rows_by rs (ask rs e)

unfoldable pub answer : List Row → Event → Answer
answer rs e = answer_by rs (ask rs e)

-- the rows after a history, "from an empty board"
unfoldable pub after : History → List Row
after start = []
after (h then e) = rows_after (after h) e
