-- A line or a strike, as the board sees it, and a history of them ("Order is order of arrival; stamps may go back").
-- Assumes nothing.
use Rattle.std.specs.Prelude.{ℕ, Bool, true, ◌&&◌, Some}
use Rattle.rules.specs.Kind.{KEY}
use Rattle.fields.specs.Word.{is_word}
use Rattle.board.specs.Row.{is_arrival, is_track}
use Rattle.board.specs.declared.rows.Arrival.{Arrival}
use Rattle.board.specs.declared.rows.Track.{Track}

-- a readable DZ, AZ or TZ with the flight's key and what it writes; any other readable line ("Other types change nothing
-- and need no room"); a line without a reading; a strike of a key; and a strike of what is no key
pub data Event : Type 0 where
  dz : ℕ → Arrival → Event
  az : ℕ → Arrival → Event
  tz : ℕ → Track → Event
  other : Event
  unread : Event
  strike : ℕ → Event
  misnamed : Event

infixl 40 ◌then◌
-- lines and strikes in the order in which they came
pub data History : Type 0 where
  start : History
  ◌then◌ : History → Event → History

-- ---- events such as a line could give: a key, and "entries such as a line could give"

abbrev pub is_event : Event → Bool
is_event (dz k a) = is_word KEY k && is_arrival (Some a)
is_event (az k a) = is_word KEY k && is_arrival (Some a)
is_event (tz k t) = is_word KEY k && is_track (Some t)
is_event other = true
is_event unread = true
is_event (strike k) = true
is_event misnamed = true

abbrev pub all_events : History → Bool
all_events start = true
all_events (h then e) = all_events h && is_event e
