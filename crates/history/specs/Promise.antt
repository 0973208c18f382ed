-- Demand 3: what the rows are after any run of lines and strikes from an empty board, against the customer's words.
-- Assumes nothing.
use Rattle.std.specs.Prelude.{ℕ, ◌≤◌, ◌↔◌, ◌≡◌, true, List, length, None, Some}
use Rattle.std.proofs.Math.Option.{some}
use Rattle.board.specs.Rows.{is_board, Rising, lookup, look_row, is_listed}
use Rattle.board.specs.declared.rows.Row.{Row}
use Rattle.board.specs.declared.rows.Arrival.{Arrival}
use Rattle.board.specs.declared.rows.Track.{Track}
use Rattle.history.specs.Events.{Event, History, ◌then◌, all_events}
use Rattle.history.specs.Steps.{Took, Refused, NoRoom, NotListed, answer, after}
use Rattle.history.specs.Demand.{About, StrikeOf, Senseless, Listed, ArrivalOf, TrackOf, MeetsFull, Meaning}

-- the rows rs show of each flight what h says of it, once it is said what was taken
pub record Shows (Taken : History → Event → Type 0) (rs : List Row) (h : History) : Type 0 where
  -- "a flight is listed exactly if a DZ, AZ or TZ for it was taken since it was last struck off"
  pub listed : (k : ℕ) → (is_listed rs k ≡ true) ↔ Listed Taken k h
  pub row : (k : ℕ) → ((r : Row) × (lookup k rs ≡ some r)) ↔ Listed Taken k h
  -- "its arrival entry is that of the latest such DZ or AZ, or none"
  pub the_arrival : (k : ℕ) (a : Arrival) → ((look_row k rs).arrival ≡ Some a) ↔ ArrivalOf Taken k a h
  pub no_arrival : (k : ℕ) → ((look_row k rs).arrival ≡ None) ↔ ((a : Arrival) → ArrivalOf Taken k a h → ⊥)
  -- "its track is that of the latest such TZ, and it has none if there is no such TZ or such a DZ came after it"
  pub the_track : (k : ℕ) (t : Track) → ((look_row k rs).track ≡ Some t) ↔ TrackOf Taken k t h
  pub no_track : (k : ℕ) → ((look_row k rs).track ≡ None) ↔ ((t : Track) → TrackOf Taken k t h → ⊥)
  -- "One row per listed flight, at most 256, in byte order of the key"
  pub rising : Rising rs
  pub room : length rs ≤ 256

-- e was taken when it came after h: it was answered 0
abbrev pub Taken : History → Event → Type 0
Taken h e = answer (after h) e ≡ Took

pub record Demand3 : Type 0 where
  -- "Taken: read and not refused for a full board, which happens exactly to a readable DZ, AZ or TZ of a flight not listed
  -- while 256 others are"; and when the other answers are given
  pub taken : Meaning Taken
  pub full : (h : History) (e : Event) → (answer (after h) e ≡ NoRoom) ↔ MeetsFull Taken h e
  pub missing : (h : History) (e : Event) → (answer (after h) e ≡ NotListed) ↔ ((k : ℕ) × StrikeOf k e × (Listed Taken k h → ⊥))
  pub refused : (h : History) (e : Event) → (answer (after h) e ≡ Refused) ↔ Senseless e
  -- "From an empty board, after any run of lines and strikes"
  pub shows : (h : History) → Shows Taken (after h) h
  -- "One line or strike alters at most one flight": that which it is about; every other flight's row stays
  pub one : (h : History) (e : Event) (j k : ℕ) → (lookup j (after (h then e)) ≡ lookup j (after h) → ⊥)
      → (lookup k (after (h then e)) ≡ lookup k (after h) → ⊥) → j ≡ k
  pub others : (h : History) (e : Event) (k : ℕ) → (About k e → ⊥) → lookup k (after (h then e)) ≡ lookup k (after h)
  -- "A board is allowed exactly if ..": after events such as a line could give, it is
  pub allowed : (h : History) → all_events h ≡ true → is_board (after h) ≡ true
