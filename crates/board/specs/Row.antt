-- A row of the board (document 01, "Board"): "A row has an arrival entry (two points, clock, stamp of its line) or none,
-- and a track (speed, level, position, stamp) or none; not both none". And its words: a word for each field, zeros for a
-- missing entry, and two zeros more, kept for what a row may hold later. Assumes nothing.
use Rattle.std.specs.Prelude.{ℕ, Bool, true, false, cond, not, ◌&&◌, List, [], ◌∷◌, ◌++◌, eqb, get_or, None, Option, Some}
use Rattle.rules.specs.Kind.{STAMP, KEY, POINT, ARRIVAL, GROUND_SPEED, TRACK_LEVEL, POSITION}
use Rattle.fields.specs.Word.{is_word}
use Rattle.board.specs.declared.rows.Row.{Row}
use Rattle.board.specs.declared.rows.Arrival.{Arrival}
use Rattle.board.specs.declared.rows.Track.{Track}

-- ---- which rows are allowed

-- "entries such as a line could give"
unfoldable pub is_arrival : Option Arrival → Bool
is_arrival None = true
is_arrival (Some a) = is_word POINT a.departure.0 && is_word POINT a.destination.0 && is_word ARRIVAL a.clock.0 && is_word STAMP a.stamp.0

unfoldable pub is_track : Option Track → Bool
is_track None = true
is_track (Some t) = is_word GROUND_SPEED t.speed.0 && is_word TRACK_LEVEL t.level.0 && is_word POSITION t.position.0 && is_word STAMP t.stamp.0

-- "not both none"
unfoldable pub has_entry : Option Arrival → Option Track → Bool
has_entry None None = false
has_entry None (Some t) = true
has_entry (Some a) t = true

-- "keys of ident form without slash or computer number"
unfoldable pub is_row : Row → Bool
is_row r = is_word KEY r.key.0 && is_arrival r.arrival && is_track r.track && has_entry r.arrival r.track

-- ---- the words of a row

unfoldable pub arrival_words : Option Arrival → List ℕ
arrival_words None = 0 ∷ 0 ∷ 0 ∷ 0 ∷ []
arrival_words (Some a) = a.departure.0 ∷ a.destination.0 ∷ a.clock.0 ∷ a.stamp.0 ∷ []

unfoldable pub track_words : Option Track → List ℕ
track_words None = 0 ∷ 0 ∷ 0 ∷ 0 ∷ []
track_words (Some t) = t.speed.0 ∷ t.level.0 ∷ t.position.0 ∷ t.stamp.0 ∷ []

unfoldable pub row_words : Row → List ℕ
row_words r = r.key.0 ∷ (arrival_words r.arrival ++ (track_words r.track ++ 0 ∷ 0 ∷ []))

-- ---- the row of words; no text is 0, so an entry is there exactly if its first word is not 0

unfoldable pub arrival_of : ℕ → ℕ → ℕ → ℕ → Option Arrival
arrival_of a b c d =
    cond (eqb a 0) None (Some (record { departure = record { 0 = a }; destination = record { 0 = b }; clock = record { 0 = c }; stamp = record { 0 = d } }))

unfoldable pub track_of : ℕ → ℕ → ℕ → ℕ → Option Track
track_of a b c d =
    cond (eqb a 0) None (Some (record { speed = record { 0 = a }; level = record { 0 = b }; position = record { 0 = c }; stamp = record { 0 = d } }))

unfoldable pub row_of : List ℕ → Row
row_of w =
    record {
      key = record { 0 = get_or w 0 0 };
      arrival = arrival_of (get_or w 1 0) (get_or w 2 0) (get_or w 3 0) (get_or w 4 0);
      track = track_of (get_or w 5 0) (get_or w 6 0) (get_or w 7 0) (get_or w 8 0);
    }

-- ---- the words of an allowed row. `proofs/RowWords` shows that these are the words of the rows that are allowed, and no others

unfoldable pub is_arrival_words : ℕ → ℕ → ℕ → ℕ → Bool
is_arrival_words a b c d =
    cond (eqb a 0) (eqb b 0 && eqb c 0 && eqb d 0) (is_word POINT a && is_word POINT b && is_word ARRIVAL c && is_word STAMP d)

unfoldable pub is_track_words : ℕ → ℕ → ℕ → ℕ → Bool
is_track_words a b c d =
    cond (eqb a 0) (eqb b 0 && eqb c 0 && eqb d 0) (is_word GROUND_SPEED a && is_word TRACK_LEVEL b && is_word POSITION c && is_word STAMP d)

unfoldable pub is_row_words : List ℕ → Bool
is_row_words w =
    is_word KEY (get_or w 0 0) && is_arrival_words (get_or w 1 0) (get_or w 2 0) (get_or w 3 0) (get_or w 4 0)
    && is_track_words (get_or w 5 0) (get_or w 6 0) (get_or w 7 0) (get_or w 8 0)
    && not (eqb (get_or w 1 0) 0 && eqb (get_or w 5 0) 0) && eqb (get_or w 9 0) 0 && eqb (get_or w 10 0) 0
