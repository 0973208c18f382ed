-- "Entries such as a line could give", "keys of ident form without slash or computer number" (document 01, "Board"): said of lines. Assumes
-- nothing.
use Rattle.std.specs.Prelude.{ℕ, ◌≤◌, ◌≡◌, true, List, [], ◌∷◌, length, None, Some}
use Rattle.board.specs.Rows.{rises_by_bytes}
use Rattle.board.specs.Board.{words_of}
use Rattle.board.specs.declared.rows.Arrival.{Arrival}
use Rattle.board.specs.declared.rows.Track.{Track}
use Rattle.board.specs.declared.rows.Row.{Row}
use Rattle.history.specs.Events.{dz, az, tz}
use Rattle.planner.specs.Apply.{line_event}

-- some DZ or AZ writes the arrival entry a
pub data GivesArrival (a : Arrival) : Type 0 where
  ByDz : (s : List ℕ) (k : ℕ) → line_event s ≡ dz k a → GivesArrival a
  ByAz : (s : List ℕ) (k : ℕ) → line_event s ≡ az k a → GivesArrival a

-- some TZ writes the track t
pub data GivesTrack (t : Track) : Type 0 where
  ByTz : (s : List ℕ) (k : ℕ) → line_event s ≡ tz k t → GivesTrack t

-- some DZ, AZ or TZ is of the flight k
pub data GivesKey (k : ℕ) : Type 0 where
  OfDz : (s : List ℕ) (a : Arrival) → line_event s ≡ dz k a → GivesKey k
  OfAz : (s : List ℕ) (a : Arrival) → line_event s ≡ az k a → GivesKey k
  OfTz : (s : List ℕ) (t : Track) → line_event s ≡ tz k t → GivesKey k

-- a row of which lines give the key and each entry that it has; "no row with both none"
pub record GivesRow (r : Row) : Type 0 where
  pub key : GivesKey r.key.0
  pub arrived : (a : Arrival) → r.arrival ≡ Some a → GivesArrival a
  pub tracked : (t : Track) → r.track ≡ Some t → GivesTrack t
  pub some : r.arrival ≡ None → r.track ≡ None → ⊥

abbrev pub EachGiven : List Row → Type 0
EachGiven [] = Unit
EachGiven (r ∷ rs) = GivesRow r × EachGiven rs

-- "A board is allowed exactly if it has at most 256 rows, keys of ident form .., strictly rising, entries such as a line could give, and no
-- row with both none"; l are its words
pub record GivesBoard (l : List ℕ) : Type 0 where
  pub rows : List Row
  pub words : l ≡ words_of rows
  pub few : length rows ≤ 256
  pub rising : rises_by_bytes rows ≡ true
  pub each : EachGiven rows
