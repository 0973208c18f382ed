-- The words of a row: how many an entry has, and the eleven as they are written. Assumes nothing.
use Rattle.std.specs.Prelude.{None, Option, Some}
use mathlib.Core.Path.{◌≡◌, refl}
use mathlib.Core.List.{[], ◌∷◌, ◌++◌}
use lib.ListN.{length, get_or}
use Rattle.board.specs.Row.{arrival_words, track_words, row_words}
use Rattle.board.specs.declared.rows.Row.{Row}
use Rattle.board.specs.declared.rows.Arrival.{Arrival}
use Rattle.board.specs.declared.rows.Track.{Track}

pub length_arrival : (a : Option Arrival) → length (arrival_words a) ≡ 4
unfolding arrival_words
length_arrival None = refl
length_arrival (Some a) = refl

pub length_track : (t : Option Track) → length (track_words t) ≡ 4
unfolding track_words
length_track None = refl
length_track (Some t) = refl

-- the key, the four words of each entry, and the two that are kept for later
pub eleven_words : (r : Row) → (let a = arrival_words r.arrival in let t = track_words r.track in
    r.key.0 ∷ get_or a 0 0 ∷ get_or a 1 0 ∷ get_or a 2 0 ∷ get_or a 3 0 ∷ get_or t 0 0 ∷ get_or t 1 0 ∷ get_or t 2 0 ∷ get_or t 3 0 ∷ 0 ∷ 0 ∷ []) ≡ row_words r
unfolding row_words arrival_words track_words
eleven_words r = by_cases r.arrival r.track
  where
    by_cases : (x : Option Arrival) (y : Option Track) → (let a = arrival_words x in let t = track_words y in
        r.key.0 ∷ get_or a 0 0 ∷ get_or a 1 0 ∷ get_or a 2 0 ∷ get_or a 3 0 ∷ get_or t 0 0 ∷ get_or t 1 0 ∷ get_or t 2 0 ∷ get_or t 3 0 ∷ 0 ∷ 0 ∷ []) ≡ r.key.0 ∷ (arrival_words x ++ (track_words y ++ 0 ∷ 0 ∷ []))
    by_cases None None = refl
    by_cases None (Some t) = refl
    by_cases (Some a) None = refl
    by_cases (Some a) (Some t) = refl
