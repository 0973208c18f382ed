-- Lines kept one by one, "taken or refused", from an empty buffer and an empty run on. Assumes nothing.
use Rattle.std.specs.Prelude.{ℕ, ◌≡◌, List, [], ◌∷◌, ◌++◌, Err, Ok, Result}
use Rattle.dayfile.specs.Keeping.{kept_of, out_after, run_after, ended_of, out_ended}
use Rattle.dayfile.specs.declared.Trailer.{Trailer}
use Rattle.dayfile.specs.declared.Place.{Place}
use Rattle.dayfile.specs.declared.NotKept.TheVariants.{LineFeed, NoRoom, TooLong, TooMany}
use Rattle.dayfile.specs.declared.NotEnded.{NotEnded}
use Rattle.dayfile.specs.declared.NotKept.{NotKept}

-- what `keep_line` and `end_file` promise of a call: the result, the buffer and the run as they are left. `proofs/Theorems` shows that these are the promises in
-- the source.
abbrev pub Keeps : ℕ → List ℕ → List ℕ → List ℕ → Place → Result Place NotKept → List ℕ → List ℕ → Type 0
Keeps most l out offsets p r out' offsets' = (r ≡ kept_of most 0 l out offsets p) × (out' ≡ out_after r 0 l out p) × (offsets' ≡ run_after r offsets p)

abbrev pub Ends : Trailer → List ℕ → List ℕ → Place → Result ℕ NotEnded → List ℕ → Type 0
Ends t out offsets p r out' = (r ≡ ended_of t out offsets p) × (out' ≡ out_ended r t out offsets p)

-- the place that a call hands on, and the line that it took
unfoldable pub place_after : Result Place NotKept → Place → Place
place_after (Ok q) p = q
place_after (Err TooLong) p = p
place_after (Err LineFeed) p = p
place_after (Err TooMany) p = p
place_after (Err NoRoom) p = p

unfoldable pub taken_by : Result Place NotKept → List ℕ → List (List ℕ)
taken_by (Ok q) l = l ∷ []
taken_by (Err TooLong) l = []
taken_by (Err LineFeed) l = []
taken_by (Err TooMany) l = []
taken_by (Err NoRoom) l = []

-- the buffer, the run and the place after any calls, and the lines that were taken
pub data Run (most : ℕ) : List ℕ → List ℕ → Place → List (List ℕ) → Type 0 where
  begun : {out offsets : List ℕ} → Run most out offsets (record { at = 0; count = 0 }) []
  called : {out offsets : List ℕ} {p : Place} {ls : List (List ℕ)} {r : (Result Place NotKept)} {out' offsets' : List ℕ}
      → Run most out offsets p ls
      → (l : List ℕ)
      → Keeps most l out offsets p r out' offsets'
      → Run most out' offsets' (place_after r p) (ls ++ taken_by r l)
