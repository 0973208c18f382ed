-- THE DAY FILE OF A FEED (document 02, a): its lines of at most 2,048 bytes, in order, as long as the run of them may be kept; and what is kept from block to block
-- while the feed comes. Assumes nothing.
use Rattle.std.specs.Prelude.{ℕ, suc, ◌+◌, ◌-◌, ◌≤◌, ◌<◌, ◌^◌, ◌≡◌, Bool, true, false, cond, List, [], ◌∷◌, ◌++◌, length, take, drop, Err, Ok, Result}
use Rattle.shapes.specs.Pieces.{pieces}
use Rattle.rules.specs.Frame.{line_feed}
use Rattle.cutter.specs.Feed.{Line, Whole, TooLong, lines_of}
use Rattle.cutter.specs.State.{Bytes, state_in, is_allowed}
use Rattle.cutter.specs.Told.{state_after}
use Rattle.cutter.specs.declared.Begun.{Begun}
use Rattle.cutter.specs.declared.Begun.TheVariants.{Held, Overlong}
use Rattle.dayfile.specs.DayFile.{version1, lines_text, starts_from, file_of, is_run}
use Rattle.dayfile.specs.Keeping.{kept_of, out_after, run_after}
use Rattle.keeper.specs.declared.keep.Keep.{Keep}
use Rattle.keeper.specs.declared.keep.Turn.{Turn}
use Rattle.dayfile.specs.declared.NotKept.TheVariants.{LineFeed, NoRoom, TooLong, TooMany}
use Rattle.dayfile.specs.declared.NotKept.{NotKept}
use Rattle.dayfile.specs.declared.Place.{Place}

-- ---- the lines that are kept

-- those kept before, and then each whole line, until the run with it may not be kept
unfoldable pub kept_after : List (List ℕ) → List Line → List (List ℕ)
kept_after kept [] = kept
kept_after kept (TooLong ∷ ls) = kept_after kept ls
kept_after kept (Whole l ∷ ls) = cond (is_run version1 (kept ++ l ∷ [])) (kept_after (kept ++ l ∷ []) ls) kept

-- some line did not fit: the feed is read no further
unfoldable pub is_past : List (List ℕ) → List Line → Bool
is_past kept [] = false
is_past kept (TooLong ∷ ls) = is_past kept ls
is_past kept (Whole l ∷ ls) = cond (is_run version1 (kept ++ l ∷ [])) (is_past (kept ++ l ∷ []) ls) true

-- how many lines were looked at, the one that did not fit among them
unfoldable pub looked_at : List (List ℕ) → List Line → ℕ
looked_at kept [] = 0
looked_at kept (TooLong ∷ ls) = suc (looked_at kept ls)
looked_at kept (Whole l ∷ ls) = suc (cond (is_run version1 (kept ++ l ∷ [])) (looked_at (kept ++ l ∷ []) ls) 0)

abbrev pub kept_in : List ℕ → List (List ℕ)
kept_in feed = kept_after [] (lines_of feed)

unfoldable pub day_file_of : List ℕ → List ℕ
day_file_of feed = file_of version1 (kept_in feed)

-- ---- THE BYTES OF FEED HAVE COME: what is kept of them, with the file's bytes from `base` on at the start of out
pub record Keeping (base : ℕ) (feed held out offsets : List ℕ) (k : Keep) : Type 0 where
  -- until a line does not fit, the cutter's state is the one that the feed leads to
  pub cutter : k.full ≡ false → (is_allowed held k.begun ≡ true) × (state_in held k.begun ≡ state_after (Bytes []) (pieces line_feed feed))
  pub lines : k.lines ≡ looked_at [] (lines_of feed)
  pub full : k.full ≡ is_past [] (lines_of feed)
  pub count : k.place.count ≡ length (kept_in feed)
  pub at : k.place.at ≡ length (lines_text (kept_in feed))
  pub starts : take k.place.count offsets ≡ starts_from 0 (kept_in feed)
  pub before : base ≤ k.place.at
  pub text : take (k.place.at - base) out ≡ drop base (lines_text (kept_in feed))

-- ---- a line that a cut told of, if it did

-- by what `keep_from` answered; a line that does not fit is the last that is looked at
unfoldable pub counted_line : Result Place NotKept → Keep → Keep
counted_line (Ok q) k = record { begun = k.begun; lines = k.lines + 1; place = q; full = false }
counted_line (Err TooLong) k = record { begun = k.begun; lines = k.lines + 1; place = k.place; full = true }
counted_line (Err LineFeed) k = record { begun = k.begun; lines = k.lines + 1; place = k.place; full = true }
counted_line (Err TooMany) k = record { begun = k.begun; lines = k.lines + 1; place = k.place; full = true }
counted_line (Err NoRoom) k = record { begun = k.begun; lines = k.lines + 1; place = k.place; full = true }

-- what is left by it
pub record Left : Type 0 where
  pub keep : Keep
  pub out : List ℕ
  pub offsets : List ℕ

abbrev pub line_left : Result Place NotKept → ℕ → List ℕ → List ℕ → List ℕ → Keep → Left
line_left a base l out offsets k = record { keep = counted_line a k; out = out_after a base l out k.place; offsets = run_after a offsets k.place }

unfoldable pub told_left : ℕ → List Line → List ℕ → List ℕ → Keep → Left
told_left base [] out offsets k = record { keep = k; out = out; offsets = offsets }
told_left base (TooLong ∷ ls) out offsets k = record { keep = record { begun = k.begun; lines = k.lines + 1; place = k.place; full = false }; out = out; offsets = offsets }
told_left base (Whole l ∷ ls) out offsets k = line_left (kept_of 65535 base l out offsets k.place) base l out offsets k

abbrev pub TakesUp : ℕ → List Line → List ℕ → List ℕ → Keep → List ℕ → List ℕ → Keep → Type 0
TakesUp base ls out offsets k out' offsets' k' = ◌≡◌ {A = Left} (record { keep = k'; out = out'; offsets = offsets' }) (told_left base ls out offsets k)

-- ---- one line of a part, or all of it where none ends there

-- how many bytes of a begun line stand in the cutter's buffer
unfoldable pub held_bytes : Begun → ℕ
held_bytes (Held n) = n
held_bytes Overlong = 0

-- room for what is begun and what is left of the part, and for every offset
pub record Roomy (base : ℕ) (held rest out offsets : List ℕ) (k : Keep) : Type 0 where
  pub going : k.full ≡ false
  pub allowed : is_allowed held k.begun ≡ true
  pub few : k.lines + length rest < 2 ^ 64
  pub before : base ≤ k.place.at
  pub bytes : (k.place.at - base) + held_bytes k.begun + length rest ≤ length out
  pub run : length offsets ≡ 65535

-- AFTER ANY FEED that led here, the bytes s have come too
abbrev pub GoesOn : ℕ → List ℕ → List ℕ → List ℕ → Keep → List ℕ → List ℕ → List ℕ → List ℕ → Keep → Type 0
GoesOn base held out offsets k s held' out' offsets' k' = (feed : List ℕ) → Keeping base feed held out offsets k → Keeping base (feed ++ s) held' out' offsets' k'

pub record Steps (base : ℕ) (held rest out offsets : List ℕ) (k : Keep) (held' out' offsets' : List ℕ) (r : Turn) : Type 0 where
  pub some : 0 < r.used
  pub within : r.used ≤ length rest
  pub before : base ≤ r.keep.place.at
  pub inside : r.keep.place.at - base ≤ length out'
  pub goes : GoesOn base held out offsets k (take r.used rest) held' out' offsets' r.keep
  pub still : r.keep.full ≡ false → Roomy base held' (drop r.used rest) out' offsets' r.keep
