-- A feed that is kept, block by block, and what is put away of it: piece by piece its day file, and nothing else. Assumes nothing.
use Rattle.std.specs.Prelude.{ℕ, ◌+◌, ◌≤◌, ◌<◌, ◌≡◌, Bool, true, false, ◌&&◌, not, List, [], ◌++◌, ◌⊎◌, eqb, length}
use Rattle.cutter.specs.Feed.{lines_of, rest_of}
use Rattle.cutter.specs.Run.{at_end}
use Rattle.dayfile.specs.DayFile.{lines_text}
use Rattle.intake.specs.Edge.{Came}
use Rattle.keeper.specs.Keep.{is_past, looked_at, kept_in, day_file_of, Keeping}
use Rattle.keeper.specs.declared.shelf.Shelf.{Shelf}
use Rattle.keeper.specs.declared.work.Work.{Work}
use Rattle.keeper.specs.declared.work.Outcome.{Outcome}

-- ---- the edge

-- WHAT MAY BE PUT AWAY NEXT, after so many bytes, where so many bytes came: the lines that were kept of them and not yet put away; or index and trailer
pub data Piece (came put : ℕ) (text : List ℕ) : Type 0 where
  Lines : (feed before : List ℕ) → length feed ≡ came → put ≡ length before → lines_text (kept_in feed) ≡ before ++ text → Piece came put text
  Closing : (feed before : List ℕ) → length feed ≡ came → put ≡ length before → day_file_of feed ≡ before ++ text → Piece came put text

-- so many bytes more were put away, unless the shelf takes no more
abbrev pub PutAway : Shelf → ℕ → Shelf → Type 0
PutAway s size s' = s'.live ≡ true → s'.total ≡ s.total + size

-- ---- the work

-- there may be more: bytes came last, every line fitted, and all was put away
unfoldable pub is_on : Work → Bool
is_on w = w.input.live && (w.shelf.live && not w.keep.full)

-- the bytes of feed have come, and all lines kept of them were put away
pub record Stored (feed held offsets : List ℕ) (w : Work) : Type 0 where
  pub keeping : Keeping w.keep.place.at feed held [] offsets w.keep
  pub came : length feed ≡ w.input.total
  pub put : w.shelf.live ≡ true → w.shelf.total ≡ w.keep.place.at

abbrev pub IsStored : List ℕ → List ℕ → Work → Type 0
IsStored held offsets w = (feed : List ℕ) × Stored feed held offsets w

-- A BLOCK: what came was kept, and put away
pub record Works (w : Work) (size : ℕ) (held' offsets' : List ℕ) (w' : Work) : Type 0 where
  pub came : Came w.input size w'.input
  pub kept : IsStored held' offsets' w'

-- all that came is kept, unless a line did not fit or the shelf takes no more
abbrev pub Whole : List ℕ → List ℕ → Work → Type 0
Whole held offsets w = IsStored held offsets w × (is_on w ≡ false)

-- whatever stood in the cutter's buffer
abbrev pub Led : List ℕ → Work → Type 0
Led offsets w = (held : List ℕ) × IsStored held offsets w × (length offsets ≡ 65535)

-- index and trailer more, unless the shelf takes no more: of any feed whose lines were put away, the day file was
abbrev pub Closes : List ℕ → Work → Shelf → Type 0
Closes offsets w s = s.live ≡ true → (w.shelf.live ≡ true) × ((feed held : List ℕ) → Stored feed held offsets w → s.total ≡ length (day_file_of feed))

-- WHAT WAS PUT AWAY is the day file of the feed; the counts are those of its lines
pub record Done (r : Outcome) : Type 0 where
  pub feed : List ℕ
  pub came : length feed ≡ r.work.input.total
  pub lines : r.work.keep.lines ≡ looked_at [] (lines_of feed)
  pub full : r.work.keep.full ≡ is_past [] (lines_of feed)
  pub kept : r.work.keep.place.count ≡ length (kept_in feed)
  pub fewer : r.work.keep.place.count ≤ r.work.keep.lines
  -- "At the end a begun line .. answers 17, and is no line"
  pub torn : r.work.keep.full ≡ false → r.torn ≡ eqb (at_end (rest_of feed)) 17
  pub after : r.work.keep.full ≡ false → r.torn ≡ true → r.work.keep.lines < r.work.input.total
  pub put : r.work.shelf.live ≡ true → ((r.work.input.live ≡ false) ⊎ (r.work.keep.full ≡ true)) × (r.work.shelf.total ≡ length (day_file_of feed))
