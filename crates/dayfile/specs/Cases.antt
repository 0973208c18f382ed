-- When each number is answered, in the sentences of document 02, a. Assumes nothing.
use Rattle.std.specs.Prelude.{ℕ, ◌+◌, ◌*◌, ◌-◌, ◌≤◌, ◌<◌, ◌≡◌, true, false, List, ◌⊎◌, length, take, drop}
use Rattle.shapes.specs.Cut.{has}
use Rattle.dayfile.specs.DayFile.{trailer_size, lines_text, starts_from, each_may_keep}
use Rattle.dayfile.specs.Opening.{start_by, count_by, version_by, offsets_in, tail_of}
use Rattle.dayfile.specs.declared.Trailer.{Trailer}
use Rattle.dayfile.specs.declared.Place.{Place}

-- the bytes s are exactly as many lines as there are offsets, "each with its line feed, of at most 2,048 bytes, each starting at its offset"
pub record AreLines (s offsets : List ℕ) : Type 0 where
  pub run : List (List ℕ)
  pub text : s ≡ lines_text run
  pub each : each_may_keep run ≡ true
  pub starts : offsets ≡ starts_from 0 run

-- ---- "Reading checks 20 to 23 in that order"

module _ (t : Trailer) (file : List ℕ) where
  abbrev tail : List ℕ
  tail = tail_of t file

  -- no "20 file under eight bytes", no "21 version unknown"
  abbrev pub IsVersioned : Type 0
  IsVersioned = (trailer_size t ≤ length file) × (version_by t tail ≡ t.version)

  -- no "22 start plus index plus trailer isn't the file's length"
  abbrev pub IsMeasured : Type 0
  IsMeasured = start_by tail + 4 * count_by t tail + trailer_size t ≡ length file

  -- no "23 the bytes before the index aren't exactly that many lines, .."
  abbrev pub IsLined : Type 0
  IsLined = AreLines (take (start_by tail) file) (offsets_in (take (4 * count_by t tail) (drop (start_by tail) file)))

  pub data OpenCase : ℕ → Type 0 where
    Short : length file < trailer_size t → OpenCase 20
    Version : trailer_size t ≤ length file → (version_by t tail ≡ t.version → ⊥) → OpenCase 21
    Length : IsVersioned → (IsMeasured → ⊥) → OpenCase 22
    Lines : IsVersioned → IsMeasured → (IsLined → ⊥) → OpenCase 23
    Day : IsVersioned → IsMeasured → IsLined → OpenCase 0

-- ---- "writing 2, 25, 24, then 15, also for a full run of offsets", into a buffer that is the file from its byte `base` on

module _ (most base : ℕ) (l out offsets : List ℕ) (p : Place) where
  -- no 2, no "25 a line feed inside a kept line"
  abbrev pub IsKeepable : Type 0
  IsKeepable = (length l ≤ 2048) × (has 10 l ≡ false)

  -- "24 too many lines or bytes"
  abbrev pub IsTooMany : Type 0
  IsTooMany = (most ≤ p.count) ⊎ (4294967296 ≤ p.at + length l + 1)

  pub data KeepCase : ℕ → Type 0 where
    Long : 2048 < length l → KeepCase 2
    Feed : length l ≤ 2048 → has 10 l ≡ true → KeepCase 25
    Many : IsKeepable → IsTooMany → KeepCase 24
    Room : IsKeepable → (IsTooMany → ⊥) → (length out < p.at - base + length l + 1) ⊎ (length offsets ≤ p.count) → KeepCase 15
    Taken : IsKeepable → (IsTooMany → ⊥) → p.at - base + length l + 1 ≤ length out → p.count < length offsets → KeepCase 0

-- ---- "ending a file 13 where lines and offsets disagree, 24, 15"

module _ (t : Trailer) (out offsets : List ℕ) (p : Place) where
  -- the bytes and the offsets are there, and the bytes are these lines
  abbrev pub Agrees : Type 0
  Agrees = (p.at ≤ length out) × (p.count ≤ length offsets) × AreLines (take p.at out) (take p.count offsets)

  abbrev pub IsOverfull : Type 0
  IsOverfull = (t.most < p.count) ⊎ (4294967296 ≤ p.at)

  pub data EndCase : ℕ → Type 0 where
    Disagree : (Agrees → ⊥) → EndCase 13
    Overfull : Agrees → IsOverfull → EndCase 24
    NoRoom : Agrees → (IsOverfull → ⊥) → length out < p.at + 4 * p.count + trailer_size t → EndCase 15
    Whole : Agrees → (IsOverfull → ⊥) → p.at + 4 * p.count + trailer_size t ≤ length out → EndCase 0
