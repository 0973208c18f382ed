-- A file judged by windows, its lines and its index side by side, as far as a sweep has come. Whatever file shows these windows is judged as `open` judges it
-- whole. Assumes nothing.
use Rattle.std.specs.Prelude.{ℕ, ◌+◌, ◌*◌, ◌-◌, ◌^◌, ◌≤◌, ◌<◌, ◌≡◌, true, List, ◌⊎◌, length, take, drop, Err, Ok}
use Rattle.dayfile.specs.DayFile.{lines_text, starts_from, each_may_keep}
use Rattle.dayfile.specs.Opening.{offsets_in, open_by, index_part, tail_of, open_of}
use Rattle.dayfile.specs.declared.Trailer.{Trailer}
use Rattle.dayfile.specs.declared.Contents.{Contents}
use Rattle.dayfile.specs.declared.walking.Sweep.{Sweep}
use Rattle.dayfile.specs.declared.NotOpened.TheVariants.{WrongLines}

-- the file's last bytes tell these contents, and its first bytes are so many lines, each beginning at its offset
pub record Swept (t : Trailer) (file : List ℕ) (c : Contents) (w : Sweep) : Type 0 where
  pub told : open_by t (length file) (tail_of t file) ≡ Ok c
  pub run : List (List ℕ)
  pub inside : w.at ≤ c.start
  pub text : take w.at file ≡ lines_text run
  pub each : each_may_keep run ≡ true
  pub many : w.lines ≡ length run
  pub fewer : w.lines ≤ c.lines
  pub starts : take w.lines (offsets_in (index_part c file)) ≡ starts_from 0 run

-- s is what stands in the file from a place on
abbrev pub Shows : List ℕ → ℕ → List ℕ → Type 0
Shows file place s = take (length s) (drop place file) ≡ s

-- a window of the lines that reaches to the index, or has room for any line; and one of the index, of at least one offset
pub record Wide (c : Contents) (w : Sweep) (s index : List ℕ) : Type 0 where
  pub near : c.start < 2 ^ 63
  pub before : w.at + length s ≤ c.start
  pub enough : (w.at + length s ≡ c.start) ⊎ (2049 ≤ length s)
  pub offsets : ℕ
  pub whole : length index ≡ 4 * offsets
  pub some : 0 < offsets
  pub there : w.lines + offsets ≤ c.lines

-- how far the next windows bring a sweep
pub record Sweeps (c : Contents) (w : Sweep) (s index : List ℕ) (w' : Sweep) : Type 0 where
  pub from : w.at ≤ w'.at
  pub to : w'.at ≤ w.at + length s
  pub more : w.lines ≤ w'.lines
  pub most : w'.lines ≤ c.lines
  -- the bytes between are whole lines
  pub run : List (List ℕ)
  pub lines : take (w'.at - w.at) s ≡ lines_text run
  pub each : each_may_keep run ≡ true
  -- WHATEVER FILE SHOWS THESE WINDOWS is judged so far; and where no line more was found, it is refused (23)
  pub judged : (t : Trailer) (file : List ℕ) → Swept t file c w → Shows file w.at s → Shows file (c.start + 4 * w.lines) index
      → Swept t file c w' × (w'.lines ≡ w.lines → open_of t file ≡ Err WrongLines)
