-- Lines walked beside their offsets, from a place of the file on. Assumes nothing.
use Rattle.std.specs.Prelude.{ℕ, ◌+◌, ◌≤◌, ◌<◌, ◌≡◌, true, cond, ◌&&◌, List, ◌⊎◌, leb, length, take, drop, get_or}
use Rattle.shapes.specs.Cut.{up_to, has}
use Rattle.rules.specs.Frame.{line_feed, longest_line}
use Rattle.dayfile.specs.DayFile.{lines_text, starts_from, each_may_keep}
use Rattle.dayfile.specs.declared.walking.Walked.{Walked}

-- how many bytes the line at the start of s has, its line feed with it; 0 where no line of at most 2,048 bytes ends there
unfoldable pub line_size : List ℕ → ℕ
line_size s = cond (has line_feed s && leb (up_to line_feed s) longest_line) (up_to line_feed s + 1) 0

-- why a walk stops at this place: its offsets are all used; the next is another; or no line begins there
abbrev pub Stops : ℕ → List ℕ → List ℕ → Type 0
Stops place s offsets = (length offsets ≡ 0) ⊎ ((get_or offsets 0 0 ≡ place → ⊥) ⊎ (line_size s ≡ 0))

-- what is asked for at an index is the offset that stands there
abbrev pub Tells : (ℕ → ℕ → Type 0) → List ℕ → Type 0
Tells Gives offsets = (k n : ℕ) → k < length offsets → Gives k n → n ≡ get_or offsets k 0

-- lines at the start of s, the first at the place `from` of the file, each beginning at its offset, until that stops
pub record Walks (from : ℕ) (s offsets : List ℕ) (r : Walked) : Type 0 where
  pub run : List (List ℕ)
  pub inside : r.used ≤ length s
  pub text : take r.used s ≡ lines_text run
  pub each : each_may_keep run ≡ true
  pub many : r.lines ≡ length run
  pub fewer : r.lines ≤ length offsets
  pub starts : take r.lines offsets ≡ starts_from from run
  pub stops : Stops (from + r.used) (drop r.used s) (drop r.lines offsets)
