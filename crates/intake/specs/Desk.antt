-- What is kept from block to block while a feed is checked, and what is handed over: what is said of the bytes that came, each piece exactly its part.
-- Assumes nothing.
use Rattle.std.specs.Prelude.{ℕ, ◌+◌, ◌≤◌, ◌≡◌, Bool, true, false, ◌&&◌, List, ◌++◌, length}
use Rattle.cutter.specs.Feed.{lines_of}
use Rattle.checks.specs.Feed.{checks_of, checked_of, reads_in, Checked}
use Rattle.checks.specs.declared.Asked.{Asked}
use Rattle.intake.specs.Edge.{Came}
use Rattle.intake.specs.declared.output.Output.{Output}
use Rattle.intake.specs.declared.checking.Work.{Work}

-- ---- the edge

-- WHAT MAY BE HANDED OVER NEXT, after so many bytes, where so many bytes came: exactly what is said of what came more, or of the unended rest
pub data Next (asked : Asked) (came handed : ℕ) (text : List ℕ) : Type 0 where
  More : (feed part : List ℕ) → length (feed ++ part) ≡ came → handed ≡ length (checks_of asked feed) → checks_of asked (feed ++ part) ≡ checks_of asked feed ++ text → Next asked came handed text
  Last : (feed : List ℕ) → length feed ≡ came → handed ≡ length (checks_of asked feed) → checked_of asked feed ≡ checks_of asked feed ++ text → Next asked came handed text

-- so many bytes more were handed over, unless the output takes no more
abbrev pub Handed : Output → ℕ → Output → Type 0
Handed o size o' = o'.live ≡ true → o'.total ≡ o.total + size

-- ---- the work

-- there may be more: bytes came last, and what was said of them was taken
unfoldable pub is_on : Work → Bool
is_on w = w.input.live && w.output.live

-- the bytes of feed have been checked, as many as have come, and as many bytes as are said of them were handed over
pub record Said (asked : Asked) (feed held : List ℕ) (w : Work) : Type 0 where
  pub checked : Checked asked feed held w.sums (checks_of asked feed)
  pub came : length feed ≡ w.input.total
  pub handed : w.output.live ≡ true → w.output.total ≡ length (checks_of asked feed)

abbrev pub Kept : Asked → List ℕ → Work → Type 0
Kept asked held w = (feed : List ℕ) × Said asked feed held w

-- A BLOCK: what came was checked, and what is said of it handed over
pub record Works (asked : Asked) (w : Work) (size : ℕ) (held' : List ℕ) (w' : Work) : Type 0 where
  pub came : Came w.input size w'.input
  pub kept : Kept asked held' w'

-- all that came has been checked, unless the output takes no more
abbrev pub Whole : Asked → List ℕ → Work → Type 0
Whole asked held w = Kept asked held w × (is_on w ≡ false)

-- WHAT WAS HANDED OVER is what is said of the feed, with its unended rest; the sums are those of its lines
pub record Done (asked : Asked) (w : Work) : Type 0 where
  pub feed : List ℕ
  pub came : length feed ≡ w.input.total
  pub lines : w.sums.lines ≡ length (lines_of feed)
  pub read : w.sums.read ≡ reads_in asked.rule (lines_of feed)
  pub fewer : w.sums.read ≤ w.sums.lines
  pub handed : w.output.live ≡ true → (w.input.live ≡ false) × (w.output.total ≡ length (checked_of asked feed))
