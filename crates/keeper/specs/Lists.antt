-- A day file read by windows: what it answers, and what is put away of its lines. Assumes nothing.
use Rattle.std.specs.Prelude.{ℕ, ◌+◌, ◌*◌, ◌-◌, ◌≤◌, min, ◌≡◌, Bool, true, false, cond, ◌&&◌, not, List, ◌++◌, ◌⊎◌, eqb, ltb, length, take, Err, Ok, Result}
use Rattle.dayfile.specs.DayFile.{version1, lines_text, each_may_keep}
use Rattle.dayfile.specs.Opening.{open_by, open_of, tail_of}
use Rattle.dayfile.specs.Windows.{Swept, Shows, Sweeps}
use Rattle.dayfile.specs.declared.Contents.{Contents}
use Rattle.keeper.specs.Work.{PutAway}
use Rattle.keeper.specs.declared.shelf.Shelf.{Shelf}
use Rattle.keeper.specs.declared.volume.Filled.{Filled}
use Rattle.keeper.specs.declared.pass.Pass.{Pass}
use Rattle.dayfile.specs.declared.NotOpened.TheVariants.{WrongLines}
use Rattle.dayfile.specs.declared.NotOpened.{NotOpened}

-- ---- the edge

-- WHAT MAY BE PUT AWAY NEXT of a day file's lines, after so many bytes: whole lines after whole lines, each such as may be kept
pub record LinesPiece (put : ℕ) (text : List ℕ) : Type 0 where
  pub done : List (List ℕ)
  pub next : List (List ℕ)
  pub place : put ≡ length (lines_text done)
  pub lines : text ≡ lines_text next
  pub each : each_may_keep (done ++ next) ≡ true

-- so many bytes are whole lines, each such as may be kept
pub record AfterLines (put : ℕ) : Type 0 where
  pub done : List (List ℕ)
  pub place : put ≡ length (lines_text done)
  pub each : each_may_keep done ≡ true

-- a pass that only judges puts nothing away
pub record Puts (writes : Bool) (s : Shelf) (size : ℕ) (s' : Shelf) : Type 0 where
  pub still : writes ≡ false → s' ≡ s
  pub away : writes ≡ true → PutAway s size s'

-- the window s was read, from this place of the file on, and all its bytes came
abbrev pub ReadFrom : ℕ → List ℕ → Filled → Type 0
ReadFrom place s f = (f.from ≡ place) × (f.size ≡ length s) × (f.came ≡ f.size)

-- ---- the answer: that of `open` on a file of this size, whose windows were read
pub record Judged (size : ℕ) (r : Result Contents NotOpened) : Type 0 where
  pub file : List ℕ
  pub sized : length file ≡ size
  pub answer : r ≡ open_of version1 file

-- what a file of this size tells by its last bytes: 20 to 22, or its contents
pub record Told (size : ℕ) (r : Result Contents NotOpened) : Type 0 where
  pub file : List ℕ
  pub sized : length file ≡ size
  pub tells : r ≡ open_by version1 (length file) (tail_of version1 file)

-- ---- a pass over the windows of a file: how far it came, and what was put away if it writes
pub record Passing (size : ℕ) (c : Contents) (writes : Bool) (p : Pass) : Type 0 where
  pub file : List ℕ
  pub sized : length file ≡ size
  pub swept : Swept version1 file c p.sweep
  pub silent : writes ≡ false → (p.shelf.total ≡ 0) × (p.shelf.live ≡ true)
  pub put : writes ≡ true → p.shelf.live ≡ true → p.shelf.total ≡ p.sweep.at

-- the parts of two buffers that are filled from where a pass stands
abbrev pub lines_window : Contents → Pass → List ℕ → List ℕ
lines_window c p lines = take (min (c.start - p.sweep.at) (length lines)) lines

abbrev pub index_window : Contents → Pass → List ℕ → List ℕ
index_window c p index = take (min (4 * (c.lines - p.sweep.lines)) (length index)) index

-- a window could not be read
abbrev pub unread_of : Pass → Pass
unread_of p = record { sweep = p.sweep; shelf = p.shelf; read = false }

-- two windows judged, and their lines put away
pub record Judges (c : Contents) (writes : Bool) (p : Pass) (s index : List ℕ) (p' : Pass) : Type 0 where
  pub sweeps : Sweeps c p.sweep s index p'.sweep
  pub puts : Puts writes p.shelf (p'.sweep.at - p.sweep.at) p'.shelf
  pub read : p'.read ≡ true

-- AFTER ONE WINDOW OF EACH, as they stand in the buffers: whatever file shows them is judged further, or refused (23)
pub record Turns (size : ℕ) (c : Contents) (writes : Bool) (p : Pass) (lines index : List ℕ) (p' : Pass) : Type 0 where
  pub windows : p'.read ≡ true → Sweeps c p.sweep (lines_window c p lines) (index_window c p index) p'.sweep
  pub passing : Passing size c writes p'
  pub more : p.sweep.lines ≤ p'.sweep.lines
  pub stuck : p'.read ≡ true → p'.sweep.lines ≡ p.sweep.lines → Judged size (Err WrongLines)

-- a pass that stood at `before` lines has come further, and not to the last
unfoldable pub goes_on : Contents → ℕ → Pass → Bool
goes_on c before p = p.read && (p.shelf.live && (not (eqb p.sweep.lines before) && ltb p.sweep.lines c.lines))

-- all windows were read, unless the shelf takes no more: to the last offset, or to where a file that shows these windows is refused (23)
pub record Passed (size : ℕ) (c : Contents) (writes : Bool) (p : Pass) : Type 0 where
  pub passing : Passing size c writes p
  pub ended : p.read ≡ true → p.shelf.live ≡ true → (p.sweep.lines ≡ c.lines) ⊎ Judged size (Err WrongLines)

-- what a pass that could read all says: 0 or 23
unfoldable pub verdict_of : Contents → Pass → Result Contents NotOpened
verdict_of c p = cond (eqb p.sweep.lines c.lines) (cond (eqb p.sweep.at c.start) (Ok c) (Err WrongLines)) (Err WrongLines)

-- ---- TURN AFTER TURN OVER ONE FILE: each as `turn` promises it, from the first byte and the first offset on, its windows read, and shown by the file.
-- `proofs/ListTheorems` shows that these are the promises in the source.
pub data Over (size : ℕ) (c : Contents) (writes : Bool) (file : List ℕ) : Pass → Type 0 where
  begun : (p : Pass) → p.sweep ≡ record { at = 0; lines = 0 } → Over size c writes file p
  turned : {p p' : Pass} {lines index : List ℕ}
      → Over size c writes file p
      → Turns size c writes p lines index p'
      → p'.read ≡ true
      → Shows file p.sweep.at (lines_window c p lines)
      → Shows file (c.start + 4 * p.sweep.lines) (index_window c p index)
      → Over size c writes file p'
