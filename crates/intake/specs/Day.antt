-- What is kept from block to block of a feed, and what is said of the feed in the end: the board, the cutter's buffer and state, and the
-- counts that reading it leaves, whatever its blocks were. Assumes nothing.
use Rattle.std.specs.Prelude.{ℕ, ◌-◌, ◌≡◌, Bool, false, ◌&&◌, List, ◌++◌, eqb, ltb, length, take, replicate}
use Rattle.text.specs.Text.{spliced}
use Rattle.rules.specs.Frame.{longest_line}
use Rattle.cutter.specs.Feed.{rest_of}
use Rattle.cutter.specs.Run.{at_end}
use Rattle.cutter.specs.Calls.{end_of, end_number}
use Rattle.cutter.specs.declared.Begun.{Begun}
use Rattle.feeding.specs.Fed.{read_in}
use Rattle.reports.specs.Report.{most_lines, report_of}
use Rattle.reports.specs.Run.{Read}
use Rattle.intake.specs.Edge.{Came}
use Rattle.intake.specs.declared.Day.{Day}
use Rattle.intake.specs.declared.Reported.{Reported}

-- the bytes of feed have been read
abbrev pub ReadTo : List ℕ → List ℕ → List ℕ → Day → Type 0
ReadTo feed board held d = Read most_lines feed board held d.begun d.lines d.taken

-- the bytes of some feed have been read, as many as have come
abbrev pub Kept : List ℕ → List ℕ → Day → Type 0
Kept board held d = (feed : List ℕ) × ReadTo feed board held d × (length feed ≡ d.input.total)

-- after any feed, the bytes of block more have been read
abbrev pub TakesIn : List ℕ → List ℕ → Day → List ℕ → List ℕ → List ℕ → Day → Type 0
TakesIn board held d block board' held' d' = (feed : List ℕ) → ReadTo feed board held d → ReadTo (feed ++ block) board' held' d'

-- the bytes that came between d and d', which stand at the start of block
abbrev pub came_in : Day → List ℕ → Day → List ℕ
came_in d block d' = take (d'.input.total - d.input.total) block

-- A BLOCK THAT WAS READ IS TAKEN IN AS A WHOLE: what came, and nothing else
pub record Reads (board held : List ℕ) (d : Day) (block board' held' : List ℕ) (d' : Day) : Type 0 where
  pub came : Came d.input (length block) d'.input
  pub taken_in : TakesIn board held d (came_in d block d') board' held' d'

-- there may be more: bytes came last, and "it stops reading after 4,294,967,295 lines"
unfoldable pub is_more : Day → Bool
is_more d = d.input.live && ltb d.lines most_lines

-- all that came has been read, to the end, to a read that failed, or to the last line that is read
abbrev pub ReadWhole : List ℕ → List ℕ → Day → Type 0
ReadWhole board held d = Kept board held d × (is_more d ≡ false)

-- some feed has led to this board and these counts
abbrev pub Led : List ℕ → Day → Type 0
Led board d = (held : List ℕ) × Kept board held d

-- no report is longer (`reports/proofs/Sizes`)
abbrev pub longest_report : ℕ
longest_report = 18300

-- out' is out with the report of the feed that was read at its start, r bytes long; every other byte as it was
abbrev pub Fills : List ℕ → Day → List ℕ → ℕ → List ℕ → Type 0
Fills board d out r out' = (feed held : List ℕ) → ReadTo feed board held d → (r ≡ length (report_of most_lines feed)) × (out' ≡ spliced out 0 (report_of most_lines feed))

-- the board without rows, and a buffer for the cutter
abbrev pub AtStart : List ℕ → List ℕ → Type 0
AtStart board held = (board ≡ replicate (length board) 0) × (length board ≡ 2817) × (length held ≡ longest_line)

-- the end of the feed inside a line
unfoldable pub is_torn : List ℕ → Begun → Bool
is_torn held begun = eqb (end_number (end_of held begun).answer) 17

-- WHAT IS HANDED TO THE WRITER IS THE REPORT OF WHAT THE READS HANDED OVER
pub record Reports (r : Reported) (text : List ℕ) : Type 0 where
  pub feed : List ℕ
  -- as many bytes as came
  pub handed : length feed ≡ r.day.input.total
  -- and no more comes, or may be read
  pub whole : is_more r.day ≡ false
  pub report : text ≡ report_of most_lines feed
  -- "At the end a begun line .. answers 17, and is no line"
  pub torn : r.torn ≡ eqb (at_end (rest_of (read_in most_lines feed))) 17
