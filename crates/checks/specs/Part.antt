-- What the functions of `checks` are about: the words of what is said of a line, and what a part of a feed adds to what was said of the feed before it.
-- `proofs/Lines` and `proofs/Feeds` show that this is what specs/Check and specs/Feed say. Assumes nothing.
use Rattle.std.specs.Prelude.{ℕ, suc, ◌+◌, ◌*◌, ◌≤◌, ◌<◌, ◌^◌, ◌≡◌, Bool, true, cond, ◌&&◌, List, [], ◌∷◌, ◌++◌, eqb, length, take, Err, None, Ok, Option, Result, Some}
use Rattle.text.specs.Text.{packed, is_packed, spliced}
use Rattle.shapes.specs.Pieces.{pieces}
use Rattle.rules.specs.Frame.{line_feed}
use Rattle.rules.specs.declared.Rule.{Rule}
use Rattle.fields.specs.MessageType.{type_text}
use Rattle.cutter.specs.Feed.{Line, Whole, TooLong, rest_of}
use Rattle.cutter.specs.State.{State, Bytes, Mark, state_in, is_allowed}
use Rattle.cutter.specs.Told.{told, state_after}
use Rattle.messages.specs.Body.{type_in, key_in}
use Rattle.messages.specs.declared.Body.{Body}
use Rattle.line.specs.Read.{read_by, refusal_number, refusal_place}
use Rattle.line.specs.declared.Refusal.{Refusal}
use Rattle.printer.specs.RowText.{hyphen}
use Rattle.printer.specs.Parts.{part_text}
use Rattle.checks.specs.Check.{saying, torn_of}
use Rattle.checks.specs.Feed.{checks_from, reads_in, Checked}
use Rattle.checks.specs.declared.Asked.{Asked}
use Rattle.checks.specs.declared.Turn.{Turn}
use Rattle.checks.specs.declared.Sums.{Sums}
use Rattle.checks.specs.declared.Verdict.{Verdict}
use Rattle.messages.specs.declared.Reading.{Reading}

-- ---- a line: its answer and place, and its type and key as words, 0 where there is none

abbrev pub body_verdict : Body → Verdict
body_verdict b = record { answer = 0; place = 0; kind = packed (type_text (type_in b)); key = key_in b }

abbrev pub refused_verdict : Refusal → Verdict
refused_verdict y = record { answer = refusal_number y; place = refusal_place y; kind = 0; key = 0 }

abbrev pub verdict_by : Result Reading Refusal → Verdict
verdict_by (Ok x) = body_verdict x.body
verdict_by (Err y) = refused_verdict y

abbrev pub overlong : Verdict
overlong = record { answer = 2; place = 0; kind = 0; key = 0 }

unfoldable pub verdict_of : Rule → Line → Verdict
verdict_of ρ (Whole s) = verdict_by (read_by ρ s)
verdict_of ρ TooLong = overlong

-- of the line that a cut told of, if it did
abbrev pub judged_of : Rule → List Line → Option Verdict
judged_of ρ [] = None
judged_of ρ (l ∷ ls) = Some (verdict_of ρ l)

unfoldable pub is_verdict : Verdict → Bool
is_verdict v = is_packed v.kind && is_packed v.key

-- its text as the n-th line, and what of it is said
unfoldable pub verdict_text : ℕ → Verdict → List ℕ
verdict_text n v = saying n v.answer v.place (part_text v.kind) (part_text v.key)

unfoldable pub verdict_said : Bool → ℕ → Verdict → List ℕ
verdict_said only n v = cond (only && eqb v.answer 0) [] (verdict_text n v)

-- one line more, counted
abbrev pub counted : Sums → Verdict → Sums
counted s v = record { begun = s.begun; lines = s.lines + 1; read = s.read + cond (eqb v.answer 0) 1 0 }

-- no line of text is longer (`proofs/Lines`)
abbrev pub longest_saying : ℕ
longest_saying = 90

-- ---- a part of a feed

-- the lines that end in it
abbrev pub lines_in : List ℕ → Sums → List ℕ → List Line
lines_in held s part = told (state_in held s.begun) (pieces line_feed part)

-- what is said of them
abbrev pub text_in : Asked → List ℕ → Sums → List ℕ → List ℕ
text_in asked held s part = checks_from asked (suc s.lines) (lines_in held s part)

-- WHAT A PART ADDS: the cutter's state after it, the counts, and what is said of it, written into out from place `at`; every other byte as it was
pub record Adds (asked : Asked) (held : List ℕ) (s : Sums) (part out : List ℕ) (at : ℕ) (held' : List ℕ) (s' : Sums) (out' : List ℕ) (at' : ℕ) : Type 0 where
  pub allowed : is_allowed held' s'.begun ≡ true
  pub state : state_in held' s'.begun ≡ state_after (state_in held s.begun) (pieces line_feed part)
  pub lines : s'.lines ≡ s.lines + length (lines_in held s part)
  pub read : s'.read ≡ s.read + reads_in asked.rule (lines_in held s part)
  pub place : at' ≡ at + length (text_in asked held s part)
  pub bytes : out' ≡ spliced out at (text_in asked held s part)

-- what is asked for: a state that is allowed, counts that can grow by a line for each byte, and room for a line of text for each byte
pub record Ready (held : List ℕ) (s : Sums) (part : List ℕ) (room : ℕ) : Type 0 where
  pub allowed : is_allowed held s.begun ≡ true
  pub few : s.lines + length part < 2 ^ 64
  pub less : s.read ≤ s.lines
  pub roomy : longest_saying * length part ≤ room

-- of one step: the line that ends first in what is left, or all of it, with room for one line of text
pub record StepReady (held : List ℕ) (s : Sums) (rest out : List ℕ) (at : ℕ) : Type 0 where
  pub more : 0 < length rest
  pub allowed : is_allowed held s.begun ≡ true
  pub few : s.lines + 1 < 2 ^ 64
  pub less : s.read ≤ s.lines
  pub roomy : at + longest_saying ≤ length out

-- it adds what its bytes add, and uses at least one
pub record Steps (asked : Asked) (held : List ℕ) (s : Sums) (rest out : List ℕ) (at : ℕ) (held' : List ℕ) (r : Turn) (out' : List ℕ) : Type 0 where
  pub adds : Adds asked held s (take r.used rest) out at held' r.sums out' r.next
  pub within : r.used ≤ length rest
  pub some : 0 < r.used

-- AFTER ANY FEED that led to this state and these counts, the part's bytes have come too, and what was said then was said of the whole
abbrev pub Continues : Asked → List ℕ → Sums → List ℕ → List ℕ → Sums → List ℕ → Type 0
Continues asked held s part held' s' text = (feed said : List ℕ) → Checked asked feed held s said → Checked asked (feed ++ part) held' s' (said ++ text)

-- ---- the end of a feed

-- what is said of the rest that a state holds
unfoldable pub torn_in : ℕ → State → List ℕ
torn_in n (Bytes s) = torn_of n s
torn_in n Mark = saying n 17 0 hyphen hyphen

-- at a line's start, or the count can grow by one
pub record EndReady (held : List ℕ) (s : Sums) (room : ℕ) : Type 0 where
  pub allowed : is_allowed held s.begun ≡ true
  pub few : (state_in held s.begun ≡ Bytes [] → ⊥) → s.lines + 1 < 2 ^ 64
  pub roomy : longest_saying ≤ room

-- after any feed that led here, what is said of its unended rest
abbrev pub EndsFeed : List ℕ → Sums → List ℕ → Type 0
EndsFeed held s text = (asked : Asked) (feed said : List ℕ) → Checked asked feed held s said → text ≡ torn_of (suc s.lines) (rest_of feed)
