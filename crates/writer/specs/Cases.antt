-- THE CASES of a call of `write` or `write_old` (document 01, "Answer numbers": "Writing: 16, then 15; the bytes go in from the given place, and all others
-- stay"): its number, the place after what it wrote (0 where it wrote nothing), and the buffer that is left. Assumes nothing.
use Rattle.std.specs.Prelude.{ℕ, ◌+◌, ◌≡◌, true, false, List, length, Err, Ok, Result}
use Rattle.text.specs.Text.{spliced, has_room}
use Rattle.rules.specs.declared.Rule.{Rule}
use Rattle.messages.specs.declared.Reading.{Reading}
use Rattle.line.specs.Read.{read_by, free_of}
use Rattle.text.specs.declared.NotWritten.TheVariants.{NoRoom, NoText}
use Rattle.text.specs.declared.NotWritten.{NotWritten}

-- the place that an answer tells; its number is `write_answer` of fields/specs/Answer
abbrev pub place_after : Result ℕ NotWritten → ℕ
place_after (Ok n) = n
place_after (Err NoRoom) = 0
place_after (Err NoText) = 0

-- the message that is read as x under the rule ρ, with the free text r, written into out from the place `at`
pub data WriteCase (ρ : Rule) (x : Reading) (r out : List ℕ) (at : ℕ) : ℕ → ℕ → List ℕ → Type 0 where
  -- 16: "values to write that no line has": no line reads so with this free text
  NoLine : ((s : List ℕ) → read_by ρ s ≡ Ok x → free_of ρ s ≡ r → ⊥) → WriteCase ρ x r out at 16 0 out
  -- 15: a line does, and it "doesn't fit from the given place to the buffer's end"
  NoRoomLeft : (s : List ℕ) → read_by ρ s ≡ Ok x → free_of ρ s ≡ r → has_room s out at ≡ false → WriteCase ρ x r out at 15 0 out
  -- 0: its bytes "go in from the given place, and all others stay"
  Wrote : (s : List ℕ) → read_by ρ s ≡ Ok x → free_of ρ s ≡ r → has_room s out at ≡ true → WriteCase ρ x r out at 0 (at + length s) (spliced out at s)
