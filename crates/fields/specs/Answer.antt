-- The numbers that document 01 ("Answer numbers") gives to what these functions answer. A field's place is the line's to
-- add. Assumes nothing.
use Rattle.std.specs.Prelude.{ℕ, cond, eqb, Err, None, Ok, Option, Result, Some}
use Rattle.rules.specs.Kind.{SEQUENCE, STAMP}
use Rattle.text.specs.declared.NotWritten.TheVariants.{NoRoom, NoText}
use Rattle.text.specs.declared.NotWritten.{NotWritten}

-- a text without a reading: 4 a sequence number, 5 a stamp, 9 any other of the kinds of rules/specs/Kind (an AF's number, "never 9", is none
-- of these)
unfoldable pub refusal : ℕ → ℕ
refusal k = cond (eqb k SEQUENCE) 4 (cond (eqb k STAMP) 5 9)

abbrev pub read_answer : ℕ → Option ℕ → ℕ
read_answer k (Some t) = 0
read_answer k None = refusal k

abbrev pub pair_answer : Option (ℕ × ℕ) → ℕ
pair_answer (Some (a, b)) = 0
pair_answer None = 9

-- 15 where it doesn't fit from the given place to the buffer's end, 16 for values that no line has
abbrev pub write_answer : Result ℕ NotWritten → ℕ
write_answer (Ok n) = 0
write_answer (Err NoRoom) = 15
write_answer (Err NoText) = 16
