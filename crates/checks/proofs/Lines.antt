-- The words of what is said of a line are texts, what they make is what specs/Check says of the line, and it is no longer than 90 bytes.
-- Assumes nothing.
use Rattle.std.specs.Prelude.{Err, Ok, Result}
use mathlib.Core.Path.{◌≡◌, refl}
use mathlib.Core.Bool.{Bool, true, false, cond, ◌&&◌}
use mathlib.Core.List.{List, [], ◌∷◌}
use Prim.Native.Nat.{ℕ, suc, ◌+◌, ◌*◌, ◌≤◌}
use native.Mathlib.Omega.{arith}
use lib.Dec.{eqb}
use lib.ListN.{length, length-append}
use Rattle.text.specs.Class.{all, is_digit, is_letter, is_alnum, is_text_byte}
use Rattle.text.specs.Code.{code_of, byte_of}
use Rattle.text.specs.Decimal.{decimal}
use Rattle.text.specs.Place.{value, digits, tight}
use Rattle.text.specs.Text.{is_text, packed, text_of, is_packed, spliced, has_room, written_bytes}
use Rattle.text.proofs.Decimal.{decimal_short}
use Rattle.text.proofs.Laws.{text_short}
use Rattle.text.proofs.Logic.{and_left, and_right}
use Rattle.rules.specs.Kind.{KEY}
use Rattle.rules.specs.declared.Rule.{Rule}
use Rattle.fields.specs.MessageType.{type_text}
use Rattle.fields.specs.declared.heads.MessageType.{MessageType}
use Rattle.fields.specs.declared.heads.MessageType.TheVariants as type
use Rattle.fields.proofs.WordLaws.{word_packed}
use Rattle.table.specs.Table.{has_fields}
use Rattle.cutter.specs.Feed.{Line, Whole, TooLong}
use Rattle.messages.specs.Body.{type_in, key_in}
use Rattle.messages.specs.declared.Reading.{Reading}
use Rattle.messages.proofs.Keys.{no_key}
use Rattle.line.specs.Read.{read_by, number_by}
use Rattle.line.proofs.Placed.{stands_key}
use Rattle.printer.specs.RowText.{hyphen, line_text}
use Rattle.printer.specs.Parts.{part_text}
use Rattle.checks.specs.Check.{saying, read_said, check_of, is_taken, said_of}
use Rattle.checks.specs.Feed.{checks_from}
use Rattle.checks.specs.Part.{verdict_by, overlong, verdict_of, is_verdict, verdict_text, verdict_said, longest_saying}
use Rattle.checks.specs.declared.Asked.{Asked}
use Rattle.checks.specs.declared.Verdict.{Verdict}
use Rattle.line.specs.declared.Refusal.{Refusal}

-- ---- the words

pub zero_part : part_text 0 ≡ hyphen
unfolding part_text
zero_part = refl

pub zero_packed : is_packed 0 ≡ true
unfolding is_packed tight
zero_packed = refl

-- a type's word is that of its two letters
type_word : (t : MessageType) → (is_packed (packed (type_text t)) ≡ true) × (part_text (packed (type_text t)) ≡ type_text t)
unfolding is_packed tight packed part_text text_of value digits code_of byte_of is_digit is_letter
type_word type.Af = (refl, refl)
type_word type.Az = (refl, refl)
type_word type.Dz = (refl, refl)
type_word type.Fz = (refl, refl)
type_word type.Rz = (refl, refl)
type_word type.Tz = (refl, refl)
type_word type.Uz = (refl, refl)
type_word type.Rt = (refl, refl)
type_word type.To = (refl, refl)
type_word type.Hb = (refl, refl)

-- the letters, written into two bytes
pub letters_written : (t : MessageType) → (written_bytes true (type_text t) (0 ∷ 0 ∷ []) 0 ≡ type_text t) × (is_text (type_text t) ≡ true)
unfolding written_bytes has_room spliced is_text all is_text_byte is_alnum is_digit is_letter
letters_written type.Af = (refl, refl)
letters_written type.Az = (refl, refl)
letters_written type.Dz = (refl, refl)
letters_written type.Fz = (refl, refl)
letters_written type.Rz = (refl, refl)
letters_written type.Tz = (refl, refl)
letters_written type.Uz = (refl, refl)
letters_written type.Rt = (refl, refl)
letters_written type.To = (refl, refl)
letters_written type.Hb = (refl, refl)

-- a key's that of a key; where there is none it is 0
key_word : (ρ : Rule) (s : List ℕ) (x : Reading) → read_by ρ s ≡ Ok x → is_packed (key_in x.body) ≡ true
key_word ρ s x e = go (has_fields (type_in x.body)) refl
  where
    go : (f : Bool) → has_fields (type_in x.body) ≡ f → is_packed (key_in x.body) ≡ true
    go true f = word_packed KEY (key_in x.body) (stands_key ρ s x e f).0
    go false f = rw (no_key x.body f) zero_packed

verdict_by_lem : (ρ : Rule) (s : List ℕ) (r : Result Reading Refusal) → read_by ρ s ≡ r → is_verdict (verdict_by r) ≡ true
unfolding is_verdict
verdict_by_lem ρ s (Ok x) e = rw ((type_word (type_in x.body)).0, key_word ρ s x e)
verdict_by_lem ρ s (Err y) e = rw zero_packed

over_is : is_verdict overlong ≡ true
unfolding is_verdict
over_is = rw zero_packed

pub verdict_is : (ρ : Rule) (l : Line) → is_verdict (verdict_of ρ l) ≡ true
unfolding verdict_of
verdict_is ρ (Whole s) = verdict_by_lem ρ s (read_by ρ s) refl
verdict_is ρ TooLong = over_is

-- ---- what they say

text_by : (n : ℕ) (r : Result Reading Refusal) → verdict_text n (verdict_by r) ≡ read_said n r
unfolding verdict_text
text_by n (Ok x) = rw (type_word (type_in x.body)).1
text_by n (Err y) = rw zero_part

over_text : (n : ℕ) → verdict_text n overlong ≡ saying n 2 0 hyphen hyphen
unfolding verdict_text
over_text n = rw zero_part

pub verdict_text_lem : (ρ : Rule) (n : ℕ) (l : Line) → verdict_text n (verdict_of ρ l) ≡ check_of ρ n l
unfolding verdict_of check_of
verdict_text_lem ρ n (Whole s) = text_by n (read_by ρ s)
verdict_text_lem ρ n TooLong = over_text n

taken_by_lem : (r : Result Reading Refusal) → eqb (verdict_by r).answer 0 ≡ eqb (number_by r) 0
taken_by_lem (Ok x) = refl
taken_by_lem (Err y) = refl

pub verdict_taken : (ρ : Rule) (l : Line) → eqb (verdict_of ρ l).answer 0 ≡ is_taken ρ l
unfolding verdict_of is_taken
verdict_taken ρ (Whole s) = taken_by_lem (read_by ρ s)
verdict_taken ρ TooLong = refl

pub verdict_said_lem : (asked : Asked) (n : ℕ) (l : Line) → verdict_said asked.refused n (verdict_of asked.rule l) ≡ said_of asked n l
unfolding verdict_said said_of
verdict_said_lem asked n l = rw (verdict_taken asked.rule l, verdict_text_lem asked.rule n l)

-- ---- how long it is

saying_size : (n a p : ℕ) (t k : List ℕ) → length (saying n a p t k) ≡ length (decimal n) + length (decimal a) + length (decimal p) + length t + length k + 5
unfolding line_text
saying_size n a p t k = simp length-append (omega arith)

part_short : (w : ℕ) → is_packed w ≡ true → length (part_text w) ≤ 12
unfolding part_text
part_short w e = go (eqb w 0) refl
  where
    go : (b : Bool) → eqb w 0 ≡ b → length (cond (eqb w 0) hyphen (text_of w)) ≤ 12
    go true q = rw q (omega arith)
    go false q = rw q (text_short w e)

pub text_few : (n : ℕ) (v : Verdict) → is_verdict v ≡ true → length (verdict_text n v) ≤ longest_saying
unfolding is_verdict verdict_text
text_few n v e =
    omega (
      arith,
      saying_size n v.answer v.place (part_text v.kind) (part_text v.key),
      decimal_short n,
      decimal_short v.answer,
      decimal_short v.place,
      part_short v.kind (and_left (is_packed v.kind) (is_packed v.key) e),
      part_short v.key (and_right (is_packed v.kind) (is_packed v.key) e),
    )

verdict_few : (only : Bool) (n : ℕ) (v : Verdict) → is_verdict v ≡ true → length (verdict_said only n v) ≤ longest_saying
unfolding verdict_said
verdict_few only n v e = go (only && eqb v.answer 0)
  where
    go : (b : Bool) → length (cond b [] (verdict_text n v)) ≤ longest_saying
    go true = omega arith
    go false = text_few n v e

pub said_few : (asked : Asked) (n : ℕ) (l : Line) → length (said_of asked n l) ≤ longest_saying
said_few asked n l = rw (← (verdict_said_lem asked n l)) (verdict_few asked.refused n (verdict_of asked.rule l) (verdict_is asked.rule l))

pub checks_few : (asked : Asked) (n : ℕ) (ls : List Line) → length (checks_from asked n ls) ≤ longest_saying * length ls
unfolding checks_from
checks_few asked n [] = omega arith
checks_few asked n (l ∷ ls) = omega (arith, length-append (said_of asked n l) (checks_from asked (suc n) ls), said_few asked n l, checks_few asked (suc n) ls)
