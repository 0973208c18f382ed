-- The ways of the functions that read a field: what is no amendment's number, an aircraft by the rule, and the time of FZ and UZ. Assumes nothing.
use Rattle.std.specs.Prelude.{Err, None, Ok, Option, Result, Some}
use mathlib.Core.Path.{◌≡◌, refl, ap, ◌∙◌}
use mathlib.Core.Bool.{Bool, true, false}
use mathlib.Core.List.{List}
use Prim.Native.Nat.{ℕ}
use borrow.Author.Tests.{eq-eqb, ne_eqb}
use Rattle.rules.specs.Kind.{TIME}
use Rattle.rules.specs.declared.Rule.{Rule}
use Rattle.rules.specs.declared.Rule.TheVariants.{Old}
use Rattle.fields.specs.Typed.{as_time}
use Rattle.fields.specs.declared.plan.Time.{Time}
use Rattle.fields.specs.Aircraft.{aircraft_of, lettered, aircraft_by}
use Rattle.fields.specs.declared.aircraft.Aircraft.{Aircraft}
use Rattle.fields.specs.Word.{word_of}
use Rattle.table.specs.Field.{AMENDMENT, PLAN_TIME, mark_of, plain, follows, valued, of_aircraft, of_word, read_kind, read_mark, barred, read_in}
use Rattle.table.specs.declared.kinds.NotRead.{NotRead}
use Rattle.table.specs.declared.kinds.Value.{Value}
use Rattle.table.specs.declared.kinds.NotRead.TheVariants.{Nothing, Number}

-- what is none of the eight numbers is refused, whatever the marks are
pub number_none : (m : ℕ) (s : List ℕ) → mark_of s ≡ 0 → Err Number ≡ read_in AMENDMENT 0 m s
unfolding read_in read_mark barred
number_none m s e = go (follows AMENDMENT 0 m s) refl
  where
    go : (b : Bool) → follows AMENDMENT 0 m s ≡ b → Err Number ≡ read_in AMENDMENT 0 m s
    go true q = rw (q, e)
    go false q = rw q

-- ---- an aircraft by the rule: what was read is handed on, but for its last letter

pub aircraft_as : (ρ : Rule) (s : List ℕ) {x : (Option Aircraft)} → x ≡ aircraft_of s → of_aircraft (lettered ρ x) ≡ of_aircraft (aircraft_by ρ s)
unfolding aircraft_by
aircraft_as ρ s e = ap (λ y. of_aircraft (lettered ρ y)) e

pub old_lettered : (s : List ℕ) {a : Aircraft} → Some a ≡ aircraft_of s → (a.letter ≡ 0 → ⊥) → Err Nothing ≡ of_aircraft (aircraft_by Old s)
old_lettered s {a} e h = rw (ne_eqb a.letter 0 h) at (aircraft_as Old s e)

pub old_plain : (s : List ℕ) {a : Aircraft} → Some a ≡ aircraft_of s → a.letter ≡ 0 → Ok (valued a.prefix a.model a.letter) ≡ of_aircraft (aircraft_by Old s)
old_plain s {a} e h = rw (eq-eqb a.letter 0 h) at (aircraft_as Old s e)

-- ---- the time of FZ and UZ, after what the field before it left, p

pub plan_time_barred : (p : ℕ) (s : List ℕ) → follows PLAN_TIME p 0 s ≡ false → Err Nothing ≡ read_in PLAN_TIME p 0 s
unfolding read_in barred
plan_time_barred p s q = rw q

-- a time that was read, as a field
abbrev of_time : Option Time → Result Value NotRead
of_time (Some t) = Ok (valued t.0 0 0)
of_time None = Err Nothing

time_as : (w : Option ℕ) → of_time (as_time w) ≡ of_word w
time_as (Some t) = refl
time_as None = refl

-- what is no time is refused, whatever was left
pub plan_time_none : (p : ℕ) (s : List ℕ) → None ≡ as_time (word_of TIME s) → Err Nothing ≡ read_in PLAN_TIME p 0 s
unfolding read_in read_kind plain barred
plan_time_none p s e = go (follows PLAN_TIME p 0 s) refl
  where
    go : (b : Bool) → follows PLAN_TIME p 0 s ≡ b → Err Nothing ≡ read_in PLAN_TIME p 0 s
    go true q = rw q (ap of_time e ∙ time_as (word_of TIME s))
    go false q = rw q

pub plan_time_read : (p : ℕ) (s : List ℕ) {t : Time} → Some t ≡ as_time (word_of TIME s) → follows PLAN_TIME p 0 s ≡ true → Ok (valued t.0 0 0) ≡ read_in PLAN_TIME p 0 s
unfolding read_in read_kind plain
plan_time_read p s e q = rw q (ap of_time e ∙ time_as (word_of TIME s))
