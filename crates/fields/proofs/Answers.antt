-- That each answer number of a field is given exactly in its case, with the numbers as document 01 has them. Assumes nothing.
use Rattle.std.specs.Prelude.{None, Option, Some}
use Prim.Native.Nat.{ℕ}
use mathlib.Core.Bool.{Bool, true, false, cond}
use mathlib.Core.List.{List}
use mathlib.Core.Logic.{◌⊎◌, inl, inr}
use mathlib.Core.Path.{◌≡◌, refl, sym, ap, ◌∙◌}
use native.Mathlib.Omega.{arith}
use lib.Dec.{eqb}
use Rattle.text.specs.Text.{has_room, written_next}
use Rattle.rules.specs.Form.{is_sequence, is_stamp, is_ident, is_tz_ident, is_facility}
use Rattle.rules.specs.Kind.{SEQUENCE, STAMP, is_form}
use Rattle.rules.specs.declared.Rule.{Rule}
use Rattle.fields.specs.Aircraft.{Case, One, NoOne, aircraft_by, aircraft_answer}
use Rattle.fields.specs.Answer.{refusal, read_answer, pair_answer, write_answer}
use Rattle.fields.specs.Facility.{facility_of, facility_answer}
use Rattle.fields.specs.Ident.{ident_from, ident_of, tz_ident_of, ident_answer}
use Rattle.fields.specs.MessageType.{type_text, type_of, type_answer}
use Rattle.fields.specs.Pair.{is_pair_form, pair_of}
use Rattle.fields.specs.Word.{word_of}
use Rattle.fields.specs.declared.heads.MessageType.{MessageType}
use Rattle.fields.proofs.Single.{aircraft_one_by, aircraft_none_by}
use Rattle.fields.proofs.TypeLaws.{type_sound, type_complete}
use Rattle.fields.specs.declared.aircraft.Aircraft.{Aircraft}

-- ---- fields held as their text

pub read_answer_lem : (k : ℕ) (s : List ℕ) → read_answer k (word_of k s) ≡ cond (is_form k s) 0 (refusal k)
unfolding word_of
read_answer_lem k s = go (is_form k s) refl
  where
    go : (b : Bool) → is_form k s ≡ b → read_answer k (word_of k s) ≡ cond (is_form k s) 0 (refusal k)
    go true q = rw q
    go false q = rw q

-- with the numbers of document 01 themselves
pub sequence_answer : (s : List ℕ) → read_answer SEQUENCE (word_of SEQUENCE s) ≡ cond (is_sequence s) 0 4
unfolding refusal is_form
sequence_answer s = read_answer_lem SEQUENCE s

pub stamp_answer : (s : List ℕ) → read_answer STAMP (word_of STAMP s) ≡ cond (is_stamp s) 0 5
unfolding refusal is_form
stamp_answer s = read_answer_lem STAMP s

pub field_answer : (k : ℕ) (s : List ℕ) → eqb k SEQUENCE ≡ false → eqb k STAMP ≡ false → read_answer k (word_of k s) ≡ cond (is_form k s) 0 9
unfolding refusal
field_answer k s p q = rw (p, q) at (read_answer_lem k s)

pub pair_answer_lem : (k l : ℕ) (s : List ℕ) → pair_answer (pair_of k l s) ≡ cond (is_pair_form k l s) 0 9
unfolding pair_of
pair_answer_lem k l s = go (is_pair_form k l s) refl
  where
    go : (b : Bool) → is_pair_form k l s ≡ b → pair_answer (pair_of k l s) ≡ cond (is_pair_form k l s) 0 9
    go true q = rw q
    go false q = rw q

-- 16 comes before 15
pub write_answer_lem : (ok : Bool) (vs out : List ℕ) (at : ℕ) → write_answer (written_next ok vs out at) ≡ cond ok (cond (has_room vs out at) 0 15) 16
unfolding written_next
write_answer_lem false vs out at = refl
write_answer_lem true vs out at = go (has_room vs out at) refl
  where
    go : (b : Bool) → has_room vs out at ≡ b → write_answer (written_next true vs out at) ≡ cond (has_room vs out at) 0 15
    go true q = rw q
    go false q = rw q

-- ---- idents

chosen : (b : Bool) (s : List ℕ) → ident_answer (cond b (Some (ident_from s)) None) ≡ cond b 0 9
chosen true s = refl
chosen false s = refl

pub ident_answer_lem : (s : List ℕ) → ident_answer (ident_of s) ≡ cond (is_ident s) 0 9
unfolding ident_of
ident_answer_lem s = chosen (is_ident s) s

pub tz_answer : (s : List ℕ) → ident_answer (tz_ident_of s) ≡ cond (is_tz_ident s) 0 9
unfolding tz_ident_of
tz_answer s = chosen (is_tz_ident s) s

-- ---- aircraft

-- the number tells how many readings there are
pub aircraft_answer_lem : (ρ : Rule) (s : List ℕ) → Case ρ s (aircraft_answer (aircraft_by ρ s))
aircraft_answer_lem ρ s = go (aircraft_by ρ s) refl
  where
    go : (r : Option Aircraft) → aircraft_by ρ s ≡ r → Case ρ s (aircraft_answer r)
    go (Some a) q = let p = aircraft_one_by ρ s a q in One a p.0 p.1
    go None q = NoOne (aircraft_none_by ρ s q)

-- ---- facility and type

pub facility_answer_lem : (s : List ℕ) → facility_answer (facility_of s) ≡ cond (is_facility s) 0 6
unfolding facility_of
facility_answer_lem s = go (is_facility s) refl
  where
    go : (b : Bool) → is_facility s ≡ b → facility_answer (facility_of s) ≡ cond (is_facility s) 0 6
    go true q = rw q
    go false q = rw q

-- 0 where s is the letters of a type, 7 where it is those of none
pub type_answer_lem : (s : List ℕ) → ((t : MessageType) × (type_text t ≡ s) × (type_answer (type_of s) ≡ 0)) ⊎ (((t : MessageType) → type_text t ≡ s → ⊥) × (type_answer (type_of s) ≡ 7))
type_answer_lem s = go (type_of s) refl
  where
    go : (r : Option MessageType) → type_of s ≡ r → ((t : MessageType) × (type_text t ≡ s) × (type_answer (type_of s) ≡ 0)) ⊎ (((t : MessageType) → type_text t ≡ s → ⊥) × (type_answer (type_of s) ≡ 7))
    go (Some t) q = inl (t, type_sound s t q, ap type_answer q)
    go None q = inr ((λ t e. let z : Some t ≡ None = sym (type_complete t) ∙ ap type_of e ∙ q in let y : ◌≡◌ {A = ℕ} 0 1 = cc in omega arith), ap type_answer q)
