-- THE LAWS of what the old feed lacked (document 02, l): a field is answered by the rule's own readings of an aircraft wherever one stands, so one with a
-- last letter has none in the old feed; and the clock of an AZ there is right exactly if it is a clock. Assumes nothing.
use mathlib.Core.Path.{◌≡◌, refl}
use mathlib.Core.Bool.{true, false}
use mathlib.Core.List.Memᴰ
use mathlib.Core.List.{List}
use Prim.Native.Nat.{ℕ, ◌<◌}
use native.Mathlib.Omega.{arith}
use lib.ListN.{length}
use Rattle.text.specs.Bytes.{bytes}
use Rattle.rules.specs.Form.{is_clock, is_one_letter}
use Rattle.rules.specs.Kind.{CLOCK, is_form}
use Rattle.rules.specs.declared.Rule.{Rule}
use Rattle.rules.specs.declared.Rule.TheVariants.{New, Old}
use Rattle.fields.specs.Aircraft as aircraft
use Rattle.fields.specs.Aircraft.{CutInto}
use Rattle.fields.proofs.Single.{lettered_none}
use Rattle.fields.specs.declared.heads.MessageType.{MessageType}
use Rattle.fields.specs.declared.heads.MessageType.TheVariants as type
use Rattle.table.specs.FieldKind.{AIRCRAFT, PLAN_TIME, CONTENT, kind_by}
use Rattle.table.specs.Fault.{kind_at, field_at, has_form, Asked, Readings, Formed, Unformed, FieldCase, ByForm}
use Rattle.table.specs.Letters.{AircraftAt, OfDz, OfFz, OfUz, Of03}
use Rattle.table.specs.Table.{is_count, kinds_of}
use Rattle.table.proofs.KindRules.{no_rule, content_time}
use Rattle.table.proofs.Places.{IsPlain, field_asked, field_no_time, content_kind, content_asked}

aircraft_plain : (ρ : Rule) → IsPlain (kind_by ρ AIRCRAFT)
aircraft_plain New = record { no_content_lem = no_rule CONTENT AIRCRAFT refl; no_time = λ q. omega (arith, q); no_number = λ q. omega (arith, q) }
aircraft_plain Old = record { no_content_lem = no_rule CONTENT (kind_by Old AIRCRAFT) refl; no_time = λ q. omega (arith, q); no_number = λ q. omega (arith, q) }

clock_plain : IsPlain CLOCK
clock_plain = record { no_content_lem = no_rule CONTENT CLOCK refl; no_time = λ q. omega (arith, q); no_number = λ q. omega (arith, q) }

-- ---- an aircraft, under either rule

aircraft_asked : (ρ : Rule) (t : MessageType) (fs : List (List ℕ)) (i : ℕ) → is_count t (length fs) ≡ true → i < length fs → AircraftAt fs t i → Asked (kinds_of ρ t (length fs)) fs i (kind_by ρ AIRCRAFT)
aircraft_asked ρ t fs i c h OfDz = field_asked ρ type.Dz fs 1 h refl (aircraft_plain ρ)
aircraft_asked ρ t fs i c h OfFz = field_asked ρ type.Fz fs 1 h refl (aircraft_plain ρ)
aircraft_asked ρ t fs i c h OfUz = field_asked ρ type.Uz fs 1 h refl (aircraft_plain ρ)
aircraft_asked ρ t fs i c h (Of03 n e) = content_asked ρ fs c n h (record { number = bytes "03"; content = AIRCRAFT }) (Memᴰ.tail (Memᴰ.head refl)) e

not_time : (ρ : Rule) (t : MessageType) (fs : List (List ℕ)) (i : ℕ) → is_count t (length fs) ≡ true → i < length fs → AircraftAt fs t i → kind_at (kinds_of ρ t (length fs)) i ≡ PLAN_TIME → ⊥
not_time ρ t fs i c h OfDz = field_no_time ρ type.Dz fs 1 h refl (aircraft_plain ρ)
not_time ρ t fs i c h OfFz = field_no_time ρ type.Fz fs 1 h refl (aircraft_plain ρ)
not_time ρ t fs i c h OfUz = field_no_time ρ type.Uz fs 1 h refl (aircraft_plain ρ)
not_time ρ t fs i c h (Of03 n e) = content_time ρ (content_kind ρ fs c n h)

pub aircraft_there : (ρ : Rule) (t : MessageType) (fs : List (List ℕ)) (i : ℕ) → is_count t (length fs) ≡ true → i < length fs → AircraftAt fs t i
    → {n : ℕ} → aircraft.Case ρ (field_at fs i) n → FieldCase (kinds_of ρ t (length fs)) fs i n
aircraft_there ρ t fs i c h a k = ByForm (aircraft_asked ρ t fs i c h a) (Readings ρ refl k) (λ z p. not_time ρ t fs i c h a p.time)

-- ---- in the old feed

module _ (t : MessageType) (fs : List (List ℕ)) (i : ℕ) (c : is_count t (length fs) ≡ true) (h : i < length fs) (a : AircraftAt fs t i) where
  -- "An aircraft field with a last letter .. has no reading there"
  pub letter_wrong : (p m l : List ℕ) → CutInto (field_at fs i) p m l → is_one_letter l ≡ true → FieldCase (kinds_of Old t (length fs)) fs i 9
  letter_wrong p m l k e = aircraft_there Old t fs i c h a (aircraft.NoOne (lettered_none (field_at fs i) p m l k e))

-- "or an AZ clock with a prefix": the fourth field of an AZ is right exactly if it is a clock
module _ (fs : List (List ℕ)) (h : 3 < length fs) where
  clock_asked : Asked (kinds_of Old type.Az (length fs)) fs 3 CLOCK
  clock_asked = field_asked Old type.Az fs 3 h refl clock_plain

  pub clock_right : is_clock (field_at fs 3) ≡ true → FieldCase (kinds_of Old type.Az (length fs)) fs 3 0
  unfolding has_form is_form
  clock_right e = ByForm clock_asked (Formed (no_rule AIRCRAFT CLOCK refl) e) (λ z p. field_no_time Old type.Az fs 3 h refl clock_plain p.time)

  pub clock_wrong : is_clock (field_at fs 3) ≡ false → FieldCase (kinds_of Old type.Az (length fs)) fs 3 9
  unfolding has_form is_form
  clock_wrong e = ByForm clock_asked (Unformed (no_rule AIRCRAFT CLOCK refl) e) (λ z p. omega (arith, z))
