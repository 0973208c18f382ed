-- THE LAW of levels in a body: where one is asked for, the field is right exactly if it is a level, and a block that falls is answered 9; so in
-- FZ, in UZ and in both amendments of an AF. Assumes nothing.
use mathlib.Core.Path.{◌≡◌, refl}
use mathlib.Core.Bool.{true}
use mathlib.Core.List.{List, ◌∷◌, Memᴰ}
use Prim.Native.Nat.{ℕ, ◌<◌}
use native.Mathlib.Omega.{arith}
use lib.ListN.{length}
use Rattle.text.specs.Bytes.{bytes}
use Rattle.rules.specs.Kind.{LEVEL, is_form}
use Rattle.rules.specs.Level.{Level, Falls}
use Rattle.rules.specs.declared.Rule.{Rule}
use Rattle.rules.proofs.Levels.{level_exactly, falls_none}
use Rattle.fields.specs.declared.heads.MessageType.{MessageType}
use Rattle.fields.specs.declared.heads.MessageType.TheVariants as type
use Rattle.table.specs.FieldKind.{AIRCRAFT, PLAN_TIME, CONTENT}
use Rattle.table.specs.Amends.{Amends}
use Rattle.table.specs.Fault.{kind_at, field_at, has_form, Asked, Formed, Unformed, FieldCase, ByForm}
use Rattle.table.specs.Levels.{LevelAt, OfFz, OfUz, Of08, Of09}
use Rattle.table.specs.Table.{is_count, kinds_of}
use Rattle.table.proofs.KindRules.{no_rule, content_time, by_level}
use Rattle.table.proofs.Places.{IsPlain, field_asked, field_no_time, content_kind, content_asked}

level_plain : IsPlain LEVEL
level_plain = record { no_content_lem = no_rule CONTENT LEVEL refl; no_time = λ q. omega (arith, q); no_number = λ q. omega (arith, q) }

-- the fields after the fifth number: 08 and 09 are the sixth and the seventh of the eight
after_five : {a b c d e x : Amends} {l : List Amends} → Memᴰ x l → Memᴰ x (a ∷ b ∷ c ∷ d ∷ e ∷ l)
after_five m = Memᴰ.tail (Memᴰ.tail (Memᴰ.tail (Memᴰ.tail (Memᴰ.tail m))))

level_asked : (ρ : Rule) (t : MessageType) (fs : List (List ℕ)) (i : ℕ) → is_count t (length fs) ≡ true → i < length fs → LevelAt fs t i → Asked (kinds_of ρ t (length fs)) fs i LEVEL
level_asked ρ t fs i c h OfFz = field_asked ρ type.Fz fs 5 h (by_level ρ) level_plain
level_asked ρ t fs i c h OfUz = field_asked ρ type.Uz fs 5 h (by_level ρ) level_plain
level_asked ρ t fs i c h (Of08 n e) = rw (by_level ρ) at (content_asked ρ fs c n h (record { number = bytes "08"; content = LEVEL }) (after_five (Memᴰ.head refl)) e)
level_asked ρ t fs i c h (Of09 n e) = rw (by_level ρ) at (content_asked ρ fs c n h (record { number = bytes "09"; content = LEVEL }) (after_five (Memᴰ.tail (Memᴰ.head refl))) e)

-- none of them is the time that the E rule is about
not_time : (ρ : Rule) (t : MessageType) (fs : List (List ℕ)) (i : ℕ) → is_count t (length fs) ≡ true → i < length fs → LevelAt fs t i → kind_at (kinds_of ρ t (length fs)) i ≡ PLAN_TIME → ⊥
not_time ρ t fs i c h OfFz = field_no_time ρ type.Fz fs 5 h (by_level ρ) level_plain
not_time ρ t fs i c h OfUz = field_no_time ρ type.Uz fs 5 h (by_level ρ) level_plain
not_time ρ t fs i c h (Of08 n e) = content_time ρ (content_kind ρ fs c n h)
not_time ρ t fs i c h (Of09 n e) = content_time ρ (content_kind ρ fs c n h)

-- THE LAW
module _ (ρ : Rule) (t : MessageType) (fs : List (List ℕ)) (i : ℕ) (c : is_count t (length fs) ≡ true) (h : i < length fs) (l : LevelAt fs t i) where
  pub level_right : Level (field_at fs i) → FieldCase (kinds_of ρ t (length fs)) fs i 0
  unfolding has_form is_form
  level_right v = ByForm (level_asked ρ t fs i c h l) (Formed (no_rule AIRCRAFT LEVEL refl) ((level_exactly (field_at fs i)).1 v)) (λ z p. not_time ρ t fs i c h l p.time)

  pub level_falls : Falls (field_at fs i) → FieldCase (kinds_of ρ t (length fs)) fs i 9
  unfolding has_form is_form
  level_falls v = ByForm (level_asked ρ t fs i c h l) (Unformed (no_rule AIRCRAFT LEVEL refl) (falls_none (field_at fs i) v)) (λ z p. omega (arith, z))
