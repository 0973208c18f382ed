-- What holds of each type holds of all; the ways of the functions: counts by type, and the limit of a plan's line. Assumes
-- nothing.
use mathlib.Core.Path.{◌≡◌, refl}
use mathlib.Core.Bool.{false, not}
use mathlib.Core.List.{List, [], ◌∷◌}
use Prim.Native.Nat.{ℕ, ◌+◌, ◌-◌}
use native.Mathlib.Omega.{arith}
use denote.Enum.Declared.{tag_of}
use types.Run.{OneOf, miss}
use lib.Count.{ones}
use lib.Dec.{eqb, ltb}
use borrow.Author.Tests.{ltb-true, lt-ltb}
use Rattle.text.proofs.Logic.{same_test}
use Rattle.shapes.specs.Picture.{is_of, fits}
use Rattle.fields.specs.declared.heads.MessageType.{MessageType}
use Rattle.fields.specs.declared.heads.MessageType.TheVariants.{Af, Az, Dz, Fz, Rz, Tz, Uz, Rt, To, Hb}
use Rattle.fields.specs.contracts.heads.MessageType.{the_type}
use Rattle.table.specs.Table.{count_with, is_count, has_fields}
use Rattle.rules.specs.Frame.{longest_plan}
use Rattle.rules.specs.declared.Rule.{Rule}
use Rattle.fields.specs.Head.{type_at}
use Rattle.table.specs.Plan.{is_long_plan}

pub each_type : (X : MessageType → Type 0) → X Af → X Az → X Dz → X Fz → X Rz → X Tz → X Uz → X Rt → X To → X Hb → (t : MessageType) → X t
each_type X af az dz fz rz tz uz rt to hb Af = af
each_type X af az dz fz rz tz uz rt to hb Az = az
each_type X af az dz fz rz tz uz rt to hb Dz = dz
each_type X af az dz fz rz tz uz rt to hb Fz = fz
each_type X af az dz fz rz tz uz rt to hb Rz = rz
each_type X af az dz fz rz tz uz rt to hb Tz = tz
each_type X af az dz fz rz tz uz rt to hb Uz = uz
each_type X af az dz fz rz tz uz rt to hb Rt = rt
each_type X af az dz fz rz tz uz rt to hb To = to
each_type X af az dz fz rz tz uz rt to hb Hb = hb

-- a type has fields exactly if some are counted
pub counts_fields : (t : MessageType) → not (eqb (count_with t 0) 0) ≡ has_fields t
unfolding count_with ones
counts_fields = each_type (λ t. not (eqb (count_with t 0) 0) ≡ has_fields t) refl refl refl refl refl refl refl refl refl refl

-- the types after AF, of which the code tells only the variant's number, have one right count
abbrev not_af : List ℕ
not_af = 1 ∷ 2 ∷ 3 ∷ 4 ∷ 5 ∷ 6 ∷ 7 ∷ 8 ∷ 9 ∷ []

pub one_count : (t : MessageType) (n : ℕ) → OneOf not_af (tag_of the_type t) → eqb n (count_with t 0) ≡ is_count t n
unfolding is_count count_with
one_count t n =
    each_type (λ t. OneOf not_af (tag_of the_type t) → eqb n (count_with t 0) ≡ is_count t n)
    (λ h. absurd (miss not_af 0 tt h)) (λ h. refl) (λ h. refl) (λ h. refl) (λ h. refl) (λ h. refl) (λ h. refl) (λ h. refl) (λ h. refl) (λ h. refl) t

-- an FZ over its limit from its type is over both together from its start
pub long_plan : (ρ : Rule) (n : ℕ) → ltb (type_at ρ + longest_plan) n ≡ is_long_plan ρ Fz n
unfolding fits is_of
long_plan ρ n =
    same_test (ltb (type_at ρ + longest_plan) n) (ltb longest_plan (n - type_at ρ))
    (λ e. let h = ltb-true (type_at ρ + longest_plan) n e in lt-ltb longest_plan (n - type_at ρ) (omega arith))
    (λ e. let h = ltb-true longest_plan (n - type_at ρ) e in lt-ltb (type_at ρ + longest_plan) n (omega arith))

-- no other type has that limit
abbrev not_fz : List ℕ
not_fz = 0 ∷ 1 ∷ 2 ∷ 4 ∷ 5 ∷ 6 ∷ 7 ∷ 8 ∷ 9 ∷ []

pub no_plan : (ρ : Rule) (t : MessageType) (n : ℕ) → OneOf not_fz (tag_of the_type t) → false ≡ is_long_plan ρ t n
unfolding fits is_of
no_plan ρ t n =
    each_type (λ t. OneOf not_fz (tag_of the_type t) → false ≡ is_long_plan ρ t n)
    (λ h. refl) (λ h. refl) (λ h. refl) (λ h. absurd (miss not_fz 3 tt h)) (λ h. refl) (λ h. refl) (λ h. refl) (λ h. refl) (λ h. refl) (λ h. refl) t
