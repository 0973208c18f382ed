-- `messages::marks_in` meets its contract. Assumes nothing.
use mathlib.Core.Path.{◌≡◌, refl, sym, ap}
use mathlib.Core.List.{[], ◌∷◌}
use types.Run.{OneOf, miss}
use denote.Enum.Declared.{tag_of}
use Rattle.messages.specs.Body.{marks_in}
use Rattle.messages.specs.declared.Body.{Body}
use Rattle.messages.specs.declared.Body.TheVariants as body
use Rattle.messages.specs.contracts.Body.{the_type}
use borrow.Enum.Refused.{opened}
use Rattle.messages.proofs.marks_in.Goals as goal

-- a body of another type keeps none
none_kept : (b : Body) → OneOf (1 ∷ 2 ∷ 3 ∷ 4 ∷ 5 ∷ 6 ∷ 7 ∷ 8 ∷ 9 ∷ []) (tag_of the_type b) → 0 ≡ marks_in b
none_kept (body.Af m) h = absurd (miss (1 ∷ 2 ∷ 3 ∷ 4 ∷ 5 ∷ 6 ∷ 7 ∷ 8 ∷ 9 ∷ []) 0 tt h)
none_kept (body.Az m) h = refl
none_kept (body.Dz m) h = refl
none_kept (body.Fz p) h = refl
none_kept (body.Rz m) h = refl
none_kept (body.Tz m) h = refl
none_kept (body.Uz p) h = refl
none_kept body.Rt h = refl
none_kept body.To h = refl
none_kept body.Hb h = refl

pub returns-in-Af : goal.returns-in-Af
returns-in-Af c = ap marks_in (sym c.in-Af.is)

pub returns-in_default : goal.returns-in_default
returns-in_default c = none_kept c.args.b (opened c.in_default.in_default-own.keys2)
