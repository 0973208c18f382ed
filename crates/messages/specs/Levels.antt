-- THE LEVELS of a body: "FZ, UZ and both AF level amendments" (document 02, d). A track level is none of them. Assumes nothing.
use Rattle.std.specs.Prelude.{List, [], ◌∷◌, ◌++◌, take}
use Rattle.std.specs.Int.Count.{ones}
use Rattle.fields.specs.declared.plan.Level.{Level}
use Rattle.messages.specs.Body.{amended_in, slots_of}
use Rattle.messages.specs.declared.Amended.{Amended}
use Rattle.messages.specs.declared.Amended.TheVariants as amended
use Rattle.messages.specs.declared.Amendment.{Amendment}
use Rattle.messages.specs.declared.Body.{Body}
use Rattle.messages.specs.declared.Body.TheVariants as body

-- 08 and 09
abbrev pub level_in : Amended → List Level
level_in (amended.Assigned l) = l ∷ []
level_in (amended.Requested l) = l ∷ []
level_in (amended.Ident i) = []
level_in (amended.Aircraft x) = []
level_in (amended.Speed x) = []
level_in (amended.Fix x) = []
level_in (amended.Time x) = []
level_in amended.Route = []
level_in amended.Nothing = []

abbrev pub amended_levels : List Amendment → List Level
amended_levels [] = []
amended_levels (x ∷ xs) = level_in (amended_in x) ++ amended_levels xs

-- of an AF those of as many amendments as marks are set
abbrev pub levels_in : Body → List Level
levels_in (body.Fz p) = p.level ∷ []
levels_in (body.Uz p) = p.level ∷ []
levels_in (body.Af m) = amended_levels (take (ones m.marks) (slots_of m))
levels_in (body.Az m) = []
levels_in (body.Dz m) = []
levels_in (body.Rz m) = []
levels_in (body.Tz m) = []
levels_in body.Rt = []
levels_in body.To = []
levels_in body.Hb = []
