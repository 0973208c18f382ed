-- WHAT A BODY OF THE OLD FEED LACKS (document 02, l): "the aircraft's last letter, and the A or E in AZ". Assumes nothing.
use Rattle.std.specs.Prelude.{◌≡◌, true, take}
use mathlib.Core.List.{List, [], ◌∷◌, ◌++◌, Memᴰ}
use Rattle.std.specs.Int.Count.{ones}
use Rattle.text.specs.Text.{text_of}
use Rattle.rules.specs.Form.{is_clock}
use Rattle.fields.specs.declared.aircraft.Aircraft.{Aircraft}
use Rattle.messages.specs.Body.{amended_in, slots_of}
use Rattle.messages.specs.declared.Amended.{Amended}
use Rattle.messages.specs.declared.Amended.TheVariants as amended
use Rattle.messages.specs.declared.Amendment.{Amendment}
use Rattle.messages.specs.declared.Az.{Az}
use Rattle.messages.specs.declared.Body.{Body}
use Rattle.messages.specs.declared.Body.TheVariants as body

-- 03
abbrev pub craft_in : Amended → List Aircraft
craft_in (amended.Aircraft x) = x ∷ []
craft_in (amended.Ident i) = []
craft_in (amended.Speed x) = []
craft_in (amended.Fix x) = []
craft_in (amended.Time x) = []
craft_in (amended.Assigned l) = []
craft_in (amended.Requested l) = []
craft_in amended.Route = []
craft_in amended.Nothing = []

abbrev pub amended_craft : List Amendment → List Aircraft
amended_craft [] = []
amended_craft (x ∷ xs) = craft_in (amended_in x) ++ amended_craft xs

-- the aircraft of a body; of an AF those of as many amendments as marks are set
abbrev pub aircrafts_in : Body → List Aircraft
aircrafts_in (body.Dz m) = m.aircraft ∷ []
aircrafts_in (body.Fz p) = p.aircraft ∷ []
aircrafts_in (body.Uz p) = p.aircraft ∷ []
aircrafts_in (body.Af m) = amended_craft (take (ones m.marks) (slots_of m))
aircrafts_in (body.Az m) = []
aircrafts_in (body.Rz m) = []
aircrafts_in (body.Tz m) = []
aircrafts_in body.Rt = []
aircrafts_in body.To = []
aircrafts_in body.Hb = []

pub record Lacks (b : Body) : Type 0 where
  -- a letter of 0 is none
  pub letter : (x : Aircraft) → Memᴰ x (aircrafts_in b) → x.letter ≡ 0
  pub prefix : (m : Az) → b ≡ body.Az m → is_clock (text_of m.clock.0) ≡ true
