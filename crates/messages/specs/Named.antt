-- THE NAMED PARTS of a body, and which field each is (document 01, "Fields", the table "type, fields in order"): a part with its place,
-- "1 for the ident", and its text. Of two points the first is the departure, `from`, and the second the destination, `to`. Assumes nothing.
use Rattle.std.specs.Prelude.{ℕ, zero, suc, ◌+◌, ◌*◌, ◌-◌, ◌≡◌, List, [], ◌∷◌, map, get_or, take}
use Rattle.std.specs.Int.Count.{ones}
use Rattle.text.specs.Bytes.{bytes}
use Rattle.text.specs.Text.{text_of}
use Rattle.fields.specs.Ident.{ident_text}
use Rattle.fields.specs.Aircraft.{aircraft_text}
use Rattle.table.specs.Spacing.{fields_of, fields_in}
use Rattle.table.specs.Table.{count_in}
use Rattle.messages.specs.Body.{amended_in, slots_of}
use Rattle.messages.specs.declared.Plan.{Plan}
use Rattle.messages.specs.declared.Amended.{Amended}
use Rattle.messages.specs.declared.Amended.TheVariants as amended
use Rattle.messages.specs.declared.Amendment.{Amendment}
use Rattle.messages.specs.declared.Body.{Body}
use Rattle.messages.specs.declared.Body.TheVariants as body

pub record Part : Type 0 where
  pub place : ℕ
  pub text : List ℕ

abbrev pub at : ℕ → List ℕ → Part
at i s = record { place = i; text = s }

-- "a number 02, 03, 05, 06, 07, 08, 09 or 10, and its content (ident, aircraft, filed speed, fix, time, level, level, route)"
abbrev pub number_text : Amended → List ℕ
number_text (amended.Ident i) = bytes "02"
number_text (amended.Aircraft x) = bytes "03"
number_text (amended.Speed x) = bytes "05"
number_text (amended.Fix x) = bytes "06"
number_text (amended.Time x) = bytes "07"
number_text (amended.Assigned x) = bytes "08"
number_text (amended.Requested x) = bytes "09"
number_text amended.Route = bytes "10"
number_text amended.Nothing = []

-- r is the route, which stands beside the message
abbrev pub content_text : List ℕ → Amended → List ℕ
content_text r (amended.Ident i) = ident_text i
content_text r (amended.Aircraft x) = aircraft_text x
content_text r (amended.Speed x) = text_of x.0
content_text r (amended.Fix x) = text_of x.0
content_text r (amended.Time x) = text_of x.0
content_text r (amended.Assigned x) = text_of x.0
content_text r (amended.Requested x) = text_of x.0
content_text r amended.Route = r
content_text r amended.Nothing = []

-- "An amendment is two fields": the n-th, n from 1, stands after the three fields and the n - 1 amendments before it
abbrev pub amendment_parts : ℕ → List ℕ → List Amendment → List Part
amendment_parts n r [] = []
amendment_parts n r (x ∷ xs) = at (2 * n + 2) (number_text (amended_in x)) ∷ at (2 * n + 3) (content_text r (amended_in x)) ∷ amendment_parts (suc n) r xs

-- "FZ, UZ: ident, aircraft, filed speed, fix, time, level, route"
abbrev pub plan_parts : Plan → List ℕ → List Part
plan_parts p r =
    at 1 (ident_text p.ident) ∷ at 2 (aircraft_text p.aircraft) ∷ at 3 (text_of p.speed.0) ∷
    at 4 (text_of p.fix.0) ∷ at 5 (text_of p.time.0) ∷ at 6 (text_of p.level.0) ∷ at 7 r ∷ []

-- the table; of an AF as many amendments as marks are set. RT, TO and HB have no fields
unfoldable pub named : Body → List ℕ → List Part
named (body.Az m) r = at 1 (ident_text m.ident) ∷ at 2 (text_of m.from.0) ∷ at 3 (text_of m.to.0) ∷ at 4 (text_of m.clock.0) ∷ []
named (body.Dz m) r =
    at 1 (ident_text m.ident) ∷ at 2 (aircraft_text m.aircraft) ∷ at 3 (text_of m.from.0) ∷
    at 4 (text_of m.time.0) ∷ at 5 (text_of m.to.0) ∷ at 6 (text_of m.clock.0) ∷ []
named (body.Rz m) r = at 1 (ident_text m.ident) ∷ at 2 (text_of m.from.0) ∷ at 3 (text_of m.to.0) ∷ []
named (body.Tz m) r = at 1 (ident_text m.ident) ∷ at 2 (text_of m.speed.0) ∷ at 3 (text_of m.level.0) ∷ at 4 (text_of m.position.0) ∷ []
named (body.Fz p) r = plan_parts p r
named (body.Uz p) r = plan_parts p r
named (body.Af m) r = at 1 (ident_text m.ident) ∷ at 2 (text_of m.from.0) ∷ at 3 (text_of m.to.0) ∷ amendment_parts 1 r (take (ones m.marks) (slots_of m))
named body.Rt r = []
named body.To r = []
named body.Hb r = []

-- ---- what it is for the parts to be the fields of a body s

-- the field at a place, 1 for the first
abbrev pub field_at : ℕ → List ℕ → List ℕ
field_at i s = get_or (fields_in (fields_of s)) (i - 1) []

-- each part is the field at its place
abbrev pub Stand : List ℕ → List Part → Type 0
Stand s [] = Unit
Stand s (p ∷ ps) = (field_at p.place s ≡ p.text) × Stand s ps

-- n places from i on
abbrev pub places_from : ℕ → ℕ → List ℕ
places_from i zero = []
places_from i (suc n) = i ∷ places_from (suc i) n

-- and no field is left out: the places are 1, 2 and so on to the count of fields
pub record AreFields (s : List ℕ) (ps : List Part) : Type 0 where
  pub stand : Stand s ps
  pub every : map (λ (p : Part). p.place) ps ≡ places_from 1 (count_in s)
