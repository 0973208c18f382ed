-- A body by its type over the values of its fields, and back. Assumes nothing.
use Rattle.std.specs.Prelude.{ℕ, cond, List, [], ◌∷◌, eqb, get_or, take, drop, replicate}
use Prim.Native.Char.{code}
use Rattle.text.specs.Text.{text_of}
use Rattle.fields.specs.declared.heads.MessageType.{MessageType}
use Rattle.fields.specs.declared.heads.MessageType.TheVariants as type
use Rattle.fields.specs.declared.idents.Ident.{Ident}
use Rattle.fields.specs.declared.aircraft.Aircraft.{Aircraft}
use Rattle.table.specs.Amends.{mark_for}
use Rattle.table.specs.Field.{valued, ident_in, aircraft_in}
use Rattle.table.specs.declared.kinds.Value.{Value}
use Rattle.table.specs.Read.{none}
use Rattle.table.specs.Table.{count_with}
use Rattle.messages.specs.declared.Plan.{Plan}
use Rattle.messages.specs.declared.PlanLevel.{PlanLevel}
use Rattle.messages.specs.declared.PlanLevel.TheVariants as level
use Rattle.messages.specs.declared.Amended.{Amended}
use Rattle.messages.specs.declared.Amended.TheVariants as amended
use Rattle.messages.specs.declared.Amendment.{Amendment}
use Rattle.messages.specs.declared.Af.{Af}
use Rattle.messages.specs.declared.Az.{Az}
use Rattle.messages.specs.declared.Dz.{Dz}
use Rattle.messages.specs.declared.Rz.{Rz}
use Rattle.messages.specs.declared.Tz.{Tz}
use Rattle.messages.specs.declared.Body.{Body}
use Rattle.messages.specs.declared.Body.TheVariants as body

-- "In FZ and UZ the level is requested when the time has P and assigned otherwise"
unfoldable pub plan_level : Plan → PlanLevel
plan_level p = cond (eqb (get_or (text_of p.time.0) 0 0) (code "P")) (level.Requested p.level) (level.Assigned p.level)

-- ---- from the values of the fields, w, to the body

abbrev pub at : List Value → ℕ → Value
at w i = get_or w i none

-- "An amendment is two fields: a number .. and its content": the content by its number; of the two levels 08 is the assigned one and 09 the
-- requested one (000)
unfoldable pub amended_in : Amendment → Amended
amended_in x =
    cond (eqb x.mark (mark_for "02")) (amended.Ident (ident_in x.content))
    (cond (eqb x.mark (mark_for "03")) (amended.Aircraft (aircraft_in x.content))
    (cond (eqb x.mark (mark_for "05")) (amended.Speed (record { 0 = x.content.a }))
    (cond (eqb x.mark (mark_for "06")) (amended.Fix (record { 0 = x.content.a }))
    (cond (eqb x.mark (mark_for "07")) (amended.Time (record { 0 = x.content.a }))
    (cond (eqb x.mark (mark_for "08")) (amended.Assigned (record { 0 = x.content.a }))
    (cond (eqb x.mark (mark_for "09")) (amended.Requested (record { 0 = x.content.a }))
    (cond (eqb x.mark (mark_for "10")) amended.Route amended.Nothing)))))))

-- an amendment from the values of its number and its content
abbrev pub held_from : Value → Value → Amendment
held_from n v = record { mark = n.a; content = v }

-- m is the set of marks, which an AF keeps
abbrev pub af_from : ℕ → List Value → Af
af_from m w = record {
  ident = ident_in (at w 0);
  from = record { 0 = (at w 1).a };
  to = record { 0 = (at w 2).a };
  marks = m;
  first = held_from (at w 3) (at w 4);
  second = held_from (at w 5) (at w 6);
  third = held_from (at w 7) (at w 8);
  fourth = held_from (at w 9) (at w 10);
  fifth = held_from (at w 11) (at w 12);
  sixth = held_from (at w 13) (at w 14);
  seventh = held_from (at w 15) (at w 16);
  eighth = held_from (at w 17) (at w 18);
}

abbrev pub az_from : List Value → Az
az_from w = record { ident = ident_in (at w 0); from = record { 0 = (at w 1).a }; to = record { 0 = (at w 2).a }; clock = record { 0 = (at w 3).a } }

abbrev pub dz_from : List Value → Dz
dz_from w = record {
  ident = ident_in (at w 0);
  aircraft = aircraft_in (at w 1);
  from = record { 0 = (at w 2).a };
  time = record { 0 = (at w 3).a };
  to = record { 0 = (at w 4).a };
  clock = record { 0 = (at w 5).a };
}

abbrev pub rz_from : List Value → Rz
rz_from w = record { ident = ident_in (at w 0); from = record { 0 = (at w 1).a }; to = record { 0 = (at w 2).a } }

abbrev pub tz_from : List Value → Tz
tz_from w = record { ident = ident_in (at w 0); speed = record { 0 = (at w 1).a }; level = record { 0 = (at w 2).a }; position = record { 0 = (at w 3).a } }

abbrev pub plan_from : List Value → Plan
plan_from w = record {
  ident = ident_in (at w 0);
  aircraft = aircraft_in (at w 1);
  speed = record { 0 = (at w 2).a };
  fix = record { 0 = (at w 3).a };
  time = record { 0 = (at w 4).a };
  level = record { 0 = (at w 5).a };
}

unfoldable pub body_from : MessageType → ℕ → List Value → Body
body_from type.Af m w = body.Af (af_from m w)
body_from type.Az m w = body.Az (az_from w)
body_from type.Dz m w = body.Dz (dz_from w)
body_from type.Fz m w = body.Fz (plan_from w)
body_from type.Rz m w = body.Rz (rz_from w)
body_from type.Tz m w = body.Tz (tz_from w)
body_from type.Uz m w = body.Uz (plan_from w)
body_from type.Rt m w = body.Rt
body_from type.To m w = body.To
body_from type.Hb m w = body.Hb

-- ---- back: the type of a body, and the values of its fields

abbrev pub type_in : Body → MessageType
type_in (body.Af m) = type.Af
type_in (body.Az m) = type.Az
type_in (body.Dz m) = type.Dz
type_in (body.Fz m) = type.Fz
type_in (body.Rz m) = type.Rz
type_in (body.Tz m) = type.Tz
type_in (body.Uz m) = type.Uz
type_in body.Rt = type.Rt
type_in body.To = type.To
type_in body.Hb = type.Hb

-- "The flight's key is the part before the slash": the key of the ident, as its word; RT, TO and HB have no ident, and 0 is no key's word
abbrev pub key_in : Body → ℕ
key_in (body.Af m) = m.ident.key.0
key_in (body.Az m) = m.ident.key.0
key_in (body.Dz m) = m.ident.key.0
key_in (body.Fz p) = p.ident.key.0
key_in (body.Rz m) = m.ident.key.0
key_in (body.Tz m) = m.ident.key.0
key_in (body.Uz p) = p.ident.key.0
key_in body.Rt = 0
key_in body.To = 0
key_in body.Hb = 0

abbrev pub value_of_word : ℕ → Value
value_of_word t = valued t 0 0

abbrev pub value_of_ident : Ident → Value
value_of_ident i = valued i.key.0 i.number.0 0

abbrev pub value_of_aircraft : Aircraft → Value
value_of_aircraft x = valued x.prefix x.model x.letter

-- an amendment as a message holds it: the mark of its number, and the value of its content
abbrev pub held_of : Amended → Amendment
held_of (amended.Ident i) = record { mark = mark_for "02"; content = value_of_ident i }
held_of (amended.Aircraft x) = record { mark = mark_for "03"; content = value_of_aircraft x }
held_of (amended.Speed x) = record { mark = mark_for "05"; content = value_of_word x.0 }
held_of (amended.Fix x) = record { mark = mark_for "06"; content = value_of_word x.0 }
held_of (amended.Time x) = record { mark = mark_for "07"; content = value_of_word x.0 }
held_of (amended.Assigned x) = record { mark = mark_for "08"; content = value_of_word x.0 }
held_of (amended.Requested x) = record { mark = mark_for "09"; content = value_of_word x.0 }
held_of amended.Route = record { mark = mark_for "10"; content = none }
held_of amended.Nothing = record { mark = 0; content = none }

-- the amendments in their order
abbrev pub slots_of : Af → List Amendment
slots_of m = m.first ∷ m.second ∷ m.third ∷ m.fourth ∷ m.fifth ∷ m.sixth ∷ m.seventh ∷ m.eighth ∷ []

abbrev pub pairs_of : List Amendment → List Value
pairs_of [] = []
pairs_of (x ∷ xs) = value_of_word x.mark ∷ x.content ∷ pairs_of xs

abbrev pub nones : ℕ → List Value
nones n = replicate n none

-- ---- nineteen values, of which the first are the fields'

abbrev pub af_slots : Af → List Value
af_slots m = value_of_ident m.ident ∷ value_of_word m.from.0 ∷ value_of_word m.to.0 ∷ pairs_of (slots_of m)

-- an ident and three words, and none after them
abbrev pub short_slots : Ident → ℕ → ℕ → ℕ → List Value
short_slots i a b c = value_of_ident i ∷ value_of_word a ∷ value_of_word b ∷ value_of_word c ∷ nones 15

-- an ident, an aircraft and four words, and none after them
abbrev pub long_slots : Ident → Aircraft → ℕ → ℕ → ℕ → ℕ → List Value
long_slots i x a b c d = value_of_ident i ∷ value_of_aircraft x ∷ value_of_word a ∷ value_of_word b ∷ value_of_word c ∷ value_of_word d ∷ nones 13

-- a plan's seventh field is its route, of which nothing is held
unfoldable pub slots : Body → List Value
slots (body.Af m) = af_slots m
slots (body.Az m) = short_slots m.ident m.from.0 m.to.0 m.clock.0
slots (body.Dz m) = long_slots m.ident m.aircraft m.from.0 m.time.0 m.to.0 m.clock.0
slots (body.Fz p) = long_slots p.ident p.aircraft p.speed.0 p.fix.0 p.time.0 p.level.0
slots (body.Rz m) = value_of_ident m.ident ∷ value_of_word m.from.0 ∷ value_of_word m.to.0 ∷ nones 16
slots (body.Tz m) = short_slots m.ident m.speed.0 m.level.0 m.position.0
slots (body.Uz p) = long_slots p.ident p.aircraft p.speed.0 p.fix.0 p.time.0 p.level.0
slots body.Rt = nones 19
slots body.To = nones 19
slots body.Hb = nones 19

-- the marks that a body keeps
abbrev pub marks_in : Body → ℕ
marks_in (body.Af m) = m.marks
marks_in (body.Az m) = 0
marks_in (body.Dz m) = 0
marks_in (body.Fz p) = 0
marks_in (body.Rz m) = 0
marks_in (body.Tz m) = 0
marks_in (body.Uz p) = 0
marks_in body.Rt = 0
marks_in body.To = 0
marks_in body.Hb = 0

-- how many fields, by its type and its marks
unfoldable pub field_count : Body → ℕ
field_count b = count_with (type_in b) (marks_in b)

unfoldable pub values_in : Body → List Value
values_in b = take (field_count b) (slots b)

-- the values after those of the fields
unfoldable pub spare : Body → List Value
spare b = drop (field_count b) (slots b)
