-- THE TABLE of document 01, "type, fields in order": the fields of each type, how many they are, where a route is; and a body read by them.
-- Assumes nothing.
use Prim.Native.Char.{code}
use Rattle.std.specs.Prelude.{ℕ, zero, suc, ◌+◌, ◌*◌, ◌%◌, ◌-◌, Bool, true, false, cond, not, ◌&&◌, ◌||◌, List, [], ◌∷◌, ◌++◌, map, eqb, leb, length, take, replicate, Err, Result}
use Rattle.std.specs.Int.Bits.{bit_and}
use Rattle.std.specs.Int.Count.{ones}
use Rattle.rules.specs.Kind.{FILED_SPEED, GROUND_SPEED, POINT, FIX, TIME, CLOCK, ARRIVAL, LEVEL, TRACK_LEVEL, POSITION}
use Rattle.rules.specs.declared.Rule.{Rule}
use Rattle.rules.specs.declared.Rule.TheVariants.{New, Old}
use Rattle.fields.specs.declared.heads.MessageType.{MessageType}
use Rattle.fields.specs.declared.heads.MessageType.TheVariants.{Af, Az, Dz, Fz, Rz, Tz, Uz, Rt, To, Hb}
use Rattle.table.specs.declared.kinds.Value.{Value}
use Rattle.table.specs.declared.walk.Fault.TheVariants.{Spacing}
use Rattle.table.specs.Amends.{mark_for}
use Rattle.table.specs.Field.{AMENDMENT, IDENT, TZ_IDENT, AIRCRAFT, ROUTE, PLAN_TIME, CONTENT, kind_by}
use Rattle.table.specs.Spacing.{fields_of, fields_in}
use Rattle.table.specs.Read.{answer_of, values_of, route_of, route_at}
use Rattle.table.specs.declared.walk.Fault.{Fault}

-- "an amendment is two fields: a number .. and its content"
abbrev pub amendments : ℕ → List ℕ
amendments zero = []
amendments (suc n) = AMENDMENT ∷ CONTENT ∷ amendments n

-- the fields of each type in order; of an AF those with eight amendments
abbrev pub table_of : MessageType → List ℕ
table_of Az = IDENT ∷ POINT ∷ POINT ∷ ARRIVAL ∷ []
table_of Dz = IDENT ∷ AIRCRAFT ∷ POINT ∷ TIME ∷ POINT ∷ CLOCK ∷ []
table_of Rz = IDENT ∷ POINT ∷ POINT ∷ []
table_of Tz = TZ_IDENT ∷ GROUND_SPEED ∷ TRACK_LEVEL ∷ POSITION ∷ []
table_of Fz = IDENT ∷ AIRCRAFT ∷ FILED_SPEED ∷ FIX ∷ PLAN_TIME ∷ LEVEL ∷ ROUTE ∷ []
table_of Uz = IDENT ∷ AIRCRAFT ∷ FILED_SPEED ∷ FIX ∷ PLAN_TIME ∷ LEVEL ∷ ROUTE ∷ []
table_of Af = IDENT ∷ POINT ∷ POINT ∷ amendments 8
table_of Rt = []
table_of To = []
table_of Hb = []

-- the kind k is among the kinds
abbrev pub is_among : ℕ → List ℕ → Bool
is_among k [] = false
is_among k (j ∷ ks) = eqb j k || is_among k ks

-- "AF: .. then 1 to 8 amendments"
abbrev pub has_amendments : MessageType → Bool
has_amendments t = is_among AMENDMENT (table_of t)

-- how many fields: as many as the table has; with amendments and the marks m three and two for each of them, and "the count
-- of marks set is the count of amendments"
unfoldable pub count_with : MessageType → ℕ → ℕ
count_with t m = cond (has_amendments t) (3 + 2 * ones m) (length (table_of t))

-- wrong are: another count than the table's; "AF: even count of fields, under 5 or over 19"
unfoldable pub is_count : MessageType → ℕ → Bool
is_count t n = cond (has_amendments t) (leb 5 n && leb n 19 && eqb (n % 2) 1) (eqb n (length (table_of t)))

-- the types whose body is fields; "RT, TO and HB bodies are kept whole"
abbrev pub has_fields : MessageType → Bool
has_fields t = not (eqb (length (table_of t)) 0)

-- the types of a rule: of the old feed "our seven, no RT, TO or HB"
abbrev pub has_type : Rule → MessageType → Bool
has_type New t = true
has_type Old t = has_fields t

-- a route is among the fields, or the content of an amendment, whose number is 10; m is the set of marks
abbrev pub has_route_with : MessageType → ℕ → Bool
has_route_with t m = is_among ROUTE (table_of t) || (has_amendments t && not (eqb (bit_and m (mark_for "10")) 0))

-- ---- a body by the table

-- the rule's table: the same fields, each of the kind that the rule has for it
unfoldable pub table_by : Rule → MessageType → List ℕ
table_by ρ t = map (kind_by ρ) (table_of t)

-- nineteen letters: the table, and dots after it
unfoldable pub dotted : Rule → MessageType → List ℕ
dotted ρ t = table_by ρ t ++ replicate (19 - length (table_by ρ t)) (code ".")

-- the kinds of n fields
unfoldable pub kinds_of : Rule → MessageType → ℕ → List ℕ
kinds_of ρ t n = take n (table_by ρ t)

unfoldable pub count_in : List ℕ → ℕ
count_in s = length (fields_in (fields_of s))

-- a body read by its type's table
unfoldable pub answer_by : Rule → MessageType → List ℕ → Result (Bool × ℕ) Fault
answer_by ρ t s = cond (is_count t (count_in s)) (answer_of (kinds_of ρ t (count_in s)) s) (Err Spacing)

unfoldable pub values_by : Rule → MessageType → List ℕ → List Value
values_by ρ t s = cond (is_count t (count_in s)) (values_of (kinds_of ρ t (count_in s)) s) []

-- the route among its fields
unfoldable pub route_by : Rule → MessageType → List ℕ → List ℕ
route_by ρ t s = route_of (table_by ρ t) s

unfoldable pub route_at_by : Rule → MessageType → List ℕ → ℕ
route_at_by ρ t s = route_at (table_by ρ t) s

-- its free text: "RT, TO and HB bodies are kept whole"; of the others the route
abbrev pub free_in : Rule → MessageType → List ℕ → List ℕ
free_in ρ t s = cond (has_fields t) (route_by ρ t s) s

-- and the index of its first byte
abbrev pub free_at_in : Rule → MessageType → List ℕ → ℕ
free_at_in ρ t s = cond (has_fields t) (route_at_by ρ t s) 0
