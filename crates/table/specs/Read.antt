-- A body read by a list of kinds: its answer, the values of its fields, and the route among them. Assumes nothing.
use Rattle.std.specs.Prelude.{ℕ, suc, ◌+◌, ◌-◌, ◌≤◌, ◌≡◌, Bool, cond, ◌&&◌, List, [], ◌∷◌, ◌++◌, eqb, leb, length, replicate, Err, Ok, Result}
use Rattle.table.specs.Spacing.{Split, Fields, Wrong, fields_of, fields_in}
use Rattle.table.specs.Field.{ROUTE, valued, read_in, plain, trace_of, marks_of}
use Rattle.table.specs.declared.kinds.Value.{Value}
use Rattle.table.specs.declared.walk.Fault.{Fault}
use Rattle.table.specs.declared.walk.Fault.TheVariants.{Spacing, Field, Number}
use Rattle.table.specs.declared.kinds.NotRead.TheVariants.{Nothing, Number}
use Rattle.table.specs.declared.kinds.NotRead.{NotRead}

-- ---- the values

abbrev pub none : Value
none = valued 0 0 0

-- nineteen values, of which the first are vs
unfoldable pub padded : List Value → List Value
padded vs = vs ++ replicate (19 - length vs) none

abbrev pub more : Result Value NotRead → List Value → List Value
more (Ok v) vs = v ∷ vs
more (Err Nothing) vs = []
more (Err Number) vs = []

-- the values of the fields, until one is not read; p is what the field before left, m the marks set so far
unfoldable pub values_from : List ℕ → ℕ → ℕ → List (List ℕ) → List Value
values_from [] p m fs = []
values_from (k ∷ ks) p m [] = []
values_from (k ∷ ks) p m (f ∷ fs) = more (read_in k p m f) (values_from ks (trace_of k f) (marks_of k m f) fs)

-- ---- the answer

-- what a field that is not read makes of the whole body; i is its place
abbrev pub fault_at : ℕ → Result Value NotRead → Fault
fault_at i (Err Nothing) = Field i
fault_at i (Err Number) = Number i
fault_at i (Ok v) = Spacing

abbrev pub or_else : ℕ → Result Value NotRead → Result (Bool × ℕ) Fault → Result (Bool × ℕ) Fault
or_else i (Ok v) rest = rest
or_else i (Err Nothing) rest = Err (Field i)
or_else i (Err Number) rest = Err (Number i)

-- "then fields from the left": the first field that is not read; else taken, with the marks that are set in the end
unfoldable pub answer_from : ℕ → Bool → List ℕ → ℕ → ℕ → List (List ℕ) → Result (Bool × ℕ) Fault
answer_from i t [] p m fs = Ok (t, m)
answer_from i t (k ∷ ks) p m [] = Ok (t, m)
answer_from i t (k ∷ ks) p m (f ∷ fs) = or_else i (read_in k p m f) (answer_from (suc i) t ks (trace_of k f) (marks_of k m f) fs)

-- "body spacing or field count wrong" comes before any field; a table has at most 19 fields
unfoldable pub counted : List ℕ → List (List ℕ) → Bool
counted ks fs = eqb (length fs) (length ks) && leb (length ks) 19

unfoldable pub answers : List ℕ → Split → Result (Bool × ℕ) Fault
answers ks Wrong = Err Spacing
answers ks (Fields fs t) = cond (counted ks fs) (answer_from 1 t ks 0 0 fs) (Err Spacing)

unfoldable pub values : List ℕ → Split → List Value
values ks Wrong = []
values ks (Fields fs t) = cond (counted ks fs) (values_from ks 0 0 fs) []

unfoldable pub answer_of : List ℕ → List ℕ → Result (Bool × ℕ) Fault
answer_of ks body = answers ks (fields_of body)

unfoldable pub values_of : List ℕ → List ℕ → List Value
values_of ks body = values ks (fields_of body)

-- the body has as many fields as there are kinds, and trailing says whether a space stands at its end
pub record Ready (ks body : List ℕ) (trailing : Bool) : Type 0 where
  pub split : fields_of body ≡ Fields (fields_in (fields_of body)) trailing
  pub count : length (fields_in (fields_of body)) ≡ length ks
  pub few : length ks ≤ 19

-- ---- document 01's numbers, and the place that it gives; 0 where it gives none

-- of one field: 9, 10
abbrev pub field_number : Result Value NotRead → ℕ
field_number (Ok v) = 0
field_number (Err Nothing) = 9
field_number (Err Number) = 10

abbrev pub fault_number : Fault → ℕ
fault_number Spacing = 8
fault_number (Field i) = 9
fault_number (Number i) = 10

abbrev pub fault_place : Fault → ℕ
fault_place Spacing = 0
fault_place (Field i) = i
fault_place (Number i) = i

abbrev pub answer_number : Result (Bool × ℕ) Fault → ℕ
answer_number (Ok (t, m)) = 0
answer_number (Err x) = fault_number x

abbrev pub answer_place : Result (Bool × ℕ) Fault → ℕ
answer_place (Ok (t, m)) = 0
answer_place (Err x) = fault_place x

-- ---- the route: the first field that is read as one

unfoldable pub route_in : List ℕ → ℕ → List (List ℕ) → List ℕ
route_in [] p fs = []
route_in (k ∷ ks) p [] = []
route_in (k ∷ ks) p (f ∷ fs) = cond (eqb (plain k p) ROUTE) f (route_in ks (trace_of k f) fs)

unfoldable pub route_of : List ℕ → List ℕ → List ℕ
route_of ks body = route_in ks 0 (fields_in (fields_of body))

-- the index of its first byte in the body, each field standing after a space; j is where the fields that are left begin. 0 where there is none
unfoldable pub route_from : ℕ → List ℕ → ℕ → List (List ℕ) → ℕ
route_from j [] p fs = 0
route_from j (k ∷ ks) p [] = 0
route_from j (k ∷ ks) p (f ∷ fs) = cond (eqb (plain k p) ROUTE) (j + 1) (route_from (j + 1 + length f) ks (trace_of k f) fs)

unfoldable pub route_at : List ℕ → List ℕ → ℕ
route_at ks body = route_from 0 ks 0 (fields_in (fields_of body))
