-- One field of document 01's table ("Fields"), of any kind: its reading, its text, and the values that some text gives; and what may follow
-- what. The letters of the kinds (FieldKind) and an amendment's numbers (Amends) are handed on. Assumes nothing.
unfoldable pub use Rattle.table.specs.FieldKind.{IDENT, TZ_IDENT, AIRCRAFT, ROUTE, PLAN_TIME, AMENDMENT, CONTENT, OLD_AIRCRAFT, OLD_CONTENT, kind_by}
unfoldable pub use Rattle.table.specs.Amends.{mark_of, mark_text, is_mark, content_of}
use Rattle.std.specs.Prelude.{ℕ, Bool, true, cond, not, ◌&&◌, ◌||◌, List, eqb, get_or, Err, None, Ok, Option, Result, Some}
use Prim.Native.Char.{code}
use Rattle.std.specs.Int.Bits.{bit_and, bit_or}
use Rattle.text.specs.Text.{text_of}
use Rattle.rules.specs.Form.{is_position, is_route}
use Rattle.rules.specs.Kind.{FIX, TIME}
use Rattle.rules.specs.declared.Rule.TheVariants.{New, Old}
use Rattle.fields.specs.Word.{word_of, is_word}
use Rattle.fields.specs.Ident.{ident_of, tz_ident_of, ident_text, is_ident_value}
use Rattle.fields.specs.Aircraft.{aircraft_by, aircraft_text, is_aircraft_value, is_letter_by}
use Rattle.fields.specs.declared.idents.Ident.{Ident}
use Rattle.fields.specs.declared.aircraft.Aircraft.{Aircraft}
use Rattle.table.specs.declared.kinds.Value.{Value}
use Rattle.table.specs.declared.kinds.NotRead.TheVariants.{Nothing, Number}
use Rattle.table.specs.declared.kinds.NotRead.{NotRead}

-- ---- what one field leaves for the next

-- a number its mark; a fix whether it is a position
unfoldable pub trace_of : ℕ → List ℕ → ℕ
trace_of k s = cond (eqb k AMENDMENT) (mark_of s) (cond (eqb k FIX && is_position s) 1 0)

-- the marks set after a field
unfoldable pub marks_of : ℕ → ℕ → List ℕ → ℕ
marks_of k m s = cond (eqb k AMENDMENT) (bit_or m (mark_of s)) m

-- a field of the kind k may follow what was left, p, and the marks m: "no number comes twice"; when the time of FZ and UZ has
-- E, "the fix must be a position"
unfoldable pub follows : ℕ → ℕ → ℕ → List ℕ → Bool
follows k p m s = cond (eqb k AMENDMENT) (eqb (bit_and m (mark_of s)) 0) (cond (eqb k PLAN_TIME && eqb (get_or s 0 0) (code "E")) (eqb p 1) true)

-- the kind by which the field is read
unfoldable pub plain : ℕ → ℕ → ℕ
plain k p = cond (eqb k CONTENT) (content_of p) (cond (eqb k OLD_CONTENT) (kind_by Old (content_of p)) (cond (eqb k PLAN_TIME) TIME k))

-- ---- what is kept of a field

abbrev pub valued : ℕ → ℕ → ℕ → Value
valued a b c = record { a = a; b = b; c = c }

abbrev pub ident_in : Value → Ident
ident_in v = record { key = record { 0 = v.a }; number = record { 0 = v.b } }

abbrev pub aircraft_in : Value → Aircraft
aircraft_in v = record { prefix = v.a; model = v.b; letter = v.c }

-- the parts after the first, and after the second, are none
unfoldable pub is_one : Value → Bool
is_one v = eqb v.b 0 && eqb v.c 0

unfoldable pub is_two : Value → Bool
is_two v = eqb v.c 0

-- ---- reading

abbrev pub of_ident : Option Ident → Result Value NotRead
of_ident (Some i) = Ok (valued i.key.0 i.number.0 0)
of_ident None = Err Nothing

abbrev pub of_aircraft : Option Aircraft → Result Value NotRead
of_aircraft (Some x) = Ok (valued x.prefix x.model x.letter)
of_aircraft None = Err Nothing

abbrev pub of_route : Bool → Result Value NotRead
of_route b = cond b (Ok (valued 0 0 0)) (Err Nothing)

abbrev pub of_word : Option ℕ → Result Value NotRead
of_word (Some t) = Ok (valued t 0 0)
of_word None = Err Nothing

-- a field of the kind k by itself
unfoldable pub read_kind : ℕ → List ℕ → Result Value NotRead
read_kind k s =
    cond (eqb k IDENT) (of_ident (ident_of s))
    (cond (eqb k TZ_IDENT) (of_ident (tz_ident_of s))
    (cond (eqb k AIRCRAFT) (of_aircraft (aircraft_by New s))
    (cond (eqb k OLD_AIRCRAFT) (of_aircraft (aircraft_by Old s))
    (cond (eqb k ROUTE) (of_route (is_route s)) (of_word (word_of k s))))))

unfoldable pub read_mark : List ℕ → Result Value NotRead
read_mark s = cond (eqb (mark_of s) 0) (Err Number) (Ok (valued (mark_of s) 0 0))

-- what a field that may not follow answers
unfoldable pub barred : ℕ → Result Value NotRead
barred k = cond (eqb k AMENDMENT) (Err Number) (Err Nothing)

-- a field after what the one before it left, p, and the marks m
unfoldable pub read_in : ℕ → ℕ → ℕ → List ℕ → Result Value NotRead
read_in k p m s = cond (follows k p m s) (cond (eqb k AMENDMENT) (read_mark s) (read_kind (plain k p) s)) (barred k)

-- ---- writing: r is the route, which stands beside the values

-- the values that some text of the kind gives
unfoldable pub is_kind_value : ℕ → List ℕ → Value → Bool
is_kind_value k r v =
    cond (eqb k IDENT) (is_ident_value (ident_in v) && is_two v)
    (cond (eqb k TZ_IDENT) (is_ident_value (ident_in v) && not (eqb v.b 0) && is_two v)
    (cond (eqb k AIRCRAFT) (is_aircraft_value (aircraft_in v))
    (cond (eqb k OLD_AIRCRAFT) (is_aircraft_value (aircraft_in v) && is_letter_by Old v.c)
    (cond (eqb k ROUTE) (is_route r && eqb v.a 0 && is_one v) (is_word k v.a && is_one v)))))

unfoldable pub shown_kind : ℕ → List ℕ → Value → List ℕ
shown_kind k r v =
    cond (eqb k IDENT || eqb k TZ_IDENT) (ident_text (ident_in v))
    (cond (eqb k AIRCRAFT || eqb k OLD_AIRCRAFT) (aircraft_text (aircraft_in v)) (cond (eqb k ROUTE) r (text_of v.a)))

unfoldable pub is_value : ℕ → ℕ → List ℕ → Value → Bool
is_value k p r v = cond (eqb k AMENDMENT) (is_mark v.a && is_one v) (is_kind_value (plain k p) r v)

-- the text of a value
unfoldable pub shown : ℕ → ℕ → List ℕ → Value → List ℕ
shown k p r v = cond (eqb k AMENDMENT) (mark_text v.a) (shown_kind (plain k p) r v)
