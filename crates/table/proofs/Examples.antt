-- What the promises of `table` require on inputs written out, and so wrong answers that they do not allow: of each, `Post` is the function's
-- `ensures` as it stands in the source, r any result that meets it, s the state at exit. Assumes nothing.
use Rattle.std.specs.Prelude.{Bool, Err, Ok, Result}
use mathlib.Core.Bool.{false, true}
use Prim.Native.Nat.{ℕ}
use Prim.Native.String.{String}
use mathlib.Core.Path.{◌≡◌, refl, ap, ◌∙◌}
use mathlib.Core.List.{List, [], ◌∷◌, map}
use lib.Count.{ones}
use Rattle.text.specs.Bytes.{bytes}
use Rattle.text.specs.Class.{all, is_digit, is_letter, is_alnum}
use Rattle.text.specs.Code.{code_of}
use Rattle.text.specs.Number.{is_numeral, is_digit_to, digit_of, number_of}
use Rattle.text.specs.Place.{value}
use Rattle.text.specs.Text.{packed, spliced, has_room, written_next, written_bytes}
use Rattle.shapes.specs.Cut.{up_to, has, before, after}
use Rattle.shapes.specs.Picture.{is_of, fits, run, within}
use Rattle.shapes.specs.Pieces.{pieces}
use Rattle.rules.specs.Form.{is_ident, is_key, is_clock, is_arrival, is_position, is_route}
use Rattle.rules.specs.Kind.{is_form, FILED_SPEED, POINT, FIX, TIME, LEVEL}
use Rattle.rules.specs.declared.Rule.{Rule}
use Rattle.rules.specs.declared.Rule.TheVariants.{New, Old}
use Rattle.fields.specs.Aircraft.{plain_of, aircraft_of, aircraft_by}
use Rattle.fields.specs.Ident.{ident_of}
use Rattle.fields.specs.Pair.{is_pair_form, pair_of}
use Rattle.fields.specs.Word.{word_of}
use Rattle.fields.specs.declared.heads.MessageType.{MessageType}
use Rattle.fields.specs.declared.heads.MessageType.TheVariants.{Af, Az, Dz, Fz, Rz, Tz, Uz, Rt, To, Hb}
use Rattle.table.specs.Amends.{Amends, the_eight}
use Rattle.table.specs.Field.{IDENT, AIRCRAFT, AMENDMENT, mark_of, content_of, trace_of, marks_of, follows, plain, read_kind, read_mark, barred, read_in, PLAN_TIME, CONTENT, ROUTE, valued, is_one, is_mark, mark_text, is_kind_value, is_value, shown}
use Rattle.table.specs.Read.{answer_of, answers, counted, answer_from, route_in, route_of}
use Rattle.table.specs.Spacing.{ended, fields_of}
use Rattle.table.specs.Table.{is_count, table_by, dotted, kinds_of, count_in, answer_by, route_by, count_with}
use Rattle.table.specs.declared.walk.Fault.TheVariants.{Spacing, Field, Number}
use Rattle.table.specs.declared.kinds.Value.{Value}
use Rattle.table.proofs.kinds.Value.is_one.Reads as value-is-one
use Rattle.table.proofs.kinds.Value.word.Reads as value-word
use Rattle.table.proofs.field.put_field.Reads as put-field
use Rattle.table.proofs.field_count.Reads as field-count
use Rattle.table.proofs.has_fields.Reads as has-fields
use Rattle.table.proofs.has_type.Reads as has-type
use Rattle.table.proofs.has_route.Reads as has_route_lem
use Rattle.table.proofs.is_count.Reads as is-count
use Rattle.table.proofs.is_long_plan.Reads as is-long-plan
use Rattle.table.proofs.kinds.follows.Reads as follows-read
use Rattle.table.proofs.CountWays.{each_type}
use Rattle.table.proofs.kinds.trace.Reads as trace-read
use Rattle.table.proofs.kinds.marks_after.Reads as marks-read
use Rattle.table.proofs.kinds.plain.Reads as plain-read
use Rattle.table.proofs.kinds_of.Reads as kinds-of
use Rattle.table.proofs.read.Reads as read
use Rattle.table.proofs.route.Reads as route
use Rattle.text.specs.declared.NotWritten.TheVariants.{NoText}
use Rattle.table.specs.declared.walk.Fault.{Fault}

-- a TZ has an ident with a number, a ground speed, a track level and a position
pub tz_by_the_az_table : (κs : _) (r : _) (s : _) → kinds-of.Post κs (New, (Tz, tt)) r s → r ≡ bytes "JGMO..............."
unfolding dotted table_by
tz_by_the_az_table κs r s p = p

-- in an FZ the time comes before the level
pub level_before_time : (κs : _) (r : _) (s : _) → kinds-of.Post κs (New, (Fz, tt)) r s → r ≡ bytes "IZSFHLR............"
unfolding dotted table_by
level_before_time κs r s p = p

-- "type, fields in order": the kinds of each type's fields, of an AF with eight amendments, by their letters; RT, TO and HB have none. In the old feed
-- an aircraft, an AF's content and the clock of an AZ are others
abbrev row_of : Rule → MessageType → List ℕ
row_of New Az = bytes "IPPA..............."
row_of New Dz = bytes "IZPTPC............."
row_of New Rz = bytes "IPP................"
row_of New Tz = bytes "JGMO..............."
row_of New Fz = bytes "IZSFHLR............"
row_of New Uz = bytes "IZSFHLR............"
row_of New Af = bytes "IPPBWBWBWBWBWBWBWBW"
row_of New Rt = bytes "..................."
row_of New To = bytes "..................."
row_of New Hb = bytes "..................."
row_of Old Az = bytes "IPPC..............."
row_of Old Dz = bytes "IzPTPC............."
row_of Old Rz = bytes "IPP................"
row_of Old Tz = bytes "JGMO..............."
row_of Old Fz = bytes "IzSFHLR............"
row_of Old Uz = bytes "IzSFHLR............"
row_of Old Af = bytes "IPPBwBwBwBwBwBwBwBw"
row_of Old Rt = bytes "..................."
row_of Old To = bytes "..................."
row_of Old Hb = bytes "..................."

pub rows_in_order : (κs : _) (a : _) (r : _) (s : _) → kinds-of.Post κs a r s → r ≡ row_of a.0 a.1.0
unfolding dotted table_by
rows_in_order κs a r s p = p ∙ by a.0
  where
    by : (ρ : Rule) → dotted ρ a.1.0 ≡ row_of ρ a.1.0
    by New = each_type (λ t. dotted New t ≡ row_of New t) refl refl refl refl refl refl refl refl refl refl a.1.0
    by Old = each_type (λ t. dotted Old t ≡ row_of Old t) refl refl refl refl refl refl refl refl refl refl a.1.0

-- in the old feed the fourth field of an AZ is a clock, without a prefix
pub old_az_with_an_arrival : (κs : _) (r : _) (s : _) → kinds-of.Post κs (Old, (Az, tt)) r s → r ≡ bytes "IPPC..............."
unfolding dotted table_by
old_az_with_an_arrival κs r s p = p

-- and the second of a DZ an aircraft without a last letter
pub old_dz_with_a_letter : (κs : _) (r : _) (s : _) → kinds-of.Post κs (Old, (Dz, tt)) r s → r ≡ bytes "IzPTPC............."
unfolding dotted table_by
old_dz_with_a_letter κs r s p = p

-- answer 8
abbrev spacing : Result (Bool × ℕ) Fault
spacing = Err Spacing

-- "Splitting at any run of spaces, so that a missing field shifts the rest": a TZ with two spaces in a row
pub run_of_spaces : (κs : _) (x : _) (r : _) (s : _) → read.Post κs (New, (Tz, (x, tt))) r s
    → x.now ≡ bytes " QQX12/101 310  240 3015N/08430W" → r.answer ≡ spacing
unfolding answer_by is_count count_in fields_of ended pieces
run_of_spaces κs x r s p e = p.0 ∙ ap (answer_by New Tz) e

-- an AZ's four fields are one too many for an RZ
pub counted_as_an_az : (κs : _) (x : _) (r : _) (s : _) → read.Post κs (New, (Rz, (x, tt))) r s
    → x.now ≡ bytes " N5AB GHI JKL A0810" → r.answer ≡ spacing
unfolding answer_by is_count count_in fields_of ended pieces
counted_as_an_az κs x r s p e = p.0 ∙ ap (answer_by New Rz) e

-- the fourth field of an AZ is asked for too: one that is a clock is taken
pub three_kinds_for_every_body : (κs : _) (x : _) (r : _) (s : _) → read.Post κs (New, (Az, (x, tt))) r s
    → x.now ≡ bytes " N5 AB CD 0810" → r.answer ≡ Ok (false, 0)
unfolding answer_by is_count count_in fields_of ended pieces kinds_of table_by answer_of answers counted answer_from read_in follows read_kind plain trace_of marks_of
    ident_of word_of is_form is_ident is_key is_arrival is_clock run fits is_of all is_alnum is_digit is_letter within is_numeral is_digit_to digit_of code_of number_of value
three_kinds_for_every_body κs x r s p e = p.0 ∙ ap (answer_by New Az) e

-- the route of an AF is the content of its number 10
pub route_by_the_fz_table : (κs : _) (x : _) (r : _) (s : _) → route.Post κs (New, (Af, (x, tt))) r s
    → x.now ≡ bytes " N5AB GHI JKL 10 GHI..JKL" → r.now ≡ bytes "GHI..JKL"
unfolding route_by table_by route_of route_in fields_of ended pieces plain content_of trace_of mark_of
route_by_the_fz_table κs x r s p e = p.0 ∙ ap (route_by New Af) e

-- an FZ has a route, its last field
pub route_by_the_rz_table : (κs : _) (x : _) (r : _) (s : _) → route.Post κs (New, (Fz, (x, tt))) r s
    → x.now ≡ bytes " N5AB C172 120 GHI D0810 050 GHI..JKL" → r.now ≡ bytes "GHI..JKL"
unfolding route_by table_by route_of route_in fields_of ended pieces plain trace_of
route_by_the_rz_table κs x r s p e = p.0 ∙ ap (route_by New Fz) e

-- ---- counts

-- a DZ has six fields, not seven
pub field_count_of_dz_7 : (κs : _) (r : _) (s : _) → field-count.Post κs (Dz, (0, tt)) r s → r ≡ 6
unfolding count_with
field_count_of_dz_7 κs r s p = p

-- an AF with the numbers 02 and 10 has three fields and two for each of them
pub amendment_is_one_field : (κs : _) (r : _) (s : _) → field-count.Post κs (Af, (129, tt)) r s → r ≡ 7
unfolding count_with ones
amendment_is_one_field κs r s p = p

-- the body of an HB is kept whole
pub heartbeat_has_fields : (κs : _) (r : _) (s : _) → has-fields.Post κs (Hb, tt) r s → r ≡ false
heartbeat_has_fields κs r s p = p

-- the old feed has none, and the feed has them
pub old_heartbeat : (κs : _) (r : _) (s : _) → has-type.Post κs (Old, (Hb, tt)) r s → r ≡ false
old_heartbeat κs r s p = p

pub no_heartbeat : (κs : _) (r : _) (s : _) → has-type.Post κs (New, (Hb, tt)) r s → r ≡ true
no_heartbeat κs r s p = p

-- that of an RZ is fields
pub rz_kept_whole : (κs : _) (r : _) (s : _) → has-fields.Post κs (Rz, tt) r s → r ≡ true
rz_kept_whole κs r s p = p

-- an FZ has a route, whatever marks are given
pub fz_without_route : (κs : _) (m : _) (r : _) (s : _) → has_route_lem.Post κs (Fz, (m, tt)) r s → r ≡ true
fz_without_route κs m r s p = p

-- an AF with every number but 10 has none
pub af_route_by_number_09 : (κs : _) (r : _) (s : _) → has_route_lem.Post κs (Af, (127, tt)) r s → r ≡ false
af_route_by_number_09 κs r s p = p

-- an AF has no even count of fields
pub af_even_count : (κs : _) (r : _) (s : _) → is-count.Post κs (Af, (6, tt)) r s → r ≡ false
unfolding is_count
af_even_count κs r s p = p

-- an AZ with three fields has one too few
pub too_few_fields_right : (κs : _) (r : _) (s : _) → is-count.Post κs (Az, (3, tt)) r s → r ≡ false
unfolding is_count
too_few_fields_right κs r s p = p

-- an FZ of 440 bytes from its type, after the 16 before it, is too long
pub fz_of_440_taken : (κs : _) (r : _) (s : _) → is-long-plan.Post κs (New, (Fz, (456, tt))) r s → r ≡ true
unfolding fits is_of
fz_of_440_taken κs r s p = p

-- one of the old feed by the 7 bytes before it: 439 bytes from its type are taken, 440 are not
pub old_fz_by_the_new_head : (κs : _) (r : _) (s : _) → is-long-plan.Post κs (Old, (Fz, (447, tt))) r s → r ≡ true
unfolding fits is_of
old_fz_by_the_new_head κs r s p = p

pub old_fz_of_439_refused : (κs : _) (r : _) (s : _) → is-long-plan.Post κs (Old, (Fz, (446, tt))) r s → r ≡ false
unfolding fits is_of
old_fz_of_439_refused κs r s p = p

-- a UZ of any length is not
pub limit_of_a_uz : (κs : _) (ρ : _) (n : _) (r : _) (s : _) → is-long-plan.Post κs (ρ, (Uz, (n, tt))) r s → r ≡ false
unfolding fits is_of
limit_of_a_uz κs ρ n r s p = p

-- ---- kinds

-- the content of 08, whose mark is 32, is a level
pub content_is_a_model : (κs : _) (r : _) (s : _) → plain-read.Post κs (CONTENT, (32, tt)) r s → r ≡ LEVEL
unfolding plain content_of
content_is_a_model κs r s p = p

-- the time of FZ and UZ is read as a time, whatever was left
pub plan_time_is_a_clock : (κs : _) (m : _) (r : _) (s : _) → plain-read.Post κs (PLAN_TIME, (m, tt)) r s → r ≡ TIME
unfolding plain
plan_time_is_a_clock κs m r s p = p

-- the number 10 leaves its mark
pub nothing_left : (κs : _) (x : _) (r : _) (s : _) → trace-read.Post κs (AMENDMENT, (x, tt)) r s → x.now ≡ bytes "10" → r ≡ 128
unfolding trace_of mark_of
nothing_left κs x r s p e = p ∙ ap (trace_of AMENDMENT) e

-- a fix that is a position says so
pub left_by_another_field : (κs : _) (x : _) (r : _) (s : _) → trace-read.Post κs (FIX, (x, tt)) r s → x.now ≡ bytes "3015N/08430W" → r ≡ 1
unfolding trace_of is_position fits is_of within is_numeral all is_digit is_digit_to digit_of code_of number_of value
left_by_another_field κs x r s p e = p ∙ ap (trace_of FIX) e

-- after 02 and then 10 both marks are set
pub marks_before_lost : (κs : _) (x : _) (r : _) (s : _) → marks-read.Post κs (AMENDMENT, (1, (x, tt))) r s → x.now ≡ bytes "10" → r ≡ 129
unfolding marks_of mark_of
marks_before_lost κs x r s p e = p ∙ ap (marks_of AMENDMENT 1) e

-- a point that looks like a number sets none
pub point_sets_a_mark : (κs : _) (m : _) (x : _) (r : _) (s : _) → marks-read.Post κs (POINT, (m, (x, tt))) r s → x.now ≡ bytes "10" → r ≡ m
unfolding marks_of
point_sets_a_mark κs m x r s p e = p

-- a time with E does not follow a fix that is no position
pub e_rule_for_d : (κs : _) (m : _) (x : _) (r : _) (s : _) → follows-read.Post κs (PLAN_TIME, (0, (m, (x, tt)))) r s
    → x.now ≡ bytes "E0815" → r ≡ false
unfolding follows
e_rule_for_d κs m x r s p e = p ∙ ap (follows PLAN_TIME 0 m) e

-- nor a number one that came before
pub number_twice : (κs : _) (l : _) (x : _) (r : _) (s : _) → follows-read.Post κs (AMENDMENT, (l, (128, (x, tt)))) r s
    → x.now ≡ bytes "10" → r ≡ false
unfolding follows mark_of
number_twice κs l x r s p e = p ∙ ap (follows AMENDMENT l 128) e

-- ---- an amendment's number

-- the sentence of document 01, word for word: "a number 02, 03, 05, 06, 07, 08, 09 or 10, and its content (ident, aircraft, filed speed, fix,
-- time, level, level, route)"
abbrev numbers : List String
numbers = "02" ∷ "03" ∷ "05" ∷ "06" ∷ "07" ∷ "08" ∷ "09" ∷ "10" ∷ []

abbrev contents : List ℕ
contents = IDENT ∷ AIRCRAFT ∷ FILED_SPEED ∷ FIX ∷ TIME ∷ LEVEL ∷ LEVEL ∷ ROUTE ∷ []

-- the eight are those of the sentence, in its order
pub eight_of_the_sentence : (map (λ (a : Amends). a.number) the_eight ≡ map bytes numbers) × (map (λ (a : Amends). a.content) the_eight ≡ contents)
eight_of_the_sentence = (refl, refl)

-- a number t of these asks for the content k in its place, in the sentence's order; and so of each
abbrev Asks : List ℕ → ℕ → List String → List ℕ → Type 0
Asks t k [] cs = Unit {0}
Asks t k (n ∷ ns) [] = Unit {0}
Asks t k (n ∷ ns) (c ∷ cs) = (t ≡ bytes n → k ≡ c) × Asks t k ns cs

-- what a number leaves, and what is read after it: 06 asks for a fix and 07 for a time, not the other way round
pub number_asks : (κs : _) (x : _) (m : _) (s : _) → trace-read.Post κs (AMENDMENT, (x, tt)) m s
    → (κs' : _) (k : _) (s' : _) → plain-read.Post κs' (CONTENT, (m, tt)) k s' → Asks x.now k numbers contents
unfolding plain content_of trace_of mark_of
number_asks κs x m s p κs' k s' q = (on, (on, (on, (on, (on, (on, (on, (on, tt))))))))
  where
    on : {t : List ℕ} → x.now ≡ t → k ≡ plain CONTENT (trace_of AMENDMENT t)
    on e = q ∙ ap (plain CONTENT) (p ∙ ap (trace_of AMENDMENT) e)

-- "an AF number field that is none of the eight (never 9)": 04 and 11 are answered 10, with their place
none_of_the_eight : (answer_by New Af (bytes " N5 AB CD 04 120") ≡ Err (Number 4)) × (answer_by New Af (bytes " N5 AB CD 11 120") ≡ Err (Number 4))
unfolding answer_by is_count count_in fields_of ended pieces kinds_of table_by answer_of answers counted answer_from read_in follows read_kind read_mark mark_of barred plain
    trace_of marks_of ident_of word_of is_form is_ident is_key run fits is_of all is_alnum is_digit is_letter
none_of_the_eight = (refl, refl)

pub number_04 : (κs : _) (x : _) (r : _) (s : _) → read.Post κs (New, (Af, (x, tt))) r s → x.now ≡ bytes " N5 AB CD 04 120" → r.answer ≡ Err (Number 4)
number_04 κs x r s p e = p.0 ∙ rw e none_of_the_eight.0

pub number_11 : (κs : _) (x : _) (r : _) (s : _) → read.Post κs (New, (Af, (x, tt))) r s → x.now ≡ bytes " N5 AB CD 11 120" → r.answer ≡ Err (Number 4)
number_11 κs x r s p e = p.0 ∙ rw e none_of_the_eight.1

-- ---- the old feed: "An aircraft field with a last letter, or an AZ clock with a prefix, has no reading there"

old_refused : (answer_by Old Dz (bytes " N5 C172/A AB D0810 CD 0930") ≡ Err (Field 2)) × (answer_by Old Az (bytes " N5 AB CD A0810") ≡ Err (Field 4))
    × (answer_by Old Af (bytes " N5 AB CD 03 C172/A") ≡ Err (Field 5))
unfolding answer_by is_count count_in fields_of ended pieces kinds_of table_by answer_of answers counted answer_from read_in follows read_kind read_mark mark_of content_of
    plain trace_of marks_of ident_of word_of is_form is_ident is_key is_clock run fits is_of all is_alnum is_digit is_letter aircraft_by aircraft_of plain_of pair_of is_pair_form
    has up_to before after packed value code_of
old_refused = (refl, refl, refl)

pub old_dz_letter_taken : (κs : _) (x : _) (r : _) (s : _) → read.Post κs (Old, (Dz, (x, tt))) r s → x.now ≡ bytes " N5 C172/A AB D0810 CD 0930" → r.answer ≡ Err (Field 2)
old_dz_letter_taken κs x r s p e = p.0 ∙ rw e old_refused.0

pub old_az_prefix_taken : (κs : _) (x : _) (r : _) (s : _) → read.Post κs (Old, (Az, (x, tt))) r s → x.now ≡ bytes " N5 AB CD A0810" → r.answer ≡ Err (Field 4)
old_az_prefix_taken κs x r s p e = p.0 ∙ rw e old_refused.1

-- so too where it is the content of an 03
pub old_03_letter_taken : (κs : _) (x : _) (r : _) (s : _) → read.Post κs (Old, (Af, (x, tt))) r s → x.now ≡ bytes " N5 AB CD 03 C172/A" → r.answer ≡ Err (Field 5)
old_03_letter_taken κs x r s p e = p.0 ∙ rw e old_refused.2

-- ---- showing

-- the number whose mark is 32 is written as 08, and all other bytes stay
pub number_08_written_09 : (κs : _) (l : _) (x : _) (y : _) (r : _) (s : _) → put-field.Post κs (AMENDMENT, (l, (valued 32 0 0, (x, (y, (1, tt)))))) r s
    → y.now ≡ bytes "...." → s.1.1.1.1.0.now ≡ bytes ".08."
unfolding written_bytes has_room spliced is_value shown is_mark mark_text is_one
number_08_written_09 κs l x y r s p e = p.1 ∙ ap (λ b. written_bytes true (bytes "08") b 1) e

-- bytes with a space among them are no route: values that no line has
pub route_any_bytes : (κs : _) (l : _) (x : _) (y : _) (n : _) (r : _) (s : _) → put-field.Post κs (ROUTE, (l, (valued 0 0 0, (x, (y, (n, tt)))))) r s
    → x.now ≡ bytes "A B" → r ≡ Err NoText
unfolding written_next is_value is_kind_value plain is_route all is_of
route_any_bytes κs l x y n r s p e = p.0 ∙ ap (λ b. written_next (is_value ROUTE l b (valued 0 0 0)) (shown ROUTE l b (valued 0 0 0)) y.now n) e

-- ---- values

pub word_in_the_second_part : (κs : _) (r : _) (s : _) → value-word.Post κs (7, tt) r s → (r.a ≡ 7) × (r.b ≡ 0)
word_in_the_second_part κs r s p = (ap (λ (v : Value). v.a) p, ap (λ (v : Value). v.b) p)

pub pair_taken_for_one : (κs : _) (r : _) (s : _) → value-is-one.Post κs (record { a = 1; b = 2; c = 0 }, tt) r s → r ≡ false
unfolding is_one
pair_taken_for_one κs r s p = p
