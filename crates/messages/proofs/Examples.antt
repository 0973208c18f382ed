-- What the promises of `messages` require on inputs written out, and so wrong answers that they do not allow: of each, `Post` is the function's
-- `ensures` as it stands in the source, r any result that meets it, s the state at exit. Assumes nothing.
use Rattle.std.specs.Prelude.{Bool, Err, Ok, Result}
use Prim.Native.Nat.{ℕ}
use Prim.Native.String.{String}
use mathlib.Core.Bool.{false}
use mathlib.Core.List.{List, [], ◌∷◌, map}
use mathlib.Core.Path.{◌≡◌, ap, ◌∙◌, refl}
use lib.ListN.{get_or, drop}
use Rattle.text.specs.Bytes.{bytes}
use Rattle.text.specs.Class.{all, is_digit, is_letter, is_alnum}
use Rattle.text.specs.Code.{code_of}
use Rattle.text.specs.Number.{is_numeral, is_digit_to, digit_of, number_of}
use Rattle.text.specs.Place.{value, all_in}
use Rattle.text.specs.Text.{text_of, packed}
use Rattle.shapes.specs.Cut.{up_to, has, before, after, joins}
use Rattle.shapes.specs.Picture.{is_of, fits, fits_any, one_of, run, within}
use Rattle.shapes.specs.Pieces.{pieces}
use Rattle.rules.specs.Form.{is_key, is_ident, is_tz_ident, is_fix, is_time, is_clock, is_block, is_level, is_position}
use Rattle.rules.specs.Kind.{is_form}
use Rattle.rules.specs.declared.Rule.TheVariants.{New}
use Rattle.fields.specs.Aircraft.{aircraft_of, aircraft_by, plain_of, prefixed_of}
use Rattle.fields.specs.Ident.{ident_from, ident_of, tz_ident_of}
use Rattle.fields.specs.Pair.{is_pair_form, pair_of}
use Rattle.fields.specs.Word.{word_of}
use Rattle.fields.specs.declared.heads.MessageType.{MessageType}
use Rattle.fields.specs.declared.heads.MessageType.TheVariants as type
use Rattle.table.specs.Field.{valued, ident_in, aircraft_in, mark_of, content_of, trace_of, marks_of, follows, plain, read_kind, read_mark, barred, read_in}
use Rattle.table.specs.Read.{padded, values_from, answer_from, counted, answers, values, answer_of, values_of, none}
use Rattle.table.specs.Spacing.{fields_of, ended}
use Rattle.table.specs.Table.{count_with, is_count, table_by, kinds_of, count_in, answer_by, values_by}
use Rattle.table.specs.declared.kinds.Value.{Value}
use Rattle.table.specs.declared.walk.Fault.TheVariants as fault
use Rattle.messages.specs.Body.{plan_level, amended_in, held_of, type_in, key_in, marks_in, value_of_word, body_from, slots}
use Rattle.messages.specs.Read.{body_read}
use Rattle.messages.specs.declared.Amended.TheVariants as amended
use Rattle.messages.specs.declared.Amendment.{Amendment}
use Rattle.messages.specs.declared.Body.TheVariants as body
use Rattle.messages.specs.declared.PlanLevel.TheVariants as level
use Rattle.messages.proofs.Amended.amendment.Reads as held
use Rattle.messages.proofs.Amendment.amended.Reads as content
use Rattle.messages.proofs.Plan.filed_level.Reads as filed-level
use Rattle.messages.proofs.key_in.Reads as key_in
use Rattle.messages.proofs.marks_in.Reads as marks-in
use Rattle.messages.proofs.type_in.Reads as type-in
use Rattle.messages.proofs.typed.read_body.Reads as read-body
use Rattle.messages.proofs.values.values_in.Reads as values-in
use Rattle.messages.specs.declared.Body.{Body}
use Rattle.table.specs.declared.walk.Fault.{Fault}

-- the level is assigned when the time has D
pub level_requested_with_d : (κs : _) (a : _) (r : _) (s : _) → filed-level.Post κs a r s → text_of a.0.time.0 ≡ bytes "D0715" → r ≡ level.Assigned a.0.level
unfolding plan_level
level_requested_with_d κs a r s p e = p ∙ rw e

-- and requested when it has P
pub never_requested : (κs : _) (a : _) (r : _) (s : _) → filed-level.Post κs a r s → text_of a.0.time.0 ≡ bytes "P0715" → r ≡ level.Requested a.0.level
unfolding plan_level
never_requested κs a r s p e = p ∙ rw e

-- an amendment with the number n and the content v
abbrev numbered : String → Value → Amendment
numbered n v = record { mark = mark_of (bytes n); content = v }

-- "its content (ident, aircraft, filed speed, fix, time, level, level, route)", each number's by its own type: of the levels 08 is the assigned one
-- and 09 the requested one (000)
pub content_by_number : (κs : _) (a : _) (r : _) (s : _) → content.Post κs a r s → (v : Value)
    → (a.0 ≡ numbered "02" v → r ≡ amended.Ident (ident_in v)) × (a.0 ≡ numbered "03" v → r ≡ amended.Aircraft (aircraft_in v))
    × (a.0 ≡ numbered "05" v → r ≡ amended.Speed (record { 0 = v.a })) × (a.0 ≡ numbered "06" v → r ≡ amended.Fix (record { 0 = v.a }))
    × (a.0 ≡ numbered "07" v → r ≡ amended.Time (record { 0 = v.a })) × (a.0 ≡ numbered "08" v → r ≡ amended.Assigned (record { 0 = v.a }))
    × (a.0 ≡ numbered "09" v → r ≡ amended.Requested (record { 0 = v.a })) × (a.0 ≡ numbered "10" v → r ≡ amended.Route)
unfolding amended_in mark_of
content_by_number κs a r s p v = (on, on, on, on, on, on, on, on)
  where
    on : {x : Amendment} → a.0 ≡ x → r ≡ amended_in x
    on e = p ∙ ap amended_in e

-- an 08 has an assigned level
pub amended_08_is_requested : (κs : _) (a : _) (r : _) (s : _) → content.Post κs a r s → (v : Value) → a.0 ≡ numbered "08" v → r ≡ amended.Assigned (record { 0 = v.a })
amended_08_is_requested κs a r s p v = (content_by_number κs a r s p v).5

-- a mark of no number, or of two, has no content
pub two_marks_are_the_first : (κs : _) (a : _) (r : _) (s : _) → content.Post κs a r s → (w : ℕ) → a.0 ≡ record { mark = 5; content = valued w 0 0 } → r ≡ amended.Nothing
unfolding amended_in
two_marks_are_the_first κs a r s p w e = p ∙ ap amended_in e

-- a route has the mark of 10, and no content is held
pub route_unmarked : (κs : _) (a : _) (r : _) (s : _) → held.Post κs a r s → a.0 ≡ amended.Route → r ≡ numbered "10" (valued 0 0 0)
unfolding mark_of
route_unmarked κs a r s p e = p ∙ ap held_of e

-- a filed speed has the mark of 05
pub speed_is_a_fix : (κs : _) (a : _) (r : _) (s : _) → held.Post κs a r s → (w : ℕ) → a.0 ≡ amended.Speed (record { 0 = w }) → r ≡ numbered "05" (valued w 0 0)
unfolding mark_of
speed_is_a_fix κs a r s p w e = p ∙ ap held_of e

-- a UZ is no FZ, though both hold a plan
pub uz_is_fz : (κs : _) (a : _) (r : _) (s : _) → type-in.Post κs a r s → (m : _) → a.0 ≡ body.Uz m → r ≡ type.Uz
uz_is_fz κs a r s p m e = p ∙ ap type_in e

-- a TZ is no AZ
pub tz_is_an_az : (κs : _) (a : _) (r : _) (s : _) → type-in.Post κs a r s → (m : _) → a.0 ≡ body.Tz m → r ≡ type.Tz
tz_is_an_az κs a r s p m e = p ∙ ap type_in e

-- an AZ keeps no mark
pub az_keeps_a_mark : (κs : _) (a : _) (r : _) (s : _) → marks-in.Post κs a r s → (m : _) → a.0 ≡ body.Az m → r ≡ 0
az_keeps_a_mark κs a r s p m e = p ∙ ap marks_in e

-- nor does an FZ, though it has a route
pub fz_keeps_a_mark : (κs : _) (a : _) (r : _) (s : _) → marks-in.Post κs a r s → (m : _) → a.0 ≡ body.Fz m → r ≡ 0
fz_keeps_a_mark κs a r s p m e = p ∙ ap marks_in e

-- ---- typed

abbrev word : String → Value
word t = value_of_word (packed (bytes t))

abbrev answered : Result (Body × Bool) Fault
answered = Ok (body_from type.Af (mark_of (bytes "08")) (padded (word "NVL88" ∷ word "BOS" ∷ word "ALB" ∷ value_of_word (mark_of (bytes "08")) ∷ word "290" ∷ [])), false)

read_as : (body_read New type.Rz (bytes " NVL88 BOS A-B") ≡ Err (fault.Field 3)) × (body_read New type.Af (bytes " NVL88 BOS ALB 08 290") ≡ answered)
unfolding body_read padded answer_by values_by count_in kinds_of table_by is_count count_with answer_of answers answer_from values_of values values_from counted fields_of ended read_in read_kind read_mark barred plain trace_of marks_of content_of follows mark_of ident_of ident_from word_of is_form is_key is_ident is_level has before after up_to one_of fits_any fits pieces run is_of is_alnum is_digit is_letter all all_in packed value code_of
read_as = (refl, refl)

-- a point has no dash: 9 with its place, not 10
pub field_answered_as_number : (κs : _) (a : _) (r : _) (s : _) → read-body.Post κs a r s → a.0 ≡ New → a.1.0 ≡ type.Rz → a.1.1.0.now ≡ bytes " NVL88 BOS A-B" → r ≡ Err (fault.Field 3)
field_answered_as_number κs a r s p n e f = p ∙ rw (n, e, f) read_as.0

-- an 08 is kept with its own mark and the word of its level
pub typed_amended_08_is_requested : (κs : _) (a : _) (r : _) (s : _) → read-body.Post κs a r s → a.0 ≡ New → a.1.0 ≡ type.Af → a.1.1.0.now ≡ bytes " NVL88 BOS ALB 08 290" → r ≡ answered
typed_amended_08_is_requested κs a r s p n e f = p ∙ rw (n, e, f) read_as.1

-- a body, and the place of its field that is answered 9
pub record Unread : Type 0 where
  pub kind : MessageType
  pub text : String
  pub place : ℕ

abbrev unread : MessageType → String → ℕ → Unread
unread t s i = record { kind = t; text = s; place = i }

-- "A filed speed is never handed on as a ground speed, nor a level as either": M080 and 0310 are filed speeds, 05 and 310B330 levels
abbrev pub not_handed_on : List Unread
not_handed_on =
    unread type.Tz " QQX12/101 M080 240 3015N/08430W" 2
    ∷ unread type.Tz " QQX12/101 0310 240 3015N/08430W" 2
    ∷ unread type.Tz " QQX12/101 05 240 3015N/08430W" 2
    ∷ unread type.Tz " QQX12/101 310B330 240 3015N/08430W" 2
    ∷ unread type.Tz " QQX12/101 310 05 3015N/08430W" 3
    ∷ unread type.Tz " QQX12/101 310 310B330 3015N/08430W" 3
    ∷ unread type.Fz " QQX12/101 C172/A 310B330 ABC D0816 310 ABC..DEF" 3
    ∷ unread type.Fz " QQX12/101 C172/A 310 ABC D0816 M080 ABC..DEF" 6
    ∷ unread type.Af " QQX12/101 ABC DEF 05 310B330" 5
    ∷ unread type.Af " QQX12/101 ABC DEF 08 M080" 5
    ∷ []

-- the type t and the body s being those of a row, r is a refusal with its place, and hands nothing on; and so of each row
abbrev pub Refuses : MessageType → List ℕ → Result (Body × Bool) Fault → List Unread → Type 0
Refuses t s r [] = Unit {0}
Refuses t s r (x ∷ l) = (t ≡ x.kind → s ≡ bytes x.text → r ≡ Err (fault.Field x.place)) × Refuses t s r l

refuses : (t : MessageType) (s : List ℕ) (l : List Unread) → map (λ (x : Unread). body_read New x.kind (bytes x.text)) l ≡ map (λ (x : Unread). Err (fault.Field x.place)) l → Refuses t s (body_read New t s) l
refuses t s [] e = tt
refuses t s (x ∷ l) e = ((λ p q. rw (p, q) (ap (λ bs. get_or bs 0 (Err fault.Spacing)) e)), refuses t s l (ap (drop 1) e))

pub speeds_and_levels : (κs : _) (a : _) (r : _) (s : _) → read-body.Post κs a r s → a.0 ≡ New → Refuses a.1.0 a.1.1.0.now r not_handed_on
unfolding body_read answer_by values_by count_in kinds_of table_by is_count answer_of answers answer_from counted fields_of ended read_in read_kind read_mark barred plain trace_of marks_of
    content_of follows mark_of ident_of tz_ident_of word_of aircraft_by aircraft_of plain_of prefixed_of pair_of is_pair_form is_form is_key is_ident is_tz_ident is_fix is_time is_clock is_block is_level is_position
    joins has before after up_to one_of fits_any fits pieces run is_of is_alnum is_digit is_letter all within is_numeral is_digit_to digit_of number_of value code_of
speeds_and_levels κs a r s p n = rw (p, n) (refuses a.1.0 a.1.1.0.now not_handed_on refl)

-- ---- the flight's key

-- of a TZ the key is not its ident's computer number
pub key_the_computer_number : (κs : _) (a : _) (r : _) (s : _) → key_in.Post κs a r s → (m : _) → a.0 ≡ body.Tz m
    → m.ident ≡ record { key = record { 0 = packed (bytes "QQX12") }; number = record { 0 = packed (bytes "101") } } → r ≡ packed (bytes "QQX12")
key_the_computer_number κs a r s p m e i = p ∙ ap key_in e ∙ rw i

-- and a heartbeat has none
pub key_of_a_heartbeat : (κs : _) (a : _) (r : _) (s : _) → key_in.Post κs a r s → a.0 ≡ body.Hb → r ≡ 0
key_of_a_heartbeat κs a r s p e = p ∙ ap key_in e

-- ---- values

-- the third amendment's number and content are the eighth value and the ninth
pub third_and_fourth_swapped : (κs : _) (a : _) (r : _) (s : _) → values-in.Post κs a r s → (m : _) → a.0 ≡ body.Af m → (get_or r 7 none ≡ value_of_word m.third.mark) × (get_or r 8 none ≡ m.third.content)
unfolding slots
third_and_fourth_swapped κs a r s p m e = let q = p ∙ ap slots e in (ap (λ w. get_or w 7 none) q, ap (λ w. get_or w 8 none) q)

-- the speed of a TZ comes before its level
pub tz_level_as_speed : (κs : _) (a : _) (r : _) (s : _) → values-in.Post κs a r s → (m : _) → a.0 ≡ body.Tz m → (get_or r 1 none ≡ value_of_word m.speed.0) × (get_or r 2 none ≡ value_of_word m.level.0)
unfolding slots
tz_level_as_speed κs a r s p m e = let q = p ∙ ap slots e in (ap (λ w. get_or w 1 none) q, ap (λ w. get_or w 2 none) q)
