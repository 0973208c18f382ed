-- THE LAWS of "entries such as a line could give": a key, an arrival entry, a track and a row are allowed exactly if lines give them.
-- Assumes nothing.
use Rattle.std.specs.Prelude.{None, Ok, Option, Some}
use mathlib.Core.Logic.{◌↔◌}
use mathlib.Core.Path.{◌≡◌, refl, sym, ap, ap₂, ◌∙◌, subst}
use mathlib.Core.Bool.{true, false, ◌&&◌}
use mathlib.Core.List.{List, [], ◌∷◌}
use Prim.Native.Nat.{ℕ, ◌+◌, ◌≤◌}
use native.Mathlib.Omega.{arith}
use lib.Dec.{eqb, leb}
use lib.ListN.{length, length-append}
use borrow.Author.Tests.{ne_eqb, leb-true, le-leb}
use Rattle.text.specs.Bytes.{bytes}
use Rattle.text.specs.Class.{is_digit, is_letter, is_alnum, all}
use Rattle.text.specs.Code.{code_of}
use Rattle.text.specs.Number.{is_numeral, number_of, is_digit_to, digit_of}
use Rattle.text.specs.Place.{value}
use Rattle.text.specs.Text.{packed, text_of}
use Rattle.text.proofs.Logic.{and_left, and_right, true_false}
use Rattle.text.proofs.Laws.{text_short}
use Rattle.shapes.specs.Pieces.{pieces}
use Rattle.shapes.specs.Picture.{is_of, fits, fits_any, one_of, run, within}
use Rattle.rules.specs.Form.{is_stamp, is_key, is_clock, is_arrival as is_arrival_text}
use Rattle.rules.specs.Kind.{SEQUENCE, STAMP, KEY, NUMBER, POINT, ARRIVAL, GROUND_SPEED, TRACK_LEVEL, POSITION, is_form}
use Rattle.rules.specs.declared.Rule.TheVariants.{New}
use Rattle.rules.proofs.Held.{form_held}
use Rattle.fields.specs.Word.{is_word}
use Rattle.fields.specs.Pair.{is_pair}
use Rattle.fields.specs.Head.{head_length}
use Rattle.fields.specs.Facility.{facility_of, is_facility_value}
use Rattle.fields.specs.declared.frame.Stamp.{Stamp}
use Rattle.fields.proofs.WordLaws.{form_word, word_packed}
use Rattle.fields.proofs.PairLaws.{packed_some}
use Rattle.fields.proofs.FacilityLaws.{facility_sound}
use Rattle.fields.proofs.Slashes.{ident_short}
use Rattle.table.specs.Spacing.{body_of}
use Rattle.table.specs.Field.{is_one, is_two, plain, marks_of, follows, is_kind_value, is_value, shown, shown_kind}
use Rattle.table.specs.Plan.{is_long_plan}
use Rattle.table.specs.Show.{texts_from, allowed_from, marks_from}
use Rattle.table.specs.Table.{count_with, is_count, table_by, kinds_of}
use Rattle.messages.specs.Body.{type_in, slots, field_count, values_in, spare}
use Rattle.messages.specs.Allowed.{is_whole, has_route, kinds_in, body_text, is_fielded, is_body}
use Rattle.messages.specs.Reading.{reading_of}
use Rattle.messages.specs.declared.Message.{Message}
use Rattle.messages.specs.declared.Body.{Body}
use Rattle.messages.specs.declared.Body.TheVariants as body
use Rattle.line.specs.Line.{line_by, line_of}
use Rattle.line.specs.Read.{read_of}
use Rattle.line.proofs.Heads.{headed_parts}
use Rattle.line.proofs.Steps.{Allows, head_in, allows_allowed}
use Rattle.line.proofs.Theorems.{allowed_reads}
use Rattle.board.specs.Row.{is_arrival, is_track, has_entry, is_row}
use Rattle.board.specs.Rows.{CAP, all_rows, rises_by_bytes, is_board}
use Rattle.board.specs.Board.{is_allowed}
use Rattle.board.proofs.Allowed.{cap_is}
use Rattle.board.proofs.Theorems.{Shows, allowed_rows}
use Rattle.board.specs.declared.rows.Arrival.{Arrival}
use Rattle.board.specs.declared.rows.Track.{Track}
use Rattle.board.specs.declared.rows.Row.{Row}
use Rattle.history.specs.Events.{Event, dz, az, tz, is_event}
use Rattle.planner.specs.Asked.{asked_by, asked_from, asked_of}
use Rattle.planner.specs.Apply.{event_of, line_event}
use Rattle.planner.specs.Given.{GivesArrival, ByDz, ByAz, GivesTrack, ByTz, GivesKey, OfDz, OfAz, OfTz, GivesRow, EachGiven, GivesBoard}
use Rattle.planner.proofs.Theorems.{line_is}

-- ---- a line with a stamp and a body

abbrev made : Stamp → Body → Message
made t b = record { sequence = record { 0 = packed (bytes "0000") }; stamp = t; facility = record { 0 = value 256 4 (bytes "KZAA") }; body = b; trailing = false }

sequence_made : is_word SEQUENCE (packed (bytes "0000")) ≡ true
unfolding is_form is_of fits is_digit
sequence_made = form_word SEQUENCE (bytes "0000") refl

facility_made : is_facility_value (value 256 4 (bytes "KZAA")) ≡ true
unfolding facility_of is_of fits fits_any one_of pieces is_alnum is_digit is_letter
facility_made = (facility_sound (bytes "KZAA") (record { 0 = value 256 4 (bytes "KZAA") }) refl).2

-- it reads, where the body is allowed and short, and no FZ
made_reads : (t : Stamp) (b : Body) → is_word STAMP t.0 ≡ true → is_body New b [] false ≡ true → length (body_text New b [] false) ≤ 1000
    → is_long_plan New (type_in b) (length (line_of (made t b) [])) ≡ false → read_of (line_of (made t b) []) ≡ Ok (made t b)
unfolding line_by
made_reads t b w e l p =
    let m = made t b in
    let x = reading_of m in
    let z : length (line_of m []) ≡ head_length New + length (body_text New b [] false) = (headed_parts New (head_in x (type_in b)) (body_text New b [] false) sequence_made w facility_made).size in
    let a : Allows New x [] = record { sequence_held = sequence_made; stamp_held = w; facility_held = facility_made; type_given = refl; body = e; short = omega arith; plan = p } in
    (allowed_reads New m [] (allows_allowed New x [] a)).0

word_short : (k t : ℕ) → is_word k t ≡ true → length (text_of t) ≤ 12
word_short k t e = text_short t (word_packed k t e)

-- ---- the AZ of a key and an arrival entry

abbrev az_body : ℕ → Arrival → Body
az_body k a = body.Az (record { ident = record { key = record { 0 = k }; number = record { 0 = 0 } }; from = a.departure; to = a.destination; clock = a.clock })

module _ (k : ℕ) (a : Arrival) (i : is_pair KEY NUMBER k 0 ≡ true) (f : is_word POINT a.departure.0 ≡ true) (t : is_word POINT a.destination.0 ≡ true)
    (c : is_word ARRIVAL a.clock.0 ≡ true) where
  az_body_lem : is_body New (az_body k a) [] false ≡ true
  unfolding is_body is_fielded is_whole has_route kinds_in kinds_of table_by values_in spare field_count count_with slots is_count allowed_from marks_from is_value is_kind_value plain follows marks_of is_one is_two
  az_body_lem = rw (i, f, t, c)

  az_short : length (body_text New (az_body k a) [] false) ≤ 1000
  unfolding body_text is_whole kinds_in kinds_of table_by values_in field_count count_with slots texts_from shown shown_kind plain body_of
  az_short =
      simp length-append
      (omega (arith, ident_short k 0 i, word_short POINT a.departure.0 f, word_short POINT a.destination.0 t, word_short ARRIVAL a.clock.0 c))

-- ---- the TZ of a key and a track: "in TZ the number is required"

abbrev some_number : ℕ
some_number = packed (bytes "101")

number_made : is_form NUMBER (bytes "101") ≡ true
unfolding is_form is_of fits is_alnum is_digit
number_made = refl

number_some : eqb some_number 0 ≡ false
number_some = let h = form_held NUMBER (bytes "101") number_made in ne_eqb some_number 0 (packed_some (bytes "101") h.text h.some)

abbrev tz_body : ℕ → Track → Body
tz_body k t = body.Tz (record { ident = record { key = record { 0 = k }; number = record { 0 = some_number } }; speed = t.speed; level = t.level; position = t.position })

module _ (k : ℕ) (t : Track) (i : is_pair KEY NUMBER k some_number ≡ true) (g : is_word GROUND_SPEED t.speed.0 ≡ true)
    (l : is_word TRACK_LEVEL t.level.0 ≡ true) (p : is_word POSITION t.position.0 ≡ true) where
  tz_body_lem : is_body New (tz_body k t) [] false ≡ true
  unfolding is_body is_fielded is_whole has_route kinds_in kinds_of table_by values_in spare field_count count_with slots is_count allowed_from marks_from is_value is_kind_value plain follows marks_of is_one is_two
  tz_body_lem = rw (i, number_some, g, l, p)

  tz_short : length (body_text New (tz_body k t) [] false) ≤ 1000
  unfolding body_text is_whole kinds_in kinds_of table_by values_in field_count count_with slots texts_from shown shown_kind plain body_of
  tz_short =
      simp length-append
      (omega (arith, ident_short k some_number i, word_short GROUND_SPEED t.speed.0 g, word_short TRACK_LEVEL t.level.0 l, word_short POSITION t.position.0 p))

-- ---- a key and an entry that are allowed are given together by a line

key_alone : (k : ℕ) → is_word KEY k ≡ true → is_pair KEY NUMBER k 0 ≡ true
unfolding is_pair
key_alone k e = rw e

key_numbered : (k : ℕ) → is_word KEY k ≡ true → is_pair KEY NUMBER k some_number ≡ true
unfolding is_pair
key_numbered k e = rw (e, number_some, form_word NUMBER (bytes "101") number_made)

asks_as : (m : Message) (s : List ℕ) → read_of s ≡ Ok m → line_event s ≡ event_of (Ok (asked_by m))
unfolding line_event asked_of
asks_as m s e = ap (λ r. event_of (asked_from r)) e

pub az_line : (k : ℕ) (a : Arrival) → is_word KEY k ≡ true → is_arrival (Some a) ≡ true → (s : List ℕ) × (line_event s ≡ az k a)
unfolding is_arrival asked_by fits is_of
az_line k a e h =
    let f = is_word POINT a.departure.0 in
    let t = is_word POINT a.destination.0 in
    let c = is_word ARRIVAL a.clock.0 in
    let d = is_word STAMP a.stamp.0 in
    let u = and_left (f && t && c) d h in
    let v = and_left (f && t) c u in
    let i = key_alone k e in
    let m = made a.stamp (az_body k a) in (
      line_of m [],
      asks_as m (line_of m [])
          (made_reads a.stamp (az_body k a) (and_right (f && t && c) d h) (az_body_lem k a i (and_left f t v) (and_right f t v) (and_right (f && t) c u))
          (az_short k a i (and_left f t v) (and_right f t v) (and_right (f && t) c u)) refl),
    )

pub tz_line : (k : ℕ) (t : Track) → is_word KEY k ≡ true → is_track (Some t) ≡ true → (s : List ℕ) × (line_event s ≡ tz k t)
unfolding is_track asked_by fits is_of
tz_line k t e h =
    let g = is_word GROUND_SPEED t.speed.0 in
    let l = is_word TRACK_LEVEL t.level.0 in
    let p = is_word POSITION t.position.0 in
    let d = is_word STAMP t.stamp.0 in
    let u = and_left (g && l && p) d h in
    let v = and_left (g && l) p u in
    let i = key_numbered k e in
    let m = made t.stamp (tz_body k t) in (
      line_of m [],
      asks_as m (line_of m [])
          (made_reads t.stamp (tz_body k t) (and_right (g && l && p) d h) (tz_body_lem k t i (and_left g l v) (and_right g l v) (and_right (g && l) p u))
          (tz_short k t i (and_left g l v) (and_right g l v) (and_right (g && l) p u)) refl),
    )

-- ---- THE LAWS

some_key : is_word KEY (packed (bytes "AA")) ≡ true
unfolding is_form is_key is_of run all is_alnum is_digit is_letter
some_key = form_word KEY (bytes "AA") refl

abbrev some_arrival : Arrival
some_arrival = record {
  departure = record { 0 = packed (bytes "AA") };
  destination = record { 0 = packed (bytes "AA") };
  clock = record { 0 = packed (bytes "0000") };
  stamp = record { 0 = packed (bytes "01000000") };
}

some_allowed : is_arrival (Some some_arrival) ≡ true
unfolding is_arrival is_form is_arrival_text is_clock is_stamp is_of fits run within is_numeral is_digit_to digit_of number_of value code_of all is_alnum is_digit is_letter
some_allowed = rw (form_word POINT (bytes "AA") refl, form_word ARRIVAL (bytes "0000") refl, form_word STAMP (bytes "01000000") refl)

gave : (s : List ℕ) (e : Event) → line_event s ≡ e → is_event e ≡ true
gave s e q = subst (λ (e : Event). is_event e ≡ true) q (line_is s)

pub arrival_exactly : (a : Arrival) → (is_arrival (Some a) ≡ true) ↔ GivesArrival a
arrival_exactly a = (λ e. let (s, q) = az_line (packed (bytes "AA")) a some_key e in ByAz s (packed (bytes "AA")) q, back)
  where
    back : GivesArrival a → is_arrival (Some a) ≡ true
    back (ByDz s k q) = and_right (is_word KEY k) (is_arrival (Some a)) (gave s (dz k a) q)
    back (ByAz s k q) = and_right (is_word KEY k) (is_arrival (Some a)) (gave s (az k a) q)

pub track_exactly : (t : Track) → (is_track (Some t) ≡ true) ↔ GivesTrack t
track_exactly t = (λ e. let (s, q) = tz_line (packed (bytes "AA")) t some_key e in ByTz s (packed (bytes "AA")) q, back)
  where
    back : GivesTrack t → is_track (Some t) ≡ true
    back (ByTz s k q) = and_right (is_word KEY k) (is_track (Some t)) (gave s (tz k t) q)

pub key_exactly : (k : ℕ) → (is_word KEY k ≡ true) ↔ GivesKey k
key_exactly k = (λ e. let (s, q) = az_line k some_arrival e some_allowed in OfAz s some_arrival q, back)
  where
    back : GivesKey k → is_word KEY k ≡ true
    back (OfDz s a q) = and_left (is_word KEY k) (is_arrival (Some a)) (gave s (dz k a) q)
    back (OfAz s a q) = and_left (is_word KEY k) (is_arrival (Some a)) (gave s (az k a) q)
    back (OfTz s t q) = and_left (is_word KEY k) (is_track (Some t)) (gave s (tz k t) q)

-- ---- and so of a row

slot_arrived : (x : Option Arrival) → ((a : Arrival) → x ≡ Some a → GivesArrival a) → is_arrival x ≡ true
unfolding is_arrival
slot_arrived None f = refl
slot_arrived (Some a) f = (arrival_exactly a).1 (f a refl)

slot_tracked : (x : Option Track) → ((t : Track) → x ≡ Some t → GivesTrack t) → is_track x ≡ true
unfolding is_track
slot_tracked None f = refl
slot_tracked (Some t) f = (track_exactly t).1 (f t refl)

slot_some : (x : Option Arrival) (y : Option Track) → (x ≡ None → y ≡ None → ⊥) → has_entry x y ≡ true
unfolding has_entry
slot_some None None f = absurd (f refl refl)
slot_some None (Some t) f = refl
slot_some (Some a) y f = refl

none_some : has_entry None None ≡ false
unfolding has_entry
none_some = refl

pub row_exactly : (r : Row) → (is_row r ≡ true) ↔ GivesRow r
unfolding is_row
row_exactly r = (there, λ g. rw ((key_exactly r.key.0).1 g.key, slot_arrived r.arrival g.arrived, slot_tracked r.track g.tracked, slot_some r.arrival r.track g.some))
  where
    there : is_row r ≡ true → GivesRow r
    there e =
        let k = is_word KEY r.key.0 in
        let x = is_arrival r.arrival in
        let y = is_track r.track in
        let z = has_entry r.arrival r.track in
        let u = and_left (k && x && y) z e in
        let v = and_left (k && x) y u in
        record {
          key = (key_exactly r.key.0).0 (and_left k x v);
          arrived = λ a q. (arrival_exactly a).0 (ap is_arrival (sym q) ∙ and_right k x v);
          tracked = λ t q. (track_exactly t).0 (ap is_track (sym q) ∙ and_right (k && x) y u);
          some = λ p q. true_false (and_right (k && x && y) z e) (ap₂ has_entry p q ∙ none_some);
        }

-- ---- and of a board: 13 is answered exactly where no lines give it

each_exactly : (rs : List Row) → (all_rows rs ≡ true) ↔ EachGiven rs
unfolding all_rows
each_exactly [] = (λ e. tt, λ g. refl)
each_exactly (r ∷ rs) = (
  λ e. ((row_exactly r).0 (and_left (is_row r) (all_rows rs) e), (each_exactly rs).0 (and_right (is_row r) (all_rows rs) e)),
  λ g. rw ((row_exactly r).1 g.0, (each_exactly rs).1 g.1),
)

pub board_exactly : (l : List ℕ) → (is_allowed l ≡ true) ↔ GivesBoard l
unfolding is_board
board_exactly l = (λ e. there ((allowed_rows l).0 e), λ g. (allowed_rows l).1 (record { rows = g.rows; board = back g; words = g.words }))
  where
    there : Shows l → GivesBoard l
    there s =
        let few = leb (length s.rows) CAP in
        let u = and_left (few && all_rows s.rows) (rises_by_bytes s.rows) s.board in
        record {
          rows = s.rows;
          words = s.words;
          few = omega (arith, leb-true (length s.rows) CAP (and_left few (all_rows s.rows) u), cap_is);
          rising = and_right (few && all_rows s.rows) (rises_by_bytes s.rows) s.board;
          each = (each_exactly s.rows).0 (and_right few (all_rows s.rows) u);
        }

    back : (g : GivesBoard l) → is_board g.rows ≡ true
    back g = rw (le-leb (length g.rows) CAP (omega (arith, g.few, cap_is)), (each_exactly g.rows).1 g.each, g.rising)
