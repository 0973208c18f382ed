-- What the promises of `writer` require on inputs written out, and so wrong answers that they do not allow: of each, `Post` is the function's
-- `ensures` as it stands in the source, r any result that meets it, s the state at exit. Assumes nothing.
use Rattle.std.specs.Prelude.{Err, Ok}
use Prim.Native.Nat.{ℕ}
use Prim.Native.String.{String}
use mathlib.Core.Bool.{true, false}
use mathlib.Core.List.{List, [], ◌∷◌}
use mathlib.Core.Path.{◌≡◌, refl, ap, ◌∙◌}
use lib.Count.{ones}
use lib.ListN.{replicate}
use Rattle.text.specs.Bytes.{bytes}
use Rattle.text.specs.Class.{all, is_digit, is_letter, is_alnum}
use Rattle.text.specs.Code.{code_of, byte_of}
use Rattle.text.specs.Number.{is_digit_to, digit_of, is_numeral, number_of}
use Rattle.text.specs.Place.{value, places, digits, tight, all_in}
use Rattle.text.specs.Text.{packed, text_of, is_packed, spliced, has_room, written_next, written_bytes}
use Rattle.shapes.specs.Cut.{up_to, has, before, after, joins}
use Rattle.shapes.specs.Picture.{is_of, fits, fits_any, one_of, run, within}
use Rattle.shapes.specs.Pieces.{pieces}
use Rattle.rules.specs.Form.{is_stamp, is_old_stamp, is_key, is_ident, is_clock, is_time, is_block, is_level}
use Rattle.rules.specs.Kind.{is_form}
use Rattle.fields.specs.Aircraft.{is_aircraft_value, aircraft_text}
use Rattle.fields.specs.Answer.{write_answer}
use Rattle.fields.specs.Facility.{facility_text, is_facility_value}
use Rattle.fields.specs.Word.{is_word}
use Rattle.fields.specs.Pair.{is_pair, pair_text}
use Rattle.fields.specs.declared.idents.Ident.{Ident}
use Rattle.table.specs.Field.{mark_of, mark_text, is_mark, content_of, plain, trace_of, marks_of, follows, is_one, is_two, is_kind_value, shown_kind, is_value, shown}
use Rattle.table.specs.Spacing.{body_of}
use Rattle.table.specs.Show.{texts_from, allowed_from, marks_from}
use Rattle.table.specs.Table.{count_with, is_count, table_by, kinds_of}
use Rattle.messages.specs.Body.{slots, field_count, values_in, spare}
use Rattle.messages.specs.Allowed.{is_whole, has_route, kinds_in, body_text, is_fielded, is_body}
use Rattle.messages.specs.declared.Amendment.{Amendment}
use Rattle.messages.specs.declared.Body.{Body}
use Rattle.messages.specs.declared.Body.TheVariants as body
use Rattle.messages.specs.declared.Message.{Message}
use Rattle.messages.specs.declared.OldMessage.{OldMessage}
use Rattle.line.specs.Line.{line_by, is_head_by, has_size_by, is_allowed_by, line_of, is_allowed, old_line_of, is_old_allowed}
use Rattle.writer.specs.Cases.{place_after}
use Rattle.writer.proofs.write.Reads as write
use Rattle.writer.proofs.write_old.Reads as write-old
use Rattle.text.specs.declared.NotWritten.TheVariants.{NoRoom, NoText}

-- document 01's starred heartbeat
abbrev heartbeat : Message
heartbeat =
    record {
      sequence = record { 0 = packed (bytes "0000") };
      stamp = record { 0 = packed (bytes "06143655") };
      facility = record { 0 = value 256 4 (bytes "KZMA") };
      body = body.Hb;
      trailing = false;
    }

-- its line stands at the place, and the bytes before and after it stay
pub a_byte_after_the_text : (κs : _) (a : _) (r : _) (s : _) → write.Post κs a r s
    → a.0 ≡ heartbeat → a.1.0.now ≡ bytes " UP" → a.1.1.0.now ≡ replicate 23 46 → a.1.1.1.0 ≡ 1
    → s.1.1.0.now ≡ bytes ".000006143655KZMAHB UP."
unfolding written_bytes has_room spliced is_allowed_by is_head_by has_size_by line_by is_body body_text facility_text is_facility_value is_whole is_word is_form is_stamp is_of
    fits fits_any one_of pieces run within is_packed tight text_of packed value digits places code_of byte_of all is_digit is_letter is_alnum is_numeral is_digit_to
    number_of digit_of all_in
a_byte_after_the_text κs a r s p e f g h = p.1.0 ∙ rw (e, f, g, h)

-- no line has a line feed in it: 16, and nothing is written, whatever the buffer and the place
pub writes_before_it_refuses : (κs : _) (a : _) (r : _) (s : _) → write.Post κs a r s → a.0 ≡ heartbeat → a.1.0.now ≡ 10 ∷ []
    → (r ≡ Err NoText) × (s.1.1.0.now ≡ a.1.1.0.now)
unfolding written_next written_bytes is_allowed_by is_head_by is_body facility_text is_facility_value is_whole is_word is_form is_stamp is_of fits fits_any one_of pieces run
    within is_packed tight text_of packed value digits places code_of byte_of all is_digit is_letter is_alnum is_numeral is_digit_to number_of digit_of all_in
writes_before_it_refuses κs a r s p e f = (p.0 ∙ rw (e, f), p.1.0 ∙ rw (e, f))

-- "16, then 15": where no line has the values, that the buffer has no room is not told
pub room_before_values : (κs : _) (a : _) (r : _) (s : _) → write.Post κs a r s → a.0 ≡ heartbeat → a.1.0.now ≡ 10 ∷ [] → a.1.1.0.now ≡ [] → write_answer r ≡ 16
room_before_values κs a r s p e f g = ap write_answer (writes_before_it_refuses κs a r s p e f).0

-- what the writer tells of the heartbeat, at a place and into a buffer; antt computes it
told : (written_next (is_allowed heartbeat []) (line_of heartbeat []) (replicate 18 46) 1 ≡ Err NoRoom) × (written_bytes (is_allowed heartbeat []) (line_of heartbeat []) (replicate 18 46) 1 ≡ replicate 18 46)
    × (written_next (is_allowed heartbeat []) (line_of heartbeat []) (replicate 19 46) 1 ≡ Ok 19)
unfolding written_next written_bytes has_room is_allowed_by is_head_by has_size_by line_by is_body body_text facility_text is_facility_value is_whole is_word is_form is_stamp is_of
    fits fits_any one_of pieces run within is_packed tight text_of packed value digits places code_of byte_of all is_digit is_letter is_alnum is_numeral is_digit_to
    number_of digit_of all_in
told = (refl, refl, refl)

-- 18 bytes from place 1 do not fit a buffer of 18: 15, and not a byte of them is written
pub room_from_0 : (κs : _) (a : _) (r : _) (s : _) → write.Post κs a r s → a.0 ≡ heartbeat → a.1.0.now ≡ [] → a.1.1.0.now ≡ replicate 18 46 → a.1.1.1.0 ≡ 1
    → (write_answer r ≡ 15) × (s.1.1.0.now ≡ replicate 18 46)
room_from_0 κs a r s p e f g h = let z : r ≡ Err NoRoom = p.0 ∙ rw (e, f, g, h) told.0 in (ap write_answer z, p.1.0 ∙ rw (e, f, g, h) told.1)

-- one of 19 they fit to its end: 0, and the place after them is 19
pub next_is_the_length : (κs : _) (a : _) (r : _) (s : _) → write.Post κs a r s → a.0 ≡ heartbeat → a.1.0.now ≡ [] → a.1.1.0.now ≡ replicate 19 46 → a.1.1.1.0 ≡ 1
    → (write_answer r ≡ 0) × (place_after r ≡ 19)
next_is_the_length κs a r s p e f g h = let z : r ≡ Ok 19 = p.0 ∙ rw (e, f, g, h) told.2 in (ap write_answer z, ap place_after z)

-- an AF that amends 08 with the level l, with the set of marks m
abbrev held : ℕ → ℕ → Amendment
held m t = record { mark = m; content = record { a = t; b = 0; c = 0 } }

abbrev amending : ℕ → String → Message
amending m l =
    record {
      sequence = record { 0 = packed (bytes "0000") };
      stamp = record { 0 = packed (bytes "06143655") };
      facility = record { 0 = value 256 4 (bytes "KZMA") };
      body = body.Af (record {
        ident = record { key = record { 0 = packed (bytes "N5") }; number = record { 0 = 0 } };
        from = record { 0 = packed (bytes "BOS") };
        to = record { 0 = packed (bytes "ALB") };
        marks = m;
        first = held 32 (packed (bytes l));
        second = held 0 0;
        third = held 0 0;
        fourth = held 0 0;
        fifth = held 0 0;
        sixth = held 0 0;
        seventh = held 0 0;
        eighth = held 0 0;
      });
      trailing = false;
    }

-- 08's mark is the set's, 09's is not; a block may have equal numbers, and may not fall; antt computes it
allowed : (is_allowed (amending 32 "290") [] ≡ true) × (is_allowed (amending 64 "290") [] ≡ false)
    × (is_allowed (amending 32 "05B005") [] ≡ true) × (is_allowed (amending 32 "350B310") [] ≡ false)
unfolding is_allowed_by is_head_by has_size_by line_by body_text has_route body_of is_body is_word is_form is_stamp is_of fits fits_any one_of pieces run within is_packed tight text_of packed value digits
    places code_of byte_of all is_digit is_letter is_alnum is_numeral is_digit_to number_of digit_of all_in facility_text is_facility_value is_whole
    is_fielded kinds_in kinds_of table_by field_count count_with is_count values_in spare allowed_from marks_from texts_from is_value shown trace_of marks_of
    follows plain content_of mark_of is_key is_ident is_pair pair_text slots is_kind_value shown_kind is_one is_two is_mark mark_text ones
    is_level is_block joins has up_to before after
allowed = (refl, refl, refl, refl)

-- the set of marks is that of the amendments: 09's in place of 08's is no line's
pub marks_not_compared : (κs : _) (a : _) (r : _) (s : _) → write.Post κs a r s → a.0 ≡ amending 64 "290" → a.1.0.now ≡ [] → r ≡ Err NoText
unfolding written_next
marks_not_compared κs a r s p e f = p.0 ∙ rw (e, f, allowed.1)

-- what the reader refuses is not written: 16, and the buffer stays
pub falling_block_written : (κs : _) (a : _) (r : _) (s : _) → write.Post κs a r s → a.0 ≡ amending 32 "350B310" → a.1.0.now ≡ []
    → (write_answer r ≡ 16) × (s.1.1.0.now ≡ a.1.1.0.now)
unfolding written_next written_bytes
falling_block_written κs a r s p e f = let z : r ≡ Err NoText = p.0 ∙ rw (e, f, allowed.3) in (ap write_answer z, p.1.0 ∙ rw (e, f, allowed.3))

-- ---- the old feed (document 02, l)

abbrev older : Body → OldMessage
older b = record { stamp = record { 0 = packed (bytes "143655") }; center = record { 0 = packed (bytes "Z") }; body = b; trailing = false }

abbrev flight : Ident
flight = record { key = record { 0 = packed (bytes "QQX12") }; number = record { 0 = 0 } }

abbrev arriving : OldMessage
arriving = older (body.Az (record { ident = flight; from = record { 0 = packed (bytes "ABC") }; to = record { 0 = packed (bytes "DEF") }; clock = record { 0 = packed (bytes "0930") } }))

-- a DZ of an aircraft with this last letter, or none
abbrev departing : String → OldMessage
departing l =
    older (body.Dz (record {
      ident = flight;
      aircraft = record { prefix = 0; model = packed (bytes "C172"); letter = packed (bytes l) };
      from = record { 0 = packed (bytes "ABC") };
      time = record { 0 = packed (bytes "D0810") };
      to = record { 0 = packed (bytes "DEF") };
      clock = record { 0 = packed (bytes "0930") };
    }))

-- a line has the one without a letter, and no HB, whatever its free text; the AZ goes in from place 1; antt computes it
old_told : (is_old_allowed (departing "A") [] ≡ false) × (is_old_allowed (departing "") [] ≡ true) × ((f : List ℕ) → is_old_allowed (older body.Hb) f ≡ false)
    × (written_bytes (is_old_allowed arriving []) (old_line_of arriving []) (replicate 30 46) 1 ≡ bytes ".143655ZAZ QQX12 ABC DEF 0930.")
unfolding written_bytes has_room spliced is_allowed_by is_head_by has_size_by line_by body_text has_route body_of is_body is_word is_form is_old_stamp is_clock is_time is_of fits
    run within is_packed tight text_of packed value digits code_of byte_of all is_digit is_letter is_alnum is_numeral is_digit_to number_of digit_of is_whole is_fielded
    kinds_in kinds_of table_by field_count count_with is_count values_in spare allowed_from marks_from texts_from is_value shown marks_of follows plain is_key is_ident is_pair
    pair_text slots is_kind_value shown_kind is_one is_two is_aircraft_value aircraft_text
old_told = (refl, refl, λ f. refl, refl)

-- "An aircraft field with a last letter .. has no reading there": 16, and nothing is written
pub old_letter_written : (κs : _) (a : _) (r : _) (s : _) → write-old.Post κs a r s → a.0 ≡ departing "A" → a.1.0.now ≡ [] → (r ≡ Err NoText) × (s.1.1.0.now ≡ a.1.1.0.now)
unfolding written_next written_bytes
old_letter_written κs a r s p e f = (p.0 ∙ rw (e, f, old_told.0), p.1.0 ∙ rw (e, f, old_told.0))

-- "our seven, no RT, TO or HB": so too an HB, whatever its free text
pub old_heartbeat_written : (κs : _) (a : _) (r : _) (s : _) → write-old.Post κs a r s → a.0 ≡ older body.Hb → (r ≡ Err NoText) × (s.1.1.0.now ≡ a.1.1.0.now)
unfolding written_next written_bytes
old_heartbeat_written κs a r s p e = (p.0 ∙ rw (e, old_told.2), p.1.0 ∙ rw (e, old_told.2))

-- "six digits HHMMSS, one capital for the center", and no more stands before the type; the bytes before and after the line stay
pub old_az_with_a_new_head : (κs : _) (a : _) (r : _) (s : _) → write-old.Post κs a r s
    → a.0 ≡ arriving → a.1.0.now ≡ [] → a.1.1.0.now ≡ replicate 30 46 → a.1.1.1.0 ≡ 1
    → s.1.1.0.now ≡ bytes ".143655ZAZ QQX12 ABC DEF 0930."
old_az_with_a_new_head κs a r s p e f g h = p.1.0 ∙ rw (e, f, g, h) old_told.3
