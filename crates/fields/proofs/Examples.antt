-- What the promises of `fields` require on texts written out, so that named wrong answers are none of theirs: of each, `Post` is the
-- function's `ensures` as it stands in the source, r any result that meets it, s any state at exit. Assumes nothing.
use Rattle.std.specs.Prelude.{Err, None, Some}
use mathlib.Core.Path.{◌≡◌, refl, ◌∙◌}
use mathlib.Core.Bool.{true, false}
use Rattle.text.specs.Bytes.{bytes}
use Rattle.text.specs.Class.{all, is_digit, is_letter, is_alnum}
use Rattle.text.specs.Code.{code_of, byte_of}
use Rattle.text.specs.Place.{value, digits, tight}
use Rattle.text.specs.Number.{is_digit_to, digit_of, is_numeral, number_of}
use Rattle.text.specs.Text.{packed, text_of, is_packed, spliced, has_room, written_next, written_bytes}
use Rattle.shapes.specs.Pieces.{pieces}
use Rattle.shapes.specs.Picture.{is_of, fits, fits_any, one_of, run, within}
use Rattle.rules.specs.Form.{is_stamp, is_key, is_clock, is_time, is_arrival, is_position}
use Rattle.rules.specs.Kind.{SEQUENCE, STAMP, KEY, POINT, TIME, GROUND_SPEED, TRACK_LEVEL, POSITION, ARRIVAL, is_form}
use Rattle.rules.specs.declared.Rule.TheVariants.{New, Old}
use Rattle.fields.specs.Word.{word_of, is_word}
use Rattle.fields.proofs.flight.KeyWorded.read.Reads as key-read
use Rattle.fields.proofs.flight.KeyWorded.holds.Reads as key-holds
use Rattle.fields.proofs.frame.body_at.Reads as body_at
use Rattle.fields.proofs.frame.SequenceWorded.read.Reads as sequence-read
use Rattle.fields.proofs.frame.SequenceWorded.holds.Reads as sequence-holds
use Rattle.fields.proofs.frame.SequenceWorded.put.Reads as sequence-put
use Rattle.fields.proofs.frame.StampWorded.read.Reads as stamp-read
use Rattle.fields.proofs.frame.StampWorded.holds.Reads as stamp-holds
use Rattle.fields.proofs.frame.StampWorded.put.Reads as stamp-put
use Rattle.fields.proofs.plan.PointWorded.holds.Reads as point-holds
use Rattle.fields.proofs.plan.TimeWorded.read.Reads as time-read
use Rattle.fields.proofs.track.GroundSpeedWorded.holds.Reads as ground-speed-holds
use Rattle.fields.proofs.track.TrackLevelWorded.holds.Reads as track-level-holds
use Rattle.fields.proofs.track.PositionWorded.holds.Reads as position-holds
use Rattle.fields.proofs.track.ArrivalClockWorded.holds.Reads as arrival-holds
use Rattle.text.specs.declared.NotWritten.TheVariants.{NoText}

-- the body of a line begins after 18 bytes, and that of an old line after nine
pub body_after_17 : (κs : _) (r : _) (s : _) → body_at.Post κs (New, tt) r s → r ≡ 18
body_after_17 κs r s p = p

pub old_body_after_18 : (κs : _) (r : _) (s : _) → body_at.Post κs (Old, tt) r s → r ≡ 9
old_body_after_18 κs r s p = p

-- ---- readers

-- what is read of each text; antt computes it
read :
    (word_of SEQUENCE (bytes "00G1") ≡ None) × (word_of SEQUENCE (bytes "00FF") ≡ Some (packed (bytes "00FF"))) ×
    (word_of STAMP (bytes "00081500") ≡ None) × (word_of STAMP (bytes "31235959") ≡ Some (packed (bytes "31235959"))) ×
    (word_of KEY (bytes "12Z") ≡ None) × (word_of KEY (bytes "N5") ≡ Some (packed (bytes "N5"))) ×
    (word_of TIME (bytes "A0810") ≡ None) × (word_of TIME (bytes "P2359") ≡ Some (packed (bytes "P2359")))
unfolding word_of packed is_form is_stamp is_key is_time is_clock fits is_of run within is_numeral number_of is_digit_to digit_of code_of value all
    is_digit is_letter is_alnum
read = (refl, refl, refl, refl, refl, refl, refl, refl)

-- G is no character of a sequence number
pub sequence_with_a_g : (κs : _) (a : _) (r : _) (s : _) → sequence-read.Post κs a r s → a.0.now ≡ bytes "00G1" → r ≡ None
sequence_with_a_g κs a r s p e = p ∙ rw (e, read.0)

-- letters to F are characters of one, and both zeros are kept
pub sequence_f_refused : (κs : _) (a : _) (r : _) (s : _) → sequence-read.Post κs a r s
    → a.0.now ≡ bytes "00FF" → r ≡ Some (record { 0 = packed (bytes "00FF") })
sequence_f_refused κs a r s p e = p ∙ rw (e, read.1)

-- no month has a day 00
pub stamp_day_00 : (κs : _) (a : _) (r : _) (s : _) → stamp-read.Post κs a r s → a.0.now ≡ bytes "00081500" → r ≡ None
stamp_day_00 κs a r s p e = p ∙ rw (e, read.2)

-- the last second of a 31st is a stamp
pub stamp_day_31_refused : (κs : _) (a : _) (r : _) (s : _) → stamp-read.Post κs a r s
    → a.0.now ≡ bytes "31235959" → r ≡ Some (record { 0 = packed (bytes "31235959") })
stamp_day_31_refused κs a r s p e = p ∙ rw (e, read.3)

-- a computer number is no key
pub key_by_the_number_rule : (κs : _) (a : _) (r : _) (s : _) → key-read.Post κs a r s → a.0.now ≡ bytes "12Z" → r ≡ None
key_by_the_number_rule κs a r s p e = p ∙ rw (e, read.4)

-- a letter and one more are a key
pub key_of_two_refused : (κs : _) (a : _) (r : _) (s : _) → key-read.Post κs a r s
    → a.0.now ≡ bytes "N5" → r ≡ Some (record { 0 = packed (bytes "N5") })
key_of_two_refused κs a r s p e = p ∙ rw (e, read.5)

-- an arrival clock is no time
pub time_as_arrival : (κs : _) (a : _) (r : _) (s : _) → time-read.Post κs a r s → a.0.now ≡ bytes "A0810" → r ≡ None
time_as_arrival κs a r s p e = p ∙ rw (e, read.6)

-- P and the last minute of a day are a time
pub time_2359_refused : (κs : _) (a : _) (r : _) (s : _) → time-read.Post κs a r s
    → a.0.now ≡ bytes "P2359" → r ≡ Some (record { 0 = packed (bytes "P2359") })
time_2359_refused κs a r s p e = p ∙ rw (e, read.7)

-- ---- tests: the word of a text passes exactly where the text has the form

tested :
    (is_word SEQUENCE (packed (bytes "06081500")) ≡ false) × (is_word SEQUENCE (packed (bytes "ABCF")) ≡ true) ×
    (is_word STAMP (packed (bytes "06081560")) ≡ false) × (is_word STAMP (packed (bytes "01000000")) ≡ true) ×
    (is_word KEY (packed (bytes "N5/101")) ≡ false) × (is_word KEY (packed (bytes "ABCDEFGH")) ≡ false) ×
    (is_word POINT (packed (bytes "AB/C")) ≡ false) × (is_word POINT (packed (bytes "ABCDEFGHIJKL")) ≡ true) ×
    (is_word ARRIVAL (packed (bytes "2400")) ≡ false) × (is_word ARRIVAL (packed (bytes "D0810")) ≡ false) ×
    (is_word GROUND_SPEED (packed (bytes "0450")) ≡ false) × (is_word GROUND_SPEED (packed (bytes "M082")) ≡ false) ×
    (is_word TRACK_LEVEL (packed (bytes "05")) ≡ false) × (is_word TRACK_LEVEL (packed (bytes "250C")) ≡ true) ×
    (is_word POSITION (packed (bytes "9001N/00000E")) ≡ false) × (is_word POSITION (packed (bytes "9000N/18000W")) ≡ true)
unfolding is_word is_packed tight packed text_of digits byte_of is_form is_stamp is_key is_time is_clock is_arrival is_position pieces fits fits_any
    one_of is_of run within is_numeral number_of is_digit_to digit_of code_of value all is_digit is_letter is_alnum
tested = (refl, refl, refl, refl, refl, refl, refl, refl, refl, refl, refl, refl, refl, refl, refl, refl)

-- a stamp's word is no sequence number's
pub stamp_as_sequence : (κs : _) (a : _) (r : _) (s : _) → sequence-holds.Post κs a r s → a.0.0 ≡ packed (bytes "06081500") → r ≡ false
stamp_as_sequence κs a r s p e = p ∙ rw (e, tested.0)

-- four letters to F are a sequence number
pub sequence_of_letters_refused : (κs : _) (a : _) (r : _) (s : _) → sequence-holds.Post κs a r s → a.0.0 ≡ packed (bytes "ABCF") → r ≡ true
sequence_of_letters_refused κs a r s p e = p ∙ rw (e, tested.1)

-- a minute has no second 60
pub stamp_second_60 : (κs : _) (a : _) (r : _) (s : _) → stamp-holds.Post κs a r s → a.0.0 ≡ packed (bytes "06081560") → r ≡ false
stamp_second_60 κs a r s p e = p ∙ rw (e, tested.2)

-- midnight is a stamp
pub stamp_midnight_refused : (κs : _) (a : _) (r : _) (s : _) → stamp-holds.Post κs a r s → a.0.0 ≡ packed (bytes "01000000") → r ≡ true
stamp_midnight_refused κs a r s p e = p ∙ rw (e, tested.3)

-- a key has no slash and no computer number
pub key_with_its_number : (κs : _) (a : _) (r : _) (s : _) → key-holds.Post κs a r s → a.0.0 ≡ packed (bytes "N5/101") → r ≡ false
key_with_its_number κs a r s p e = p ∙ rw (e, tested.4)

-- and at most seven characters
pub key_of_eight : (κs : _) (a : _) (r : _) (s : _) → key-holds.Post κs a r s → a.0.0 ≡ packed (bytes "ABCDEFGH") → r ≡ false
key_of_eight κs a r s p e = p ∙ rw (e, tested.5)

-- a fix with a slash is no point
pub fix_as_point : (κs : _) (a : _) (r : _) (s : _) → point-holds.Post κs a r s → a.0.0 ≡ packed (bytes "AB/C") → r ≡ false
fix_as_point κs a r s p e = p ∙ rw (e, tested.6)

-- twelve characters are a point
pub point_of_twelve_refused : (κs : _) (a : _) (r : _) (s : _) → point-holds.Post κs a r s → a.0.0 ≡ packed (bytes "ABCDEFGHIJKL") → r ≡ true
point_of_twelve_refused κs a r s p e = p ∙ rw (e, tested.7)

-- a day ends at 2359
pub arrival_2400 : (κs : _) (a : _) (r : _) (s : _) → arrival-holds.Post κs a r s → a.0.0 ≡ packed (bytes "2400") → r ≡ false
arrival_2400 κs a r s p e = p ∙ rw (e, tested.8)

-- a time with D is no arrival clock
pub time_with_d_as_arrival : (κs : _) (a : _) (r : _) (s : _) → arrival-holds.Post κs a r s → a.0.0 ≡ packed (bytes "D0810") → r ≡ false
time_with_d_as_arrival κs a r s p e = p ∙ rw (e, tested.9)

-- a filed speed is never handed on as a ground speed: not four digits
pub filed_speed_as_ground_speed : (κs : _) (a : _) (r : _) (s : _) → ground-speed-holds.Post κs a r s → a.0.0 ≡ packed (bytes "0450") → r ≡ false
filed_speed_as_ground_speed κs a r s p e = p ∙ rw (e, tested.10)

-- nor is a Mach number
pub mach_as_ground_speed : (κs : _) (a : _) (r : _) (s : _) → ground-speed-holds.Post κs a r s → a.0.0 ≡ packed (bytes "M082") → r ≡ false
mach_as_ground_speed κs a r s p e = p ∙ rw (e, tested.11)

-- a level of two digits is no track level
pub level_as_track_level : (κs : _) (a : _) (r : _) (s : _) → track-level-holds.Post κs a r s → a.0.0 ≡ packed (bytes "05") → r ≡ false
level_as_track_level κs a r s p e = p ∙ rw (e, tested.12)

-- a track level may have its letter
pub track_level_letter_refused : (κs : _) (a : _) (r : _) (s : _) → track-level-holds.Post κs a r s → a.0.0 ≡ packed (bytes "250C") → r ≡ true
track_level_letter_refused κs a r s p e = p ∙ rw (e, tested.13)

-- a latitude is at most 9000
pub position_9001 : (κs : _) (a : _) (r : _) (s : _) → position-holds.Post κs a r s → a.0.0 ≡ packed (bytes "9001N/00000E") → r ≡ false
position_9001 κs a r s p e = p ∙ rw (e, tested.14)

-- 9000N/18000W is a position
pub position_18000_refused : (κs : _) (a : _) (r : _) (s : _) → position-holds.Post κs a r s → a.0.0 ≡ packed (bytes "9000N/18000W") → r ≡ true
position_18000_refused κs a r s p e = p ∙ rw (e, tested.15)

-- ---- writers

shown :
    (is_word SEQUENCE (packed (bytes "N5")) ≡ false) × (is_word SEQUENCE (packed (bytes "0A1F")) ≡ true) ×
    (text_of (packed (bytes "0A1F")) ≡ bytes "0A1F") × (is_word STAMP (packed (bytes "06240000")) ≡ false) ×
    (is_word STAMP (packed (bytes "06081700")) ≡ true) × (text_of (packed (bytes "06081700")) ≡ bytes "06081700")
unfolding is_word is_packed tight packed text_of digits byte_of is_form is_stamp fits is_of within is_numeral number_of is_digit_to digit_of code_of
    value all is_digit is_letter
shown = (refl, refl, refl, refl, refl, refl)

-- what is no sequence number is not written
pub sequence_any_word : (κs : _) (a : _) (r : _) (s : _) → sequence-put.Post κs a r s → a.0.0 ≡ packed (bytes "N5") → r ≡ Err NoText
unfolding written_next
sequence_any_word κs a r s p e = p.0 ∙ rw (e, shown.0)

-- its four characters from the given place on, and every other byte stays
pub sequence_from_0 : (κs : _) (a : _) (r : _) (s : _) → sequence-put.Post κs a r s → a.0.0 ≡ packed (bytes "0A1F")
    → a.1.0.now ≡ bytes "......" → a.1.1.0 ≡ 1 → s.1.0.now ≡ bytes ".0A1F."
unfolding written_bytes has_room spliced
sequence_from_0 κs a r s p e o i = p.1 ∙ rw (e, o, i, shown.1, shown.2)

-- what is no stamp is not written
pub stamp_any_word : (κs : _) (a : _) (r : _) (s : _) → stamp-put.Post κs a r s → a.0.0 ≡ packed (bytes "06240000") → r ≡ Err NoText
unfolding written_next
stamp_any_word κs a r s p e = p.0 ∙ rw (e, shown.3)

-- zeros in front are written, and every other byte stays
pub stamp_without_zeros : (κs : _) (a : _) (r : _) (s : _) → stamp-put.Post κs a r s → a.0.0 ≡ packed (bytes "06081700")
    → a.1.0.now ≡ bytes ".........." → a.1.1.0 ≡ 2 → s.1.0.now ≡ bytes "..06081700"
unfolding written_bytes has_room spliced
stamp_without_zeros κs a r s p e o i = p.1 ∙ rw (e, o, i, shown.4, shown.5)
