-- What the promises of `heads` require on inputs written out, so that named wrong answers are none of theirs: of each, `Post` is the
-- function's `ensures` as it stands in the source, r any result that meets it, s any state at exit. Assumes nothing.
use Rattle.std.specs.Prelude.{None, Ok, Some}
use mathlib.Core.Path.{◌≡◌, ap, ◌∙◌}
use mathlib.Core.Bool.{true, false}
use Prim.Native.Nat.{◌+◌, ◌*◌, ◌^◌}
use Rattle.text.specs.Bytes.{bytes}
use Rattle.text.specs.Class.{is_digit, is_letter, is_alnum}
use Rattle.text.specs.Place.{value, places}
use Rattle.text.specs.Text.{spliced, has_room, written_next, written_bytes}
use Rattle.shapes.specs.Pieces.{pieces}
use Rattle.shapes.specs.Picture.{is_of, fits, fits_any, one_of}
use Rattle.fields.specs.Facility.{facility_of, facility_text, is_facility_value}
use Rattle.fields.specs.MessageType.{type_of}
use Rattle.fields.specs.declared.heads.MessageType.TheVariants.{Az, Tz}
use Rattle.fields.proofs.heads.Facility.read.Reads as facility-read
use Rattle.fields.proofs.heads.Facility.holds.Reads as facility-holds
use Rattle.fields.proofs.heads.Facility.put.Reads as facility-put
use Rattle.fields.proofs.heads.MessageType.read.Reads as type_read
use Rattle.fields.proofs.heads.MessageType.put.Reads as type_put

-- ---- the facility

-- a space inside is no facility
pub space_inside : (κs : _) (a : _) (r : _) (s : _) → facility-read.Post κs a r s → a.0.now ≡ bytes "K ZA" → r ≡ None
unfolding facility_of one_of fits_any pieces fits is_of is_alnum is_digit is_letter
space_inside κs a r s p e = p ∙ ap facility_of e

-- K (75) weighs most, then Z (90), M (77) and A (65)
pub bytes_swapped : (κs : _) (a : _) (r : _) (s : _) → facility-read.Post κs a r s → a.0.now ≡ bytes "KZMA"
    → r ≡ Some (record { 0 = 75 * 256 ^ 3 + 90 * 256 ^ 2 + 77 * 256 + 65 })
unfolding facility_of one_of fits_any pieces fits is_of is_alnum is_digit is_letter value
bytes_swapped κs a r s p e = p ∙ ap facility_of e

-- each byte is tested, the third too: an exclamation mark is no part of a facility
pub third_byte_lost : (κs : _) (a : _) (r : _) (s : _) → facility-holds.Post κs a r s → a.0.0 ≡ value 256 4 (bytes "KZ!A") → r ≡ false
unfolding is_facility_value facility_text places value one_of fits_any pieces fits is_of is_alnum is_digit is_letter
third_byte_lost κs a r s p e = p ∙ ap is_facility_value e

-- one letter is enough
pub facility_of_one_refused : (κs : _) (a : _) (r : _) (s : _) → facility-holds.Post κs a r s → a.0.0 ≡ value 256 4 (bytes "   A") → r ≡ true
unfolding is_facility_value facility_text places value one_of fits_any pieces fits is_of is_alnum is_digit is_letter
facility_of_one_refused κs a r s p e = p ∙ ap is_facility_value e

-- four bytes are written, spaces in front too, and every other byte stays
pub facility_of_three : (κs : _) (a : _) (r : _) (s : _) → facility-put.Post κs a r s → a.0.0 ≡ value 256 4 (bytes " ZMA")
    → a.1.0.now ≡ bytes "......" → a.1.1.0 ≡ 1 → s.1.0.now ≡ bytes ". ZMA."
unfolding written_bytes has_room spliced is_facility_value facility_text places value one_of fits_any pieces fits is_of is_alnum is_digit is_letter
facility_of_three κs a r s p e o i = p.1 ∙ rw (e, o, i)

-- and the place after them is told
pub next_after_three : (κs : _) (a : _) (r : _) (s : _) → facility-put.Post κs a r s → a.0.0 ≡ value 256 4 (bytes " ZMA")
    → a.1.0.now ≡ bytes "......" → a.1.1.0 ≡ 1 → r ≡ Ok 5
unfolding written_next has_room is_facility_value facility_text places value one_of fits_any pieces fits is_of is_alnum is_digit is_letter
next_after_three κs a r s p e o i = p.0 ∙ rw (e, o, i)

-- ---- the message type

-- TY is none
pub ty_is_tz : (κs : _) (a : _) (r : _) (s : _) → type_read.Post κs a r s → a.0.now ≡ bytes "TY" → r ≡ None
unfolding type_of fits is_of
ty_is_tz κs a r s p e = p ∙ ap type_of e

-- nor is ZA
pub letters_backwards : (κs : _) (a : _) (r : _) (s : _) → type_read.Post κs a r s → a.0.now ≡ bytes "ZA" → r ≡ None
unfolding type_of fits is_of
letters_backwards κs a r s p e = p ∙ ap type_of e

-- AZ is the type AZ
pub az_is_dz : (κs : _) (a : _) (r : _) (s : _) → type_read.Post κs a r s → a.0.now ≡ bytes "AZ" → r ≡ Some Az
unfolding type_of fits is_of
az_is_dz κs a r s p e = p ∙ ap type_of e

-- a TZ is written TZ
pub tz_is_written_ty : (κs : _) (a : _) (r : _) (s : _) → type_put.Post κs a r s
    → a.0 ≡ Tz → a.1.0.now ≡ bytes ".." → a.1.1.0 ≡ 0 → s.1.0.now ≡ bytes "TZ"
unfolding written_bytes has_room spliced
tz_is_written_ty κs a r s p e o i = p.1 ∙ rw (e, o, i)

-- its first letter once, from the given place on, and every other byte stays
pub first_letter_twice : (κs : _) (a : _) (r : _) (s : _) → type_put.Post κs a r s
    → a.0 ≡ Az → a.1.0.now ≡ bytes "....." → a.1.1.0 ≡ 2 → s.1.0.now ≡ bytes "..AZ."
unfolding written_bytes has_room spliced
first_letter_twice κs a r s p e o i = p.1 ∙ rw (e, o, i)
