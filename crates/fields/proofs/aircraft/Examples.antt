-- What the promises of `aircraft` require on inputs written out, so that named wrong answers are none of theirs: of each, `Post` is the
-- function's `ensures` as it stands in the source, r any result that meets it, s any state at exit. Assumes nothing.
use Rattle.std.specs.Prelude.{None, Some}
use mathlib.Core.Path.{◌≡◌, refl, ◌∙◌}
use mathlib.Core.Bool.{true, false}
use Rattle.text.specs.Bytes.{bytes}
use Rattle.text.specs.Class.{all, is_digit, is_letter, is_alnum}
use Rattle.text.specs.Code.{code_of, byte_of}
use Rattle.text.specs.Place.{value, digits, tight}
use Rattle.text.specs.Text.{packed, text_of, is_packed, slashed, spliced, has_room, written_bytes}
use Rattle.shapes.specs.Cut.{up_to, has, before, after}
use Rattle.shapes.specs.Pieces.{pieces}
use Rattle.shapes.specs.Picture.{is_of, fits, fits_any, one_of, run}
use Rattle.rules.specs.Kind.{is_form}
use Rattle.fields.specs.Word.{is_word}
use Rattle.fields.specs.Pair.{is_pair_form, pair_of, pair_text, is_pair}
use Rattle.fields.specs.Aircraft.{plain_of, prefixed_of, aircraft_of, aircraft_text, is_aircraft_value}
use Rattle.fields.specs.declared.aircraft.Aircraft.{Aircraft}
use Rattle.fields.proofs.aircraft.Aircraft.read.Reads as aircraft-read
use Rattle.fields.proofs.aircraft.Aircraft.holds.Reads as aircraft-holds
use Rattle.fields.proofs.aircraft.Aircraft.put.Reads as aircraft-put

-- C172/A: a type and a letter; T/B73S/F: a prefix before them; and two letters as a prefix, which no aircraft has
abbrev plain : Aircraft
plain = record { prefix = 0; model = packed (bytes "C172"); letter = packed (bytes "A") }

abbrev prefixed : Aircraft
prefixed = record { prefix = packed (bytes "T"); model = packed (bytes "B73S"); letter = packed (bytes "F") }

abbrev misprefixed : Aircraft
misprefixed = record { prefix = packed (bytes "AB"); model = packed (bytes "CD"); letter = 0 }

-- what is read, tested and shown of them; antt computes it
told :
    (aircraft_of (bytes "C172/A") ≡ Some plain) × (aircraft_of (bytes "T/B73S/F") ≡ Some prefixed) × (aircraft_of (bytes "AB/CD") ≡ None) ×
    (is_aircraft_value plain ≡ true) × (is_aircraft_value prefixed ≡ true) × (is_aircraft_value misprefixed ≡ false) ×
    (aircraft_text plain ≡ bytes "C172/A") × (aircraft_text prefixed ≡ bytes "T/B73S/F")
unfolding aircraft_of plain_of prefixed_of pair_of is_pair_form up_to has before after aircraft_text pair_text slashed is_aircraft_value is_pair is_word is_packed
    tight text_of digits byte_of is_form run pieces one_of fits_any fits is_of all is_alnum is_digit is_letter packed code_of value
told = (refl, refl, refl, refl, refl, refl, refl, refl)

-- C172 of C172/A is the type, and there is no prefix
pub type_as_prefix : (κs : _) (a : _) (r : _) (s : _) → aircraft-read.Post κs a r s → a.0.now ≡ bytes "C172/A" → r ≡ Some plain
type_as_prefix κs a r s p e = p.0 ∙ rw (e, told.0)

-- T/B73S/F has all three
pub all_three_refused : (κs : _) (a : _) (r : _) (s : _) → aircraft-read.Post κs a r s → a.0.now ≡ bytes "T/B73S/F" → r ≡ Some prefixed
all_three_refused κs a r s p e = p.0 ∙ rw (e, told.1)

-- a prefix of two begins with a digit, and CD is no letter
pub two_letters_as_prefix : (κs : _) (a : _) (r : _) (s : _) → aircraft-read.Post κs a r s → a.0.now ≡ bytes "AB/CD" → r ≡ None
two_letters_as_prefix κs a r s p e = p.0 ∙ rw (e, told.2)

-- a type is no prefix
pub any_prefix_holds : (κs : _) (a : _) (r : _) (s : _) → aircraft-holds.Post κs a r s → a.0 ≡ misprefixed → r ≡ false
any_prefix_holds κs a r s p e = p ∙ rw (e, told.5)

-- a prefix may be missing
pub no_model_no_prefix : (κs : _) (a : _) (r : _) (s : _) → aircraft-holds.Post κs a r s → a.0 ≡ plain → r ≡ true
no_model_no_prefix κs a r s p e = p ∙ rw (e, told.3)

-- the prefix is written
pub prefix_forgotten : (κs : _) (a : _) (r : _) (s : _) → aircraft-put.Post κs a r s → a.0 ≡ prefixed
    → a.1.0.now ≡ bytes "........." → a.1.1.0 ≡ 0 → s.1.0.now ≡ bytes "T/B73S/F."
unfolding written_bytes has_room spliced
prefix_forgotten κs a r s p e o i = p.1 ∙ rw (e, o, i, told.4, told.7)

-- from the given place on, and every other byte stays
pub aircraft_from_0 : (κs : _) (a : _) (r : _) (s : _) → aircraft-put.Post κs a r s → a.0 ≡ plain
    → a.1.0.now ≡ bytes "........." → a.1.1.0 ≡ 2 → s.1.0.now ≡ bytes "..C172/A."
unfolding written_bytes has_room spliced
aircraft_from_0 κs a r s p e o i = p.1 ∙ rw (e, o, i, told.3, told.6)
