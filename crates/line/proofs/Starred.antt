-- The one claim about the starred readings: each is as document 01 says. antt computes it. Assumes nothing.
use mathlib.Core.Path.{◌≡◌, refl}
use mathlib.Core.List.{map}
use Rattle.text.specs.Class.{all, is_digit, is_letter, is_alnum}
use Rattle.text.specs.Code.{code_of, byte_of}
use Rattle.text.specs.Place.{value, places, digits, tight, all_in}
use Rattle.text.specs.Text.{packed, text_of, is_packed}
use Rattle.text.specs.Number.{is_digit_to, digit_of, is_numeral, number_of, read_number}
use Rattle.shapes.specs.Pieces.{pieces}
use Rattle.shapes.specs.Picture.{is_of, fits, fits_any, one_of, run, within}
use Rattle.shapes.specs.Cut.{up_to, has, before, after, joins}
use Rattle.rules.specs.Form.{is_stamp, is_key, is_ident, is_tz_ident, is_clock, is_position}
use Rattle.rules.specs.Kind.{is_form}
use Rattle.fields.specs.Word.{word_of}
use Rattle.fields.specs.Pair.{is_pair_form, pair_of}
use Rattle.fields.specs.Ident.{ident_from, ident_of}
use Rattle.fields.specs.Aircraft.{plain_of, prefixed_of, aircraft_of}
use Rattle.fields.specs.Facility.{facility_text}
use Rattle.fields.specs.MessageType.{type_of}
use Rattle.messages.specs.Body.{body_from}
use Rattle.messages.specs.Read.{body_read}
use Rattle.line.specs.Read.{type_by, head_of, rest_of, read_by, read_of, free_of}
use Rattle.meanings.specs.Meaning.{decimal_of, in_minutes, minutes_of, moment_of, moment_in}
use Rattle.meanings.specs.Age.{is_last_day, day_before, age_of, age_in}
use Rattle.line.specs.Starred.{Row, answer, table}

pub starred : map (λ (r : Row). answer r.asked) table ≡ map (λ (r : Row). r.told) table
unfolding facility_text type_of body_from body_read type_by head_of rest_of read_by read_of free_of all_in places is_stamp all is_digit is_letter is_alnum code_of byte_of value digits packed text_of is_digit_to digit_of is_numeral number_of read_number is_of fits pieces fits_any one_of run within up_to has before after joins is_key is_ident is_tz_ident is_clock is_position is_form word_of is_pair_form pair_of ident_from ident_of plain_of prefixed_of aircraft_of decimal_of in_minutes minutes_of tight is_packed moment_of moment_in is_last_day day_before age_of age_in
starred = refl
