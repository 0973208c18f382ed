-- What the promises of `words` require on inputs written out, so that named wrong answers are none of theirs: of each, `Post` is the
-- function's `ensures` as it stands in the source, r any result that meets it, s any state at exit. Assumes nothing.
use Rattle.std.specs.Prelude.{Err, None, Some}
use mathlib.Core.Path.{◌≡◌, ◌∙◌}
use Prim.Native.Nat.{◌+◌, ◌*◌, ◌^◌}
use mathlib.Core.Bool.{true, false}
use Rattle.text.specs.Bytes.{bytes}
use Rattle.text.specs.Class.{all, is_digit, is_letter, is_alnum}
use Rattle.text.specs.Code.{code_of, byte_of}
use Rattle.text.specs.Place.{value, digits, tight}
use Rattle.text.specs.Number.{is_digit_to, digit_of, is_numeral, number_of}
use Rattle.text.specs.Text.{packed, text_of, is_packed, spliced, has_room, written_next, written_bytes}
use Rattle.shapes.specs.Picture.{is_of, fits, run, within}
use Rattle.rules.specs.Form.{is_old_stamp, is_key, is_position}
use Rattle.rules.specs.Kind.{SEQUENCE, OLD_STAMP, KEY, LETTER, POSITION, is_form}
use Rattle.fields.specs.Word.{word_of, is_word}
use Rattle.fields.proofs.words.read.Reads as read
use Rattle.fields.proofs.words.put.Reads as put
use Rattle.fields.proofs.words.holds.Reads as holds
use Rattle.text.specs.declared.NotWritten.TheVariants.{NoText}

-- sixty minutes are no position
pub read_without_form : (κs : _) (a : _) (r : _) (s : _) → read.Post κs a r s → a.0 ≡ POSITION → a.1.0.now ≡ bytes "8960N/00000E" → r ≡ None
unfolding word_of is_form is_position fits is_of is_digit within is_numeral all is_digit_to code_of number_of digit_of value
read_without_form κs a r s p k e = p ∙ rw (k, e)

-- N5 is the word of N (24) and 5 (6), and of no other text
pub read_all_alike : (κs : _) (a : _) (r : _) (s : _) → read.Post κs a r s
    → a.0 ≡ KEY → a.1.0.now ≡ bytes "N5" → r ≡ Some (24 * 38 ^ 11 + 6 * 38 ^ 10)
unfolding word_of is_form is_key run is_of all is_alnum is_digit is_letter packed code_of value
read_all_alike κs a r s p k e = p ∙ rw (k, e)

-- Z is the center of an old line
pub center_refused : (κs : _) (a : _) (r : _) (s : _) → holds.Post κs a r s → a.0 ≡ LETTER → a.1.0 ≡ packed (bytes "Z") → r ≡ true
unfolding is_word is_form fits is_of is_letter is_packed tight packed value text_of digits code_of byte_of is_digit
center_refused κs a r s p k e = p ∙ rw (k, e)

-- an old stamp has no day before it
pub old_stamp_with_day : (κs : _) (a : _) (r : _) (s : _) → holds.Post κs a r s → a.0 ≡ OLD_STAMP → a.1.0 ≡ packed (bytes "06143655") → r ≡ false
unfolding is_word is_form is_old_stamp fits is_of is_digit is_letter is_packed tight packed value text_of digits code_of byte_of
old_stamp_with_day κs a r s p k e = p ∙ rw (k, e)

-- a key's word is no sequence number's: it is not written
pub put_any_kind : (κs : _) (a : _) (r : _) (s : _) → put.Post κs a r s → a.0 ≡ SEQUENCE → a.1.0 ≡ packed (bytes "N5") → r ≡ Err NoText
unfolding written_next is_word is_form fits is_of is_digit is_letter is_packed tight packed value text_of digits code_of byte_of
put_any_kind κs a r s p k e = p.0 ∙ rw (k, e)

-- from the given place on, and every other byte stays
pub put_from_0 : (κs : _) (a : _) (r : _) (s : _) → put.Post κs a r s → a.0 ≡ KEY → a.1.0 ≡ packed (bytes "N5")
    → a.1.1.0.now ≡ bytes "....." → a.1.1.1.0 ≡ 2 → s.1.1.0.now ≡ bytes "..N5."
unfolding written_bytes has_room spliced is_word is_form is_key run is_of all is_alnum is_digit is_letter is_packed tight packed value text_of digits
    code_of byte_of
put_from_0 κs a r s p k e o i = p.1 ∙ rw (k, e, o, i)

-- 0000S is written with its S, never as 0000N
pub put_south_as_north : (κs : _) (a : _) (r : _) (s : _) → put.Post κs a r s → a.0 ≡ POSITION → a.1.0 ≡ packed (bytes "0000S/00000W")
    → a.1.1.0.now ≡ bytes "............." → a.1.1.1.0 ≡ 0 → s.1.1.0.now ≡ bytes "0000S/00000W."
unfolding written_bytes has_room spliced is_word is_form is_position fits is_of is_digit is_letter within is_numeral all is_digit_to number_of digit_of
    is_packed tight packed value text_of digits code_of byte_of
put_south_as_north κs a r s p k e o i = p.1 ∙ rw (k, e, o, i)
