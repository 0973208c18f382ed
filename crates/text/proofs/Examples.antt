-- What the promises of `text` require on inputs written out, and so wrong answers that they do not allow: of each, `Post` is the function's
-- `ensures` as it stands in the source, r any result that meets it, s the state at exit. Assumes nothing.
use Rattle.std.specs.Prelude.{None, Ok, Some}
use Prim.Native.Nat.{◌+◌, ◌*◌, ◌^◌}
use mathlib.Core.Bool.{true, false}
use mathlib.Core.Path.{◌≡◌, ap, ◌∙◌}
use Rattle.text.specs.Bytes.{bytes}
use Rattle.text.specs.Class.{all, is_digit, is_letter}
use Rattle.text.specs.Code.{code_of, byte_of}
use Rattle.text.specs.Decimal.{width_by, decimal}
use Rattle.text.specs.Number.{is_digit_to, digit_of, number_of, is_numeral, read_number, padded}
use Rattle.text.specs.Place.{value, places, digits, tight}
use Rattle.text.specs.Text.{packed, spliced, has_room, written_next, written_bytes, text_of, is_packed, size_of, slashed, join_of}
use Rattle.text.proofs.decimals.put.Reads as put
use Rattle.text.proofs.decimals.size.Reads as size
use Rattle.text.proofs.number.Reads as number
use Rattle.text.proofs.pack_known.Reads as pack-known
use Rattle.text.proofs.writing.has_room.Reads as has-room
use Rattle.text.proofs.writing.join.Reads as join
use Rattle.text.proofs.writing.put.Reads as writing-put
use Rattle.text.proofs.writing.put_bytes.Reads as put-bytes
use Rattle.text.proofs.writing.size.Reads as writing-size

-- A counts 11, the first letter's code
pub pack_known_a_a_digit : (κs : _) (a : _) (r : _) (s : _) → pack-known.Post κs a r s → a.0.now ≡ bytes "A" → r ≡ 11 * 38 ^ 11
unfolding packed value code_of is_digit is_letter
pack_known_a_a_digit κs a r s p e = p ∙ ap packed e

-- each code counts by its own place, the first by the highest
pub pack_known_next_place : (κs : _) (a : _) (r : _) (s : _) → pack-known.Post κs a r s → a.0.now ≡ bytes "1/" → r ≡ 2 * 38 ^ 11 + 37 * 38 ^ 10
unfolding packed value code_of is_digit is_letter
pack_known_next_place κs a r s p e = p ∙ ap packed e

-- to the base ten A is no digit
pub number_base_digit : (κs : _) (a : _) (r : _) (s : _) → number.Post κs a r s → a.0.now ≡ bytes "1A" → a.1.0 ≡ 10 → r ≡ None
unfolding read_number is_numeral is_digit_to all code_of is_digit is_letter
number_base_digit κs a r s p e b = p ∙ rw (e, b)

-- 9 is one, and zeros in front count nothing
pub number_no_last_digit : (κs : _) (a : _) (r : _) (s : _) → number.Post κs a r s → a.0.now ≡ bytes "0904" → a.1.0 ≡ 10 → r ≡ Some 904
unfolding read_number is_numeral is_digit_to number_of digit_of value all code_of is_digit is_letter
number_no_last_digit κs a r s p e b = p ∙ rw (e, b)

-- ---- decimals

-- a single digit is one
pub size_from_0 : (κs : _) (a : _) (r : _) (s : _) → size.Post κs a r s → a.0 ≡ 7 → r ≡ 1
unfolding decimal padded places width_by
size_from_0 κs a r s p e = p ∙ rw e

-- 10 has two
pub size_of_10_is_1 : (κs : _) (a : _) (r : _) (s : _) → size.Post κs a r s → a.0 ≡ 10 → r ≡ 2
unfolding decimal padded places width_by
size_of_10_is_1 κs a r s p e = p ∙ rw e

-- each digit stands at its place, and every other byte stays
pub put_last_digit_again : (κs : _) (a : _) (r : _) (s : _) → put.Post κs a r s
    → a.0 ≡ 407 → a.1.0.now ≡ bytes "......" → a.1.1.0 ≡ 1 → s.1.0.now ≡ bytes ".407.."
unfolding written_bytes has_room spliced decimal padded places width_by byte_of
put_last_digit_again κs a r s p n o at = p.1 ∙ rw (n, o, at)

-- the answer is the place after them
pub decimals_put_next_is_start : (κs : _) (a : _) (r : _) (s : _) → put.Post κs a r s
    → a.0 ≡ 407 → a.1.0.now ≡ bytes "......" → a.1.1.0 ≡ 1 → r ≡ Ok 4
unfolding written_next has_room decimal padded places width_by
decimals_put_next_is_start κs a r s p n o at = p.0 ∙ rw (n, o, at)

-- ---- writing

-- 38 to the 12th is the number of no text
pub size_of_top : (κs : _) (a : _) (r : _) (s : _) → writing-size.Post κs a r s → a.0 ≡ 38 ^ 12 → r ≡ None
unfolding size_of is_packed
size_of_top κs a r s p e = p ∙ ap size_of e

-- each byte counts one: AZ has two
pub size_by_two : (κs : _) (a : _) (r : _) (s : _) → writing-size.Post κs a r s → a.0 ≡ 11 * 38 ^ 11 + 36 * 38 ^ 10 → r ≡ Some 2
unfolding size_of is_packed tight text_of digits
size_by_two κs a r s p e = p ∙ ap size_of e

-- from place 2 of four bytes there is no room for three
pub room_from_0 : (κs : _) (a : _) (r : _) (s : _) → has-room.Post κs a r s → a.0 ≡ 3 → a.1.0 ≡ 4 → a.1.1.0 ≡ 2 → r ≡ false
room_from_0 κs a r s p n len at = p ∙ rw (n, len, at)

-- but for two, to the very end
pub put_no_room_to_end : (κs : _) (a : _) (r : _) (s : _) → has-room.Post κs a r s → a.0 ≡ 2 → a.1.0 ≡ 4 → a.1.1.0 ≡ 2 → r ≡ true
put_no_room_to_end κs a r s p n len at = p ∙ rw (n, len, at)

-- AZ stands from the given place on, and every other byte stays
pub put_elsewhere : (κs : _) (a : _) (r : _) (s : _) → writing-put.Post κs a r s
    → a.0 ≡ 11 * 38 ^ 11 + 36 * 38 ^ 10 → a.1.0.now ≡ bytes "......" → a.1.1.0 ≡ 3 → s.1.0.now ≡ bytes "...AZ."
unfolding written_bytes has_room spliced is_packed tight text_of digits byte_of
put_elsewhere κs a r s p t o at = p.1 ∙ rw (t, o, at)

-- the answer is the place after it
pub writing_put_next_is_start : (κs : _) (a : _) (r : _) (s : _) → writing-put.Post κs a r s
    → a.0 ≡ 11 * 38 ^ 11 + 36 * 38 ^ 10 → a.1.0.now ≡ bytes "......" → a.1.1.0 ≡ 3 → r ≡ Ok 5
unfolding written_next has_room is_packed tight text_of digits
writing_put_next_is_start κs a r s p t o at = p.0 ∙ rw (t, o, at)

-- each byte stands at its place
pub put_bytes_first_again : (κs : _) (a : _) (r : _) (s : _) → put-bytes.Post κs a r s
    → a.0.now ≡ bytes "a b" → a.1.0.now ≡ bytes "....." → a.1.1.0 ≡ 1 → s.1.0.now ≡ bytes ".a b."
unfolding written_bytes has_room spliced
put_bytes_first_again κs a r s p b o at = p.1 ∙ rw (b, o, at)

-- the answer is the place after them
pub put_bytes_next_is_start : (κs : _) (a : _) (r : _) (s : _) → put-bytes.Post κs a r s
    → a.0.now ≡ bytes "a b" → a.1.0.now ≡ bytes "....." → a.1.1.0 ≡ 1 → r ≡ Ok 4
unfolding written_next has_room
put_bytes_next_is_start κs a r s p b o at = p.0 ∙ rw (b, o, at)

-- the slash has a place of its own, so that 6 and 6 bytes are one too many
pub join_over_slash : (κs : _) (a : _) (r : _) (s : _) → join.Post κs a r s
    → a.0 ≡ packed (bytes "AAL123") → a.1.0 ≡ packed (bytes "AAL123") → r ≡ None
unfolding join_of slashed is_packed tight text_of digits packed value code_of byte_of is_digit is_letter
join_over_slash κs a r s p x y = p ∙ rw (x, y)

-- both texts are in it
pub join_first_alone : (κs : _) (a : _) (r : _) (s : _) → join.Post κs a r s
    → a.0 ≡ packed (bytes "AAL123") → a.1.0 ≡ packed (bytes "47B") → r ≡ Some (packed (bytes "AAL123/47B"))
unfolding join_of slashed is_packed tight text_of digits packed value code_of byte_of is_digit is_letter
join_first_alone κs a r s p x y = p ∙ rw (x, y)
