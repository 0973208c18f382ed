-- What the promises of `idents` require on inputs written out, so that named wrong answers are none of theirs: of each, `Post` is the
-- function's `ensures` as it stands in the source, r any result that meets it, s any state at exit. Assumes nothing.
use Rattle.std.specs.Prelude.{Err, None, Some}
use mathlib.Core.Path.{◌≡◌, refl, ◌∙◌}
use mathlib.Core.Bool.{true, false}
use Rattle.text.specs.Bytes.{bytes}
use Rattle.text.specs.Class.{all, is_digit, is_letter, is_alnum}
use Rattle.text.specs.Code.{code_of, byte_of}
use Rattle.text.specs.Place.{value, digits, tight}
use Rattle.text.specs.Text.{packed, text_of, is_packed, slashed, spliced, has_room, written_next, written_bytes}
use Rattle.shapes.specs.Cut.{up_to, has, before, after, joins}
use Rattle.shapes.specs.Picture.{is_of, fits, run}
use Rattle.rules.specs.Form.{is_key, is_ident, is_tz_ident}
use Rattle.rules.specs.Kind.{is_form}
use Rattle.fields.specs.Word.{is_word}
use Rattle.fields.specs.Pair.{pair_text, is_pair}
use Rattle.fields.specs.Ident.{ident_from, ident_of, tz_ident_of, ident_text, is_ident_value}
use Rattle.fields.specs.declared.idents.Ident.{Ident}
use Rattle.fields.proofs.idents.Ident.read.Reads as ident-read
use Rattle.fields.proofs.idents.Ident.read_tz.Reads as tz-read
use Rattle.fields.proofs.idents.Ident.holds.Reads as ident-holds
use Rattle.fields.proofs.idents.Ident.put.Reads as ident-put
use Rattle.text.specs.declared.NotWritten.TheVariants.{NoText}

-- N5 by itself, with its number, and with what is a key and no number
abbrev alone : Ident
alone = record { key = record { 0 = packed (bytes "N5") }; number = record { 0 = 0 } }

abbrev numbered : Ident
numbered = record { key = record { 0 = packed (bytes "N5") }; number = record { 0 = packed (bytes "101") } }

abbrev misnumbered : Ident
misnumbered = record { key = record { 0 = packed (bytes "N5") }; number = record { 0 = packed (bytes "AB1") } }

-- what is read, tested and shown of them; antt computes it
told :
    (ident_of (bytes "N5") ≡ Some alone) × (ident_of (bytes "N5/101") ≡ Some numbered) ×
    (tz_ident_of (bytes "N5") ≡ None) × (tz_ident_of (bytes "N5/101") ≡ Some numbered) ×
    (is_ident_value numbered ≡ true) × (is_ident_value misnumbered ≡ false) × (ident_text numbered ≡ bytes "N5/101")
unfolding ident_of tz_ident_of ident_from is_ident is_tz_ident joins up_to has before after pair_text slashed is_pair is_word is_packed
    tight text_of digits byte_of is_form is_key run fits is_of all is_alnum is_digit is_letter packed code_of value
told = (refl, refl, refl, refl, refl, refl, refl)

-- the number is optional
pub read_pair_required : (κs : _) (a : _) (r : _) (s : _) → ident-read.Post κs a r s → a.0.now ≡ bytes "N5" → r ≡ Some alone
read_pair_required κs a r s p e = p ∙ rw (e, told.0)

-- the key stands before the slash
pub ident_turned_round : (κs : _) (a : _) (r : _) (s : _) → ident-read.Post κs a r s → a.0.now ≡ bytes "N5/101" → r ≡ Some numbered
ident_turned_round κs a r s p e = p ∙ rw (e, told.1)

-- in TZ the number is required
pub tz_without_number : (κs : _) (a : _) (r : _) (s : _) → tz-read.Post κs a r s → a.0.now ≡ bytes "N5" → r ≡ None
tz_without_number κs a r s p e = p ∙ rw (e, told.2)

-- and stands after the slash
pub tz_turned_round : (κs : _) (a : _) (r : _) (s : _) → tz-read.Post κs a r s → a.0.now ≡ bytes "N5/101" → r ≡ Some numbered
tz_turned_round κs a r s p e = p ∙ rw (e, told.3)

-- a key is no computer number
pub number_is_a_key : (κs : _) (a : _) (r : _) (s : _) → ident-holds.Post κs a r s → a.0 ≡ misnumbered → r ≡ false
number_is_a_key κs a r s p e = p ∙ rw (e, told.5)

-- each is tested for its own form
pub holds_turned_round : (κs : _) (a : _) (r : _) (s : _) → ident-holds.Post κs a r s → a.0 ≡ numbered → r ≡ true
holds_turned_round κs a r s p e = p ∙ rw (e, told.4)

-- what is no ident is not written
pub put_by_two_keys : (κs : _) (a : _) (r : _) (s : _) → ident-put.Post κs a r s → a.0 ≡ misnumbered → r ≡ Err NoText
unfolding written_next
put_by_two_keys κs a r s p e = p.0 ∙ rw (e, told.5)

-- the key is written first, from the given place on, and every other byte stays
pub number_before_key : (κs : _) (a : _) (r : _) (s : _) → ident-put.Post κs a r s → a.0 ≡ numbered
    → a.1.0.now ≡ bytes "........" → a.1.1.0 ≡ 1 → s.1.0.now ≡ bytes ".N5/101."
unfolding written_bytes has_room spliced
number_before_key κs a r s p e o i = p.1 ∙ rw (e, o, i, told.4, told.6)
