-- What the promises of `line` require on inputs written out, and so wrong answers that they do not allow: of each, `Post` is the function's
-- `ensures` as it stands in the source, r any result that meets it, s the state at exit. Assumes nothing.
use Rattle.std.specs.Prelude.{Result}
use Prim.Native.Nat.{ℕ}
use Prim.Native.String.{String}
use mathlib.Core.List.{List, [], ◌∷◌, map}
use mathlib.Core.Path.{◌≡◌, refl, ap, ◌∙◌}
use lib.ListN.{drop, get_or}
use Rattle.text.specs.Bytes.{bytes}
use Rattle.text.specs.Class.{all, is_digit, is_letter, is_alnum}
use Rattle.text.specs.Code.{code_of}
use Rattle.text.specs.Number.{is_digit_to, digit_of, is_numeral, number_of as number}
use Rattle.text.specs.Place.{value, all_in}
use Rattle.text.specs.Text.{packed}
use Rattle.shapes.specs.Cut.{up_to, has, before, after, joins}
use Rattle.shapes.specs.Picture.{is_of, fits, fits_any, one_of, run, within, starts_at}
use Rattle.shapes.specs.Pieces.{pieces}
use Rattle.rules.specs.Form.{is_stamp, is_old_stamp, is_key, is_ident, is_tz_ident, is_fix, is_clock, is_time, is_block, is_level, is_position}
use Rattle.rules.specs.Kind.{is_form}
use Rattle.rules.specs.declared.Rule.TheVariants.{New}
use Rattle.fields.specs.Aircraft.{aircraft_by, aircraft_of, plain_of, prefixed_of}
use Rattle.fields.specs.Ident.{ident_of, tz_ident_of}
use Rattle.fields.specs.Word.{word_of}
use Rattle.fields.specs.MessageType.{type_of}
use Rattle.fields.specs.Pair.{is_pair_form, pair_of}
use Rattle.table.specs.Field.{mark_of, content_of, trace_of, marks_of, plain, read_kind, read_mark, barred, read_in, follows}
use Rattle.table.specs.Read.{answer_from, counted, answers, answer_of, route_in, route_of, route_from, route_at}
use Rattle.table.specs.Spacing.{ended, fields_of}
use Rattle.table.specs.declared.walk.Fault.TheVariants as fault
use Rattle.table.specs.Table.{count_with, is_count, table_by, kinds_of, count_in, answer_by, route_by, route_at_by}
use Rattle.messages.specs.Read.{body_read}
use Rattle.line.specs.Read.{type_by, head_of, rest_of, read_by, read_of, old_read_of, refusal_number, refusal_place, line_number, line_place, old_number, old_place, free_of, free_at}
use Rattle.line.specs.declared.Refusal.TheVariants as refusal
use Rattle.line.proofs.Refusal.number.Reads as number
use Rattle.line.proofs.Refusal.place.Reads as place
use Rattle.line.proofs.free.Reads as free
use Rattle.line.proofs.read.Reads as read
use Rattle.line.proofs.read_old.Reads as read-old
use Rattle.messages.specs.declared.OldMessage.{OldMessage}
use Rattle.line.specs.declared.Refusal.{Refusal}

-- document 01's starred line is read
pub refuses_every_line : (κs : _) (a : _) (r : _) (s : _) → read.Post κs a r s → a.0.now ≡ bytes "000006143655KZMAHB" → line_number r ≡ 0
unfolding read_of read_by type_by head_of rest_of body_read type_of is_form all_in is_stamp is_of fits fits_any one_of pieces within is_digit is_letter is_alnum all is_numeral is_digit_to code_of number value digit_of
refuses_every_line κs a r s p e = ap line_number (p.0 ∙ ap read_of e)

-- the last line of its printed example has no computer number: 9, place 1
pub reads_all_as_one : (κs : _) (a : _) (r : _) (s : _) → read.Post κs a r s → a.0.now ≡ bytes "000506081900KZAATZ QQX12 315 250 3020N/08430W"
    → (line_number r ≡ 9) × (line_place r ≡ 1)
unfolding read_of read_by type_by head_of rest_of body_read type_of all_in is_stamp is_of fits pieces within is_digit is_letter is_alnum all is_numeral is_digit_to code_of number value digit_of answer_by is_count count_in fields_of ended count_with answer_of answers counted kinds_of table_by answer_from read_in read_kind plain is_tz_ident is_form is_pair_form pair_of tz_ident_of up_to has joins one_of fits_any follows
reads_all_as_one κs a r s p e = (ap line_number (p.0 ∙ ap read_of e), ap line_place (p.0 ∙ ap read_of e))

-- of a line whose sequence and stamp are both wrong the sequence is answered
pub answers_4_and_5_exchanged : (κs : _) (a : _) (r : _) (s : _) → read.Post κs a r s → a.0.now ≡ bytes "000G32143655KZMAHB" → line_number r ≡ 4
unfolding read_of read_by head_of is_form all_in is_of fits is_digit is_letter is_alnum all
answers_4_and_5_exchanged κs a r s p e = ap line_number (p.0 ∙ ap read_of e)

-- the body of an HB begins after its type
pub free_with_type : (κs : _) (a : _) (r : _) (s : _) → free.Post κs a r s → a.0 ≡ New → a.1.0.now ≡ bytes "000006143655KZMAHB UP" → r.now ≡ bytes " UP"
unfolding free_of type_by type_of fits is_of
free_with_type κs a r s p n e = p.0 ∙ ap (λ ρ. free_of ρ a.1.0.now) n ∙ ap (free_of New) e

-- the route of an FZ is its last field, without the space before it
pub route_with_its_space : (κs : _) (a : _) (r : _) (s : _) → free.Post κs a r s → a.0 ≡ New
    → a.1.0.now ≡ bytes "000106081500KZAAFZ QQX12 C172/A 0120 ABC P0816 050 ABC..DEF" → r.now ≡ bytes "ABC..DEF"
unfolding free_of type_by type_of fits is_of route_by table_by route_of route_in fields_of ended pieces plain
route_with_its_space κs a r s p n e = p.0 ∙ ap (λ ρ. free_of ρ a.1.0.now) n ∙ ap (free_of New) e

-- of two equal fields the route is the one after the number 10: the part that is handed back lies 36 bytes after the line's first
pub an_equal_field_for_the_route : (κs : _) (a : _) (r : _) (s : _) → free.Post κs a r s → a.0 ≡ New → a.1.0.now ≡ bytes "000106081500KZAAAF QQX12 ABC ABC 10 ABC"
    → (r.now ≡ bytes "ABC") × (r.ref_ptr ≡ starts_at a.1.0.ref_ptr 36)
unfolding free_of free_at type_by type_of fits is_of route_by route_at_by table_by route_of route_at route_in route_from fields_of ended pieces plain trace_of content_of mark_of
an_equal_field_for_the_route κs a r s p n e = (
  p.0 ∙ ap (λ ρ. free_of ρ a.1.0.now) n ∙ ap (free_of New) e,
  p.1 ∙ ap (λ ρ. starts_at a.1.0.ref_ptr (free_at ρ a.1.0.now)) n ∙ ap (λ x. starts_at a.1.0.ref_ptr (free_at New x)) e,
)

-- ---- faults of fields; antt computes what the rules say

-- a line's number and place
abbrev at : String → ℕ × ℕ
at s = (line_number (read_of (bytes s)), line_place (read_of (bytes s)))

-- an AF with 08 twice, one with 04, and an FZ whose time has E after a fix that is no position; a block that falls in a UZ, and in an AF's 09
told : (at "000106081500KZAAAF QQX12 ABC DEF 08 050 08 060" ≡ (10, 6)) × (at "000106081500KZAAAF QQX12 ABC DEF 04 050" ≡ (10, 4))
    × (at "000106081500KZAAFZ QQX12 C172/A 0120 ABC E0816 050 ABC..DEF" ≡ (9, 5))
    × (at "000106081500KZAAUZ QQX12 C172/A 0120 ABC P0816 350B310 ABC..DEF" ≡ (9, 6)) × (at "000106081500KZAAAF QQX12 ABC DEF 08 99B100 09 100B99" ≡ (9, 7))
unfolding read_of read_by type_by head_of rest_of body_read type_of all_in is_stamp is_of fits pieces within is_digit is_letter is_alnum all is_numeral is_digit_to code_of number value digit_of answer_by
    is_count count_in fields_of ended count_with answer_of answers counted kinds_of table_by answer_from read_in read_kind plain is_tz_ident is_form is_pair_form pair_of tz_ident_of up_to has joins
    one_of fits_any follows ident_of is_ident is_key run read_mark mark_of trace_of marks_of content_of barred aircraft_by aircraft_of plain_of prefixed_of word_of is_time is_clock is_fix is_block is_level is_position
    before after
told = (refl, refl, refl, refl, refl)

-- "never 9", and the place is the second 08's
pub a_number_twice_has_no_reading : (κs : _) (a : _) (r : _) (s : _) → read.Post κs a r s → a.0.now ≡ bytes "000106081500KZAAAF QQX12 ABC DEF 08 050 08 060"
    → (line_number r ≡ 10) × (line_place r ≡ 6)
a_number_twice_has_no_reading κs a r s p e =
    let z = p.0 ∙ ap read_of e in
    (ap line_number z ∙ ap (λ x. x.0) told.0, ap line_place z ∙ ap (λ x. x.1) told.0)

pub a_wrong_number_has_no_reading : (κs : _) (a : _) (r : _) (s : _) → read.Post κs a r s → a.0.now ≡ bytes "000106081500KZAAAF QQX12 ABC DEF 04 050"
    → (line_number r ≡ 10) × (line_place r ≡ 4)
a_wrong_number_has_no_reading κs a r s p e =
    let z = p.0 ∙ ap read_of e in
    (ap line_number z ∙ ap (λ x. x.0) told.1, ap line_place z ∙ ap (λ x. x.1) told.1)

-- "else the time field is at fault", and not the fix before it
pub the_fix_is_at_fault : (κs : _) (a : _) (r : _) (s : _) → read.Post κs a r s → a.0.now ≡ bytes "000106081500KZAAFZ QQX12 C172/A 0120 ABC E0816 050 ABC..DEF"
    → (line_number r ≡ 9) × (line_place r ≡ 5)
the_fix_is_at_fault κs a r s p e =
    let z = p.0 ∙ ap read_of e in
    (ap line_number z ∙ ap (λ x. x.0) told.2, ap line_place z ∙ ap (λ x. x.1) told.2)

-- 350B310 is no level in a UZ either
pub falling_block_in_fz_alone : (κs : _) (a : _) (r : _) (s : _) → read.Post κs a r s → a.0.now ≡ bytes "000106081500KZAAUZ QQX12 C172/A 0120 ABC P0816 350B310 ABC..DEF"
    → (line_number r ≡ 9) × (line_place r ≡ 6)
falling_block_in_fz_alone κs a r s p e =
    let z = p.0 ∙ ap read_of e in
    (ap line_number z ∙ ap (λ x. x.0) told.3, ap line_place z ∙ ap (λ x. x.1) told.3)

-- nor is 100B99 the content of an 09, though 99B100 is that of an 08: "as numbers", and the place is the content's
pub falling_block_as_texts : (κs : _) (a : _) (r : _) (s : _) → read.Post κs a r s → a.0.now ≡ bytes "000106081500KZAAAF QQX12 ABC DEF 08 99B100 09 100B99"
    → (line_number r ≡ 9) × (line_place r ≡ 7)
falling_block_as_texts κs a r s p e =
    let z = p.0 ∙ ap read_of e in
    (ap line_number z ∙ ap (λ x. x.0) told.4, ap line_place z ∙ ap (λ x. x.1) told.4)

-- ---- lines of the old feed

-- an old line, and its number and place
pub record OldRow : Type 0 where
  pub text : String
  pub number : ℕ
  pub place : ℕ

abbrev told_as : String → ℕ → ℕ → OldRow
told_as t n p = record { text = t; number = n; place = p }

-- beside each line the wrong answer that it refuses
abbrev pub old_rows : List OldRow
old_rows =
    told_as "143655ZDZ QQX12/101 C172 ABC D0816 DEF 0930" 0 0  -- refuses_every_line
    ∷ told_as "143655ZDZ QQX12/101 C172/A ABC D0816 DEF 0930" 9 2  -- letter_read
    ∷ told_as "143655ZAF QQX12 ABC DEF 03 T/B73S/F" 9 5  -- amended_letter_read
    ∷ told_as "143655ZAZ QQX12 ABC DEF A0930" 9 4  -- a_clock_read
    ∷ told_as "000106081500KZAATZ QQX12/101 310 240 3015N/08430W" 6 0  -- new_line_read_as_old
    ∷ told_as "143655ZHB" 7 0  -- hb_taken
    ∷ told_as "143655ZTZ" 8 0  -- nine_bytes_are_short
    ∷ told_as "143655ZT" 1 0  -- eight_bytes_are_enough
    ∷ told_as "240000ZTZ QQX12/101 310 240 3015N/08430W" 5 0  -- hour_24
    ∷ []

-- s being the line of a row, r is answered as the row says; and so of each row
abbrev pub OldTells : List ℕ → Result OldMessage Refusal → List OldRow → Type 0
OldTells s r [] = Unit {0}
OldTells s r (x ∷ l) = (s ≡ bytes x.text → (old_number r ≡ x.number) × (old_place r ≡ x.place)) × OldTells s r l

old_tells : (s : List ℕ) (l : List OldRow) → map {B = ℕ × ℕ} (λ (x : OldRow). (old_number (old_read_of (bytes x.text)), old_place (old_read_of (bytes x.text)))) l ≡ map {B = ℕ × ℕ} (λ (x : OldRow). (x.number, x.place)) l → OldTells s (old_read_of s) l
old_tells s [] e = tt
old_tells s (x ∷ l) e =
    let f = ap (λ (ns : List (ℕ × ℕ)). get_or ns 0 (0, 0)) e in (
      (λ q. (ap (λ z. old_number (old_read_of z)) q ∙ ap (λ z. z.0) f, ap (λ z. old_place (old_read_of z)) q ∙ ap (λ z. z.1) f)),
      old_tells s l (ap (drop 1) e),
    )

pub every_old_line : (κs : _) (a : _) (r : _) (s : _) → read-old.Post κs a r s → OldTells a.0.now r old_rows
unfolding old_read_of packed read_by type_by head_of rest_of body_read type_of all_in is_old_stamp is_of fits pieces within is_digit is_letter is_alnum all is_numeral is_digit_to code_of number value digit_of answer_by
    is_count count_in fields_of ended count_with answer_of answers counted kinds_of table_by answer_from read_in read_kind plain is_tz_ident is_form is_pair_form pair_of tz_ident_of up_to has joins
    one_of fits_any follows ident_of is_ident is_key run read_mark mark_of trace_of marks_of content_of barred aircraft_by aircraft_of plain_of prefixed_of word_of is_time is_clock is_fix is_block is_level is_position
    before after
every_old_line κs a r s p = rw p.0 (old_tells a.0.now old_rows refl)

-- ---- the number and the place of a refusal

-- "an AF number field .. (never 9)"
pub number_field_answers_9 : (κs : _) (a : _) (r : _) (s : _) → number.Post κs a r s → (i : ℕ) → a.0 ≡ refusal.Body (fault.Number i) → r ≡ 10
number_field_answers_9 κs a r s p i e = p ∙ ap refusal_number e

-- an FZ over 439 bytes is 11, and not a line over 2,048 bytes
pub long_plan_answers_2 : (κs : _) (a : _) (r : _) (s : _) → number.Post κs a r s → a.0 ≡ refusal.LongPlan → r ≡ 11
long_plan_answers_2 κs a r s p e = p ∙ ap refusal_number e

-- "its place is given, 1 for the ident"
pub place_from_0 : (κs : _) (a : _) (r : _) (s : _) → place.Post κs a r s → a.0 ≡ refusal.Body (fault.Field 1) → r ≡ 1
place_from_0 κs a r s p e = p ∙ ap refusal_place e

-- spacing has none
pub place_of_the_spacing : (κs : _) (a : _) (r : _) (s : _) → place.Post κs a r s → a.0 ≡ refusal.Body fault.Spacing → r ≡ 0
place_of_the_spacing κs a r s p e = p ∙ ap refusal_place e
