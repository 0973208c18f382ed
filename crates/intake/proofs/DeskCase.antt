-- THE PRINTED CASE of document 01 ("The printer"), checked: what is said of its five lines. Assumes nothing.
use Prim.Native.Nat.{ℕ}
use mathlib.Core.List.{List, [], ◌∷◌, ◌++◌, map}
use mathlib.Core.Path.{◌≡◌, refl, ap}
use Rattle.text.specs.Bytes.{bytes}
use Rattle.text.specs.Class.{all, is_digit, is_letter, is_alnum}
use Rattle.text.specs.Code.{code_of, byte_of}
use Rattle.text.specs.Decimal.{width_by, decimal}
use Rattle.text.specs.Number.{is_digit_to, digit_of, is_numeral, number_of as number, padded}
use Rattle.text.specs.Place.{value, digits, places, all_in}
use Rattle.text.specs.Text.{packed, text_of}
use Rattle.shapes.specs.Cut.{up_to, has, before, after, joins}
use Rattle.shapes.specs.Picture.{is_of, fits, fits_any, one_of, run, within}
use Rattle.shapes.specs.Pieces.{pieces, none_has}
use Rattle.rules.specs.Form.{is_stamp, is_key, is_ident, is_tz_ident, is_clock, is_arrival, is_time, is_position}
use Rattle.rules.specs.Kind.{is_form}
use Rattle.rules.specs.declared.Rule.TheVariants.{New}
use Rattle.fields.specs.Aircraft.{plain_of, prefixed_of, aircraft_by, aircraft_of}
use Rattle.fields.specs.Ident.{ident_from, ident_of, tz_ident_of}
use Rattle.fields.specs.MessageType.{type_of}
use Rattle.fields.specs.Pair.{is_pair_form, pair_of}
use Rattle.fields.specs.Word.{word_of}
use Rattle.table.specs.Field.{plain, trace_of, marks_of, read_kind, read_in, follows}
use Rattle.table.specs.Read.{padded as filled, values_from, answer_from, counted, answers, values, answer_of, values_of}
use Rattle.table.specs.Spacing.{ended as spaced, fields_of}
use Rattle.table.specs.Table.{count_with, is_count, table_by, kinds_of, count_in, answer_by, values_by}
use Rattle.messages.specs.Body.{body_from}
use Rattle.messages.specs.Read.{body_read}
use Rattle.line.specs.Read.{type_by, head_of, rest_of as body_after, read_by}
use Rattle.cutter.specs.Feed.{Line, Whole, feed_of, rest_of, line_of, lines_of}
use Rattle.cutter.proofs.Feeds.{feed_only}
use Rattle.printer.specs.Example.{ended}
use Rattle.printer.specs.RowText.{line_text}
use Rattle.printer.specs.Parts.{part_text}
use Rattle.checks.specs.Check.{every_line, refused_lines, said_of, check_of, is_taken, torn_of}
use Rattle.checks.specs.Feed.{checks_from, checks_of, checked_of}
use Rattle.reports.specs.Printed.{line1, line2, line3, line4, line5, example_input}

-- what is said
abbrev pub example_checks : List ℕ
example_checks = ended "1 0 0 TZ QQX12" ++ ended "2 0 0 DZ QQX12" ++ ended "3 0 0 TZ QQX12" ++ ended "4 0 0 AZ N5AB" ++ ended "5 9 1 - -"

-- its lines, and no rest
abbrev texts : List (List ℕ)
texts = bytes line1 ∷ bytes line2 ∷ bytes line3 ∷ bytes line4 ∷ bytes line5 ∷ []

abbrev five : List Line
five = map Whole texts

its_lines : (lines_of example_input ≡ five) × (rest_of example_input ≡ [])
unfolding lines_of line_of feed_of none_has has up_to
its_lines = let f = feed_only texts [] refl refl in (ap (map line_of) f.0, f.1)

its_checks : (checks_from (every_line New) 1 five ≡ example_checks) × (checks_from (refused_lines New) 1 five ≡ ended "5 9 1 - -")
unfolding checks_from said_of is_taken check_of line_text part_text text_of digits byte_of decimal width_by padded places read_by type_by head_of body_after body_read body_from type_of
    all_in answer_by values_by table_by kinds_of count_in is_count count_with filled values_from answer_from counted answers values answer_of values_of plain trace_of marks_of read_kind
    read_in follows spaced fields_of plain_of prefixed_of aircraft_by aircraft_of ident_from ident_of tz_ident_of is_pair_form pair_of word_of is_form is_stamp is_key is_ident is_tz_ident
    is_clock is_arrival is_time is_position up_to has before after joins is_of fits fits_any one_of run within pieces is_digit_to digit_of is_numeral number packed value code_of all
    is_digit is_letter is_alnum
its_checks = (refl, refl)

-- all lines, and the refused one alone
pub printed_checks : (checked_of (every_line New) example_input ≡ example_checks) × (checked_of (refused_lines New) example_input ≡ ended "5 9 1 - -")
unfolding checked_of checks_of torn_of
printed_checks = let l = its_lines in (rw (l.0, l.1, its_checks.0), rw (l.0, l.1, its_checks.1))
