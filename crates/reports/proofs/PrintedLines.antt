-- What the last three lines of the printed case ask of the board; the first two are examples of the planner. antt computes it. Assumes nothing.
use Rattle.std.specs.Prelude.{Err, Ok}
use Prim.Native.String.{String}
use mathlib.Core.Path.{◌≡◌, refl}
use Rattle.text.specs.Class.{all, is_digit, is_letter, is_alnum}
use Rattle.text.specs.Code.{code_of}
use Rattle.text.specs.Number.{is_digit_to, digit_of, is_numeral, number_of as number}
use Rattle.text.specs.Place.{value, all_in}
use Rattle.text.specs.Text.{packed}
use Rattle.shapes.specs.Cut.{up_to, has, before, after, joins}
use Rattle.shapes.specs.Picture.{is_of, fits as fits_picture, fits_any, one_of, run, within}
use Rattle.shapes.specs.Pieces.{pieces}
use Rattle.rules.specs.Form.{is_stamp, is_key, is_ident, is_tz_ident, is_clock, is_time, is_arrival, is_position}
use Rattle.rules.specs.Kind.{is_form}
use Rattle.fields.specs.Aircraft.{plain_of, prefixed_of, aircraft_of, aircraft_by}
use Rattle.fields.specs.Ident.{ident_from, ident_of, tz_ident_of}
use Rattle.fields.specs.MessageType.{type_of}
use Rattle.fields.specs.Pair.{is_pair_form, pair_of}
use Rattle.fields.specs.Word.{word_of}
use Rattle.table.specs.Field.{plain, trace_of, marks_of, read_kind, read_in, follows}
use Rattle.table.specs.Read.{padded, values_from, answer_from, counted, answers, values, answer_of, values_of}
use Rattle.table.specs.Spacing.{ended, fields_of}
use Rattle.table.specs.Table.{count_with, is_count, table_by, kinds_of, count_in, answer_by, values_by}
use Rattle.messages.specs.Body.{body_from}
use Rattle.messages.specs.Read.{body_read}
use Rattle.line.specs.Read.{type_by, head_of, rest_of, read_by, read_of}
use Rattle.text.specs.Bytes.{bytes}
use Rattle.table.specs.declared.walk.Fault.TheVariants as fault
use Rattle.line.specs.declared.Refusal.TheVariants as refusal
use Rattle.planner.specs.Asked.{asked_by, asked_of}
use Rattle.planner.specs.declared.asks.Asked.TheVariants as asked
use Rattle.fields.specs.declared.flight.Key.{Key}
use Rattle.board.specs.declared.rows.Arrival.{Arrival}
use Rattle.board.specs.declared.rows.Track.{Track}
use Rattle.printer.specs.Example.{word}
use Rattle.reports.specs.Printed.{line3, line4, line5}

abbrev key : String → Key
key k = record { 0 = word k }

abbrev arrives : String → String → String → String → Arrival
arrives a b c s = record { departure = record { 0 = word a }; destination = record { 0 = word b }; clock = record { 0 = word c }; stamp = record { 0 = word s } }

abbrev moves : String → String → String → String → Track
moves v l p s = record { speed = record { 0 = word v }; level = record { 0 = word l }; position = record { 0 = word p }; stamp = record { 0 = word s } }

-- a TZ, an AZ, and a TZ whose ident has no computer number: 9, place 1
pub asks_later : (asked_of (bytes line3) ≡ Ok (asked.Tz (key "QQX12") (moves "315" "250C" "3020N/08430W" "06081700")))
    × (asked_of (bytes line4) ≡ Ok (asked.Az (key "N5AB") (arrives "GHI" "JKL" "A0810" "06081800")))
    × (asked_of (bytes line5) ≡ Err (refusal.Body (fault.Field 1)))
unfolding asked_of asked_by read_of read_by type_by head_of rest_of body_read body_from type_of all_in answer_by values_by kinds_of table_by count_in is_count count_with padded values_from answer_from counted answers values answer_of values_of
    plain trace_of marks_of read_kind read_in follows ended fields_of plain_of prefixed_of aircraft_of aircraft_by ident_from ident_of tz_ident_of is_pair_form pair_of word_of
    is_form is_stamp is_key is_ident is_tz_ident is_clock is_time is_position up_to has before after joins is_of fits_picture fits_any one_of run within pieces is_digit_to digit_of is_numeral number packed value code_of all is_digit is_letter is_alnum is_arrival
asks_later = (refl, refl, refl)
