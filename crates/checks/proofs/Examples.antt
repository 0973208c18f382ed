-- What the promises of `checks` require on inputs written out, and so wrong answers that they do not allow: of each, `Post` is the function's
-- `ensures` as it stands in the source, r any result that meets it, s the state at exit. Assumes nothing.
use Prim.Native.Nat.{ℕ, suc, ◌+◌}
use Prim.Native.String.{String}
use mathlib.Core.Bool.{Bool, true, false, cond, ◌&&◌}
use mathlib.Core.List.{List, [], ◌∷◌, ◌++◌, map, append-nil}
use mathlib.Core.Path.{◌≡◌, refl, ap, ◌∙◌}
use lib.ListN.{length, take}
use Rattle.text.specs.Bytes.{bytes}
use Rattle.text.specs.Class.{all, is_digit, is_letter, is_alnum}
use Rattle.text.specs.Code.{code_of, byte_of}
use Rattle.text.specs.Decimal.{width_by, decimal}
use Rattle.text.specs.Number.{is_digit_to, digit_of, is_numeral, number_of as number, padded}
use Rattle.text.specs.Place.{value, digits, places, all_in}
use Rattle.text.specs.Text.{packed, text_of}
use Rattle.text.proofs.Splice.{take-spliced, spliced_none}
use Rattle.shapes.specs.Cut.{up_to, has, before, after, joins}
use Rattle.shapes.specs.Picture.{is_of, fits, fits_any, one_of, run, within}
use Rattle.shapes.specs.Pieces.{pieces, none_has}
use Rattle.rules.specs.Form.{is_stamp, is_old_stamp, is_key, is_ident, is_tz_ident, is_clock, is_time, is_position}
use Rattle.rules.specs.Frame.{line_feed}
use Rattle.rules.specs.Kind.{is_form}
use Rattle.rules.specs.declared.Rule.TheVariants.{New, Old}
use Rattle.fields.specs.Aircraft.{aircraft_by, aircraft_of, plain_of}
use Rattle.fields.specs.Ident.{ident_from, ident_of, tz_ident_of}
use Rattle.fields.specs.MessageType.{type_of}
use Rattle.fields.specs.Pair.{is_pair_form, pair_of}
use Rattle.fields.specs.Word.{word_of}
use Rattle.table.specs.Field.{plain, trace_of, marks_of, read_kind, read_in, follows}
use Rattle.table.specs.Read.{padded as filled, values_from, answer_from, counted, answers, values, answer_of, values_of}
use Rattle.table.specs.Spacing.{ended as spaced, fields_of}
use Rattle.table.specs.Table.{count_with, is_count, table_by, kinds_of, count_in, answer_by, values_by}
use Rattle.messages.specs.Body.{body_from}
use Rattle.messages.specs.Read.{body_read}
use Rattle.line.specs.Read.{type_by, head_of, rest_of, read_by}
use Rattle.printer.specs.RowText.{hyphen, line_text}
use Rattle.printer.specs.Parts.{part_text}
use Rattle.cutter.specs.Feed.{Line, feed_of, line_of, lines_of}
use Rattle.cutter.specs.State.{Mark, state_in}
use Rattle.cutter.specs.Calls.{start}
use Rattle.cutter.specs.Told.{told}
use Rattle.cutter.specs.declared.Begun.{Begun}
use Rattle.cutter.specs.declared.Begun.TheVariants.{Held, Overlong}
use Rattle.cutter.proofs.Feeds.{feed_only, start_lines}
use Rattle.checks.specs.Check.{every_line, refused_lines, saying, said_of, check_of, is_taken, torn_of}
use Rattle.checks.specs.Feed.{checks_from, reads_in}
use Rattle.checks.specs.Part.{torn_in}
use Rattle.checks.specs.declared.Asked.{Asked}
use Rattle.checks.proofs.Feeds.{the_text}
use Rattle.checks.proofs.check.Reads as check
use Rattle.checks.proofs.end.Reads as end

-- a line of text
abbrev ended : String → List ℕ
ended t = bytes t ++ line_feed ∷ []

-- ---- what is said of a part that is one line, from a line's start

one_line : (text : List ℕ) → has line_feed text ≡ false → lines_of (text ++ line_feed ∷ []) ≡ line_of text ∷ []
unfolding lines_of feed_of none_has has up_to
one_line text h = ap (map line_of) (feed_only (text ∷ []) [] (rw h) refl).0

from_start : (held : List ℕ) (b : Begun) → b ≡ start → (part : List ℕ) → told (state_in held b) (pieces line_feed part) ≡ lines_of part
unfolding state_in
from_start held b e part = rw e (start_lines part)

says : (asked : Asked) (n : ℕ) (l : Line) → checks_from asked n (l ∷ []) ≡ said_of asked n l
unfolding checks_from
says asked n l = append-nil (said_of asked n l)

said : (κs : _) (a : _) (r : _) (s : _) → check.Post κs a r s → a.1.1.0.begun ≡ start → (text : List ℕ) → has line_feed text ≡ false → a.1.1.1.0.now ≡ text ++ line_feed ∷ []
    → take r.size s.1.1.1.1.0.now ≡ said_of a.1.0 (suc a.1.1.0.lines) (line_of text)
said κs a r s p b text h e =
    let n = suc a.1.1.0.lines in
    let l : told (state_in a.0.now a.1.1.0.begun) (pieces line_feed a.1.1.1.0.now) ≡ line_of text ∷ [] =
    from_start a.0.now a.1.1.0.begun b a.1.1.1.0.now ∙ ap lines_of e ∙ one_line text h in
    the_text p.0 ∙ ap (checks_from a.1.0 n) l ∙ says a.1.0 n (line_of text)

-- and how it is counted
counts : (κs : _) (a : _) (r : _) (s : _) → check.Post κs a r s → a.1.1.0.begun ≡ start → (text : List ℕ) → has line_feed text ≡ false → a.1.1.1.0.now ≡ text ++ line_feed ∷ []
    → (r.sums.lines ≡ a.1.1.0.lines + 1) × (r.sums.read ≡ a.1.1.0.read + reads_in a.1.0.rule (line_of text ∷ []))
counts κs a r s p b text h e =
    let l : told (state_in a.0.now a.1.1.0.begun) (pieces line_feed a.1.1.1.0.now) ≡ line_of text ∷ [] =
    from_start a.0.now a.1.1.0.begun b a.1.1.1.0.now ∙ ap lines_of e ∙ one_line text h in
    (p.0.lines ∙ rw l, p.0.read ∙ rw l)

-- ---- lines of document 01

abbrev line1 : String
line1 = "000106081500KZAATZ QQX12/101 310 240 3015N/08430W"

abbrev line5 : String
line5 = "000506081900KZAATZ QQX12 315 250 3020N/08430W"

abbrev beat : String
beat = "000006143655KZMAHB"

-- and lines of the old feed, without the last letter of the aircraft and with it
abbrev departure : String
departure = "143655ZDZ QQX12/101 C172 ABC D0816 DEF 0930"

abbrev lettered : String
lettered = "143655ZDZ QQX12/101 C172/A ABC D0816 DEF 0930"

-- what is said of them
abbrev Told : Type 0
Told =
    (said_of (every_line New) 1 (line_of (bytes line1)) ≡ ended "1 0 0 TZ QQX12")
    × (said_of (refused_lines New) 1 (line_of (bytes line1)) ≡ [])
    × (said_of (refused_lines New) 5 (line_of (bytes line5)) ≡ ended "5 9 1 - -")
    × (said_of (every_line New) 6 (line_of (bytes beat)) ≡ ended "6 0 0 HB -")
    × (reads_in New (line_of (bytes line1) ∷ []) ≡ 1)
    × (reads_in New (line_of (bytes line5) ∷ []) ≡ 0)
    × (said_of (every_line Old) 1 (line_of (bytes departure)) ≡ ended "1 0 0 DZ QQX12")
    × (said_of (every_line Old) 1 (line_of (bytes lettered)) ≡ ended "1 9 2 - -")

told_them : Told
unfolding said_of is_taken check_of reads_in line_of line_text part_text text_of digits byte_of decimal width_by padded places read_by type_by head_of rest_of body_read body_from type_of
    all_in answer_by values_by table_by kinds_of count_in is_count count_with filled values_from answer_from counted answers values answer_of values_of plain trace_of marks_of read_kind
    read_in follows spaced fields_of aircraft_by aircraft_of plain_of ident_from ident_of tz_ident_of is_pair_form pair_of word_of is_form is_stamp is_old_stamp is_key is_ident is_tz_ident
    is_clock is_time is_position up_to has before after joins is_of fits fits_any one_of run within pieces is_digit_to digit_of is_numeral number packed value code_of all is_digit
    is_letter is_alnum
told_them = (refl, refl, refl, refl, refl, refl, refl, refl)

-- a text without a line feed
clean_1 : has line_feed (bytes line1) ≡ false
unfolding has up_to
clean_1 = refl

clean_5 : has line_feed (bytes line5) ≡ false
unfolding has up_to
clean_5 = refl

clean_beat : has line_feed (bytes beat) ≡ false
unfolding has up_to
clean_beat = refl

clean_departure : has line_feed (bytes departure) ≡ false
unfolding has up_to
clean_departure = refl

clean_lettered : has line_feed (bytes lettered) ≡ false
unfolding has up_to
clean_lettered = refl

-- ---- wrong answers of `check`

-- the first line's number is 1, and the key is without its computer number
pub counts_from_0_or_shows_101 : (κs : _) (a : _) (r : _) (s : _) → check.Post κs a r s → a.1.0 ≡ every_line New → a.1.1.0.begun ≡ start → a.1.1.0.lines ≡ 0 → a.1.1.1.0.now ≡ ended line1
    → take r.size s.1.1.1.1.0.now ≡ ended "1 0 0 TZ QQX12"
counts_from_0_or_shows_101 κs a r s p o b n e = said κs a r s p b (bytes line1) clean_1 e ∙ rw (o, n) told_them.0

-- where only the refused are asked for, nothing is said of a line that reads
pub says_a_line_that_reads : (κs : _) (a : _) (r : _) (s : _) → check.Post κs a r s → a.1.0 ≡ refused_lines New → a.1.1.0.begun ≡ start → a.1.1.0.lines ≡ 0 → a.1.1.1.0.now ≡ ended line1
    → take r.size s.1.1.1.1.0.now ≡ []
says_a_line_that_reads κs a r s p o b n e = said κs a r s p b (bytes line1) clean_1 e ∙ rw (o, n) told_them.1

-- and a refused one is not left out
pub refused_left_out : (κs : _) (a : _) (r : _) (s : _) → check.Post κs a r s → a.1.0 ≡ refused_lines New → a.1.1.0.begun ≡ start → a.1.1.0.lines ≡ 4 → a.1.1.1.0.now ≡ ended line5
    → take r.size s.1.1.1.1.0.now ≡ ended "5 9 1 - -"
refused_left_out κs a r s p o b n e = said κs a r s p b (bytes line5) clean_5 e ∙ rw (o, n) told_them.2

-- a heartbeat has a type, and no key
pub heartbeat_with_a_key : (κs : _) (a : _) (r : _) (s : _) → check.Post κs a r s → a.1.0 ≡ every_line New → a.1.1.0.begun ≡ start → a.1.1.0.lines ≡ 5 → a.1.1.1.0.now ≡ ended beat
    → take r.size s.1.1.1.1.0.now ≡ ended "6 0 0 HB -"
heartbeat_with_a_key κs a r s p o b n e = said κs a r s p b (bytes beat) clean_beat e ∙ rw (o, n) told_them.3

-- READ counts the lines that read, and LINES all of them
pub a_line_that_reads_not_counted : (κs : _) (a : _) (r : _) (s : _) → check.Post κs a r s → a.1.0.rule ≡ New → a.1.1.0.begun ≡ start → a.1.1.1.0.now ≡ ended line1
    → (r.sums.lines ≡ a.1.1.0.lines + 1) × (r.sums.read ≡ a.1.1.0.read + 1)
a_line_that_reads_not_counted κs a r s p o b e = let c = counts κs a r s p b (bytes line1) clean_1 e in (c.0, c.1 ∙ rw (o, told_them.4))

pub refused_counted_as_read : (κs : _) (a : _) (r : _) (s : _) → check.Post κs a r s → a.1.0.rule ≡ New → a.1.1.0.begun ≡ start → a.1.1.1.0.now ≡ ended line5
    → (r.sums.lines ≡ a.1.1.0.lines + 1) × (r.sums.read ≡ a.1.1.0.read + 0)
refused_counted_as_read κs a r s p o b e = let c = counts κs a r s p b (bytes line5) clean_5 e in (c.0, c.1 ∙ rw (o, told_them.5))

-- ---- and of the old feed

-- "a line is six digits HHMMSS, one capital for the center, a type .., and the body"
pub old_line_refused : (κs : _) (a : _) (r : _) (s : _) → check.Post κs a r s → a.1.0 ≡ every_line Old → a.1.1.0.begun ≡ start → a.1.1.0.lines ≡ 0 → a.1.1.1.0.now ≡ ended departure
    → take r.size s.1.1.1.1.0.now ≡ ended "1 0 0 DZ QQX12"
old_line_refused κs a r s p o b n e = said κs a r s p b (bytes departure) clean_departure e ∙ rw (o, n) told_them.6

-- "An aircraft field with a last letter .. has no reading there": its place is 2
pub old_line_with_a_letter_read : (κs : _) (a : _) (r : _) (s : _) → check.Post κs a r s → a.1.0 ≡ every_line Old → a.1.1.0.begun ≡ start → a.1.1.0.lines ≡ 0 → a.1.1.1.0.now ≡ ended lettered
    → take r.size s.1.1.1.1.0.now ≡ ended "1 9 2 - -"
old_line_with_a_letter_read κs a r s p o b n e = said κs a r s p b (bytes lettered) clean_lettered e ∙ rw (o, n) told_them.7

-- ---- and of both

-- "line over 2,048 bytes" is 2 under both rules, whether all are asked for or the refused only
over : (asked : Asked) (text : List ℕ) → length text ≡ 2049 → said_of asked 2 (line_of text) ≡ ended "2 2 0 - -"
unfolding said_of is_taken check_of line_of line_text decimal width_by padded places byte_of
over asked text e = rw e (go asked.refused)
  where
    go : (b : Bool) → cond (b && false) [] (saying 2 2 0 hyphen hyphen) ≡ ended "2 2 0 - -"
    go true = refl
    go false = refl

pub overlong_answered_0 : (κs : _) (a : _) (r : _) (s : _) → check.Post κs a r s → a.1.1.0.begun ≡ start → a.1.1.0.lines ≡ 1
    → (text : List ℕ) → has line_feed text ≡ false → length text ≡ 2049 → a.1.1.1.0.now ≡ text ++ line_feed ∷ [] → take r.size s.1.1.1.1.0.now ≡ ended "2 2 0 - -"
overlong_answered_0 κs a r s p b n text h l e = said κs a r s p b text h e ∙ rw n (over a.1.0 text l)

-- ---- wrong answers of `end`

-- a begun line, overlong or not, is 17
torn_said : torn_in 2 Mark ≡ ended "2 17 0 - -"
unfolding torn_in line_text decimal width_by padded places byte_of
torn_said = refl

pub end_answers_0 : (κs : _) (a : _) (r : _) (s : _) → end.Post κs a r s → a.1.0.begun ≡ Overlong → a.1.0.lines ≡ 1 → take r s.1.1.0.now ≡ ended "2 17 0 - -"
unfolding state_in
end_answers_0 κs a r s p b n =
    let t : torn_in (suc a.1.0.lines) (state_in a.0.now a.1.0.begun) ≡ ended "2 17 0 - -" = rw (b, n) torn_said in
    rw p.1.0 (take-spliced a.1.1.0.now _ r p.0) ∙ t

-- at a line's start there is nothing to say
pub end_says_17_at_start : (κs : _) (a : _) (r : _) (s : _) → end.Post κs a r s → a.1.0.begun ≡ Held 0 → (r ≡ 0) × (s.1.1.0.now ≡ a.1.1.0.now)
unfolding state_in torn_in torn_of
end_says_17_at_start κs a r s p b = (p.0 ∙ rw b, p.1.0 ∙ rw b (spliced_none a.1.1.0.now 0))
