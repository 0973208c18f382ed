-- What the promises of `planner` require on inputs written out, and so wrong answers that they do not allow: of each, `Post` is the function's
-- `ensures` as it stands in the source, r any result that meets it, s the state at exit. Assumes nothing.
use Rattle.std.specs.Prelude.{None, Ok, Some}
use Prim.Native.Nat.{ℕ}
use mathlib.Core.Bool.{true, false}
use mathlib.Core.List.{List, [], ◌∷◌}
use mathlib.Core.Option.{none}
use mathlib.Core.Path.{◌≡◌, refl, ap, ◌∙◌}
use native.Mathlib.Omega.{arith}
use lib.ListN.{length, replicate}
use Rattle.text.specs.Bytes.{bytes}
use Rattle.text.specs.Class.{all, is_digit, is_letter, is_alnum}
use Rattle.text.specs.Code.{code_of}
use Rattle.text.specs.Number.{is_digit_to, digit_of, is_numeral, number_of as number}
use Rattle.text.specs.Place.{value, all_in}
use Rattle.text.specs.Text.{packed}
use Rattle.shapes.specs.Cut.{up_to, has, before, after, joins}
use Rattle.shapes.specs.Picture.{is_of, fits as fits_picture, fits_any, one_of, run, within}
use Rattle.shapes.specs.Pieces.{pieces}
use Rattle.rules.specs.Form.{is_stamp, is_key, is_ident, is_tz_ident, is_clock, is_time, is_position}
use Rattle.rules.specs.Kind.{is_form}
use Rattle.fields.specs.Aircraft.{plain_of, prefixed_of, aircraft_of, aircraft_by}
use Rattle.fields.specs.Ident.{ident_from, ident_of, tz_ident_of}
use Rattle.fields.specs.MessageType.{type_of}
use Rattle.fields.specs.Pair.{is_pair_form, pair_of}
use Rattle.fields.specs.Word.{word_of}
use Rattle.board.specs.Board.{rows_of, words_of, is_allowed}
use Rattle.board.specs.Rows.{CAP, lookup, look_row, fits, written, struck, is_listed}
use Rattle.board.specs.declared.rows.Arrival.{Arrival}
use Rattle.board.specs.declared.rows.Row.{Row}
use Rattle.board.proofs.Allowed.{cap_is}
use Rattle.board.proofs.Examples.{word, seen, tracked, one_row}
use Rattle.board.proofs.Kept.{fair}
use Rattle.board.proofs.Places.{is_full_lem}
use Rattle.board.proofs.Theorems.{rows_words, allowed_words, words_rows, board_rows, empty_board}
use Rattle.board.proofs.Twins.{written_full}
use Rattle.history.specs.Steps.{by_tz, rows_after}
use Rattle.table.specs.Field.{plain, trace_of, marks_of, read_kind, read_in, follows}
use Rattle.table.specs.Read.{padded, values_from, answer_from, counted, answers, values, answer_of, values_of}
use Rattle.table.specs.Spacing.{ended, fields_of}
use Rattle.table.specs.Table.{count_with, is_count, table_by, kinds_of, count_in, answer_by, values_by}
use Rattle.messages.specs.Body.{body_from}
use Rattle.messages.specs.Read.{body_read}
use Rattle.line.specs.Read.{type_by, head_of, rest_of, read_by, read_of}
use Rattle.planner.specs.Apply.{event_of, line_event, strike_event, answer_to, apply_of, board_after, strike_of, board_struck, apply_number, strike_number, strike_place}
use Rattle.planner.specs.Asked.{asked_by, asked_of}
use Rattle.planner.specs.declared.asks.Asked.TheVariants as asked
use Rattle.planner.proofs.apply.Reads as apply
use Rattle.planner.proofs.apply_allowed.Reads as apply-allowed
use Rattle.planner.proofs.strike.Reads as strike

-- ---- lines of document 01, and what they ask: the first two of its printed example, and its starred heartbeat

abbrev pub tz : List ℕ
tz = bytes "000106081500KZAATZ QQX12/101 310 240 3015N/08430W"

abbrev pub dz : List ℕ
dz = bytes "000206081600KZAADZ QQX12/101 C172/A ABC D0816 DEF 0930"

abbrev pub hb : List ℕ
hb = bytes "000006143655KZMAHB"

abbrev pub due : Arrival
due = record { departure = record { 0 = word "ABC" }; destination = record { 0 = word "DEF" }; clock = record { 0 = word "0930" }; stamp = record { 0 = word "06081600" } }

pub asks : (asked_of tz ≡ Ok (asked.Tz tracked.key seen)) × (asked_of dz ≡ Ok (asked.Dz tracked.key due)) × (asked_of hb ≡ Ok asked.Other)
unfolding asked_of asked_by read_of read_by type_by head_of rest_of body_read body_from type_of all_in answer_by values_by kinds_of table_by count_in is_count count_with padded values_from answer_from counted answers values answer_of values_of
    plain trace_of marks_of read_kind read_in follows ended fields_of plain_of prefixed_of aircraft_of aircraft_by ident_from ident_of tz_ident_of is_pair_form pair_of word_of
    is_form is_stamp is_key is_ident is_tz_ident is_clock is_time is_position up_to has before after joins is_of fits_picture fits_any one_of run within pieces is_digit_to digit_of is_numeral number packed value code_of all is_digit is_letter is_alnum
asks = (refl, refl, refl)

abbrev pub landed : Row
landed = record { key = tracked.key; arrival = Some due; track = None }

-- the words after the first line on a board without rows, and after the second on that board
pub tz_after : (n : ℕ) → n ≡ 2817 → board_after (replicate n 0) tz ≡ words_of (tracked ∷ [])
unfolding board_after line_event rows_after written look_row CAP
tz_after n h = let z = empty_board n h in rw (z.0, z.1, asks.0)

pub dz_after : board_after (words_of (tracked ∷ [])) dz ≡ words_of (landed ∷ [])
unfolding board_after line_event rows_after written packed value code_of is_digit is_letter
dz_after = rw (allowed_words (tracked ∷ []) one_row, rows_words (tracked ∷ []) one_row, asks.1)

-- ---- on a board of 256 other flights: any such board

module _ (l : List ℕ) (a : is_allowed l ≡ true) (c : length (rows_of l) ≡ 256) (o : lookup (word "QQX12") (rows_of l) ≡ none) where
  pub none_fits : fits (rows_of l) (word "QQX12") ≡ false
  none_fits = is_full_lem (word "QQX12") (rows_of l) (fair (rows_of l) (board_rows l a)).rising o (omega (arith, cap_is))

  full_answer : apply_number (answer_to (rows_of l) (asked_of tz)) ≡ 12
  full_answer = rw (asks.0, none_fits)

  full_words : words_of (rows_after (rows_of l) (event_of (asked_of tz))) ≡ l
  unfolding rows_after
  full_words = rw asks.0 (ap words_of (written_full (by_tz (word "QQX12") seen (look_row (word "QQX12") (rows_of l))) (rows_of l) none_fits) ∙ words_rows l a)

-- ---- `apply`

-- a DZ of a flight with a track leaves its row with the arrival entry and no track
pub dz_keeps_the_track : (κs : _) (a : _) (r : _) (s : _) → apply.Post κs a r s → a.0.now ≡ words_of (tracked ∷ []) → a.1.0.now ≡ dz
    → s.0.now ≡ words_of (landed ∷ [])
dz_keeps_the_track κs a r s p e f = p.1.0 ∙ rw (e, f) dz_after

-- a TZ of a flight not listed while 256 others are is answered 12, and every word stays
pub full_is_taken : (κs : _) (a : _) (r : _) (s : _) → apply.Post κs a r s → let l = a.0.now in
    is_allowed l ≡ true → length (rows_of l) ≡ 256 → lookup (word "QQX12") (rows_of l) ≡ none → a.1.0.now ≡ tz → (apply_number r ≡ 12) × (s.0.now ≡ l)
unfolding apply_of board_after line_event
full_is_taken κs a r s p b c o f =
    let l = a.0.now in
    (rw (p.0, f, asks.0, b, none_fits l b c o), p.1.0 ∙ rw (f, b) (full_words l b c o))

-- words that are no board are answered 13, and not 12, whatever the line's type
pub damaged_board_is_full : (κs : _) (a : _) (r : _) (s : _) → apply.Post κs a r s → is_allowed a.0.now ≡ false → a.1.0.now ≡ hb
    → (apply_number r ≡ 13) × (s.0.now ≡ a.0.now)
unfolding apply_of board_after
damaged_board_is_full κs a r s p b f = (rw (p.0, f, asks.2, b), p.1.0 ∙ rw b)

-- ---- `apply_allowed`

-- a TZ on a board without rows writes its track
pub tz_only_nods : (κs : _) (a : _) (r : _) (s : _) → apply-allowed.Post κs a r s → (n : ℕ) → n ≡ 2817 → a.0.now ≡ replicate n 0 → a.1.0.now ≡ tz
    → (apply_number r ≡ 0) × (s.0.now ≡ words_of (tracked ∷ []))
unfolding rows_after written fits look_row CAP
tz_only_nods κs a r s p n h e f = let z = (empty_board n h).1 in (rw (p.answered, e, f, z, asks.0), p.words ∙ rw (e, f, z, asks.0))

-- and answers 12 as `apply` does
pub full_is_taken_allowed : (κs : _) (a : _) (r : _) (s : _) → apply-allowed.Post κs a r s → let l = a.0.now in
    is_allowed l ≡ true → length (rows_of l) ≡ 256 → lookup (word "QQX12") (rows_of l) ≡ none → a.1.0.now ≡ tz → (apply_number r ≡ 12) × (s.0.now ≡ l)
full_is_taken_allowed κs a r s p b c o f =
    let l = a.0.now in
    (rw (p.answered, f) (full_answer l b c o), p.words ∙ rw f (full_words l b c o))

-- ---- `strike`

-- bytes that are no key are answered 9 with place 1, on any board
pub no_key_is_not_listed : (κs : _) (a : _) (r : _) (s : _) → strike.Post κs a r s → a.1.0.now ≡ bytes "1AB" → (strike_number r ≡ 9) × (strike_place r ≡ 1)
unfolding strike_of is_form is_key is_of run all is_letter is_digit is_alnum
no_key_is_not_listed κs a r s p f = (rw (p.0, f), rw (p.0, f))

-- a flight that is not listed is answered 14, and every word stays
pub missing_is_struck : (κs : _) (a : _) (r : _) (s : _) → strike.Post κs a r s → (n : ℕ) → n ≡ 2817 → a.0.now ≡ replicate n 0 → a.1.0.now ≡ bytes "QQX12"
    → (strike_number r ≡ 14) × (s.0.now ≡ replicate n 0)
unfolding strike_of board_struck strike_event rows_after is_listed struck is_form is_key is_of run all is_letter is_digit is_alnum
missing_is_struck κs a r s p n h e f =
    let z = empty_board n h in
    (rw (p.0, e, f, z.0, z.1), p.1.0 ∙ rw (e, f, z.0, z.1) (rw (← z.1) (words_rows (replicate n 0) z.0)))
