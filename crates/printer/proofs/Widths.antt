-- How long the line of an allowed row can be: at most 71 bytes, the line feed among them. Assumes nothing.
use Rattle.std.specs.Prelude.{None, Option, Some}
use mathlib.Core.Path.{◌≡◌}
use mathlib.Core.Bool.{true}
use mathlib.Core.List.{List, [], ◌∷◌, ◌++◌}
use Prim.Native.Nat.{ℕ, ◌+◌, ◌≤◌}
use native.Mathlib.Omega.{arith}
use lib.ListN.{length, length-append}
use Rattle.text.specs.Text.{text_of}
use Rattle.rules.specs.Kind.{STAMP, KEY, POINT, ARRIVAL, GROUND_SPEED, TRACK_LEVEL, POSITION, is_form}
use Rattle.rules.proofs.Widths.{key_width, point_width, stamp_width, arrival_width, speed_width, level_width, position_width}
use Rattle.fields.specs.Word.{is_word}
use Rattle.fields.proofs.WordLaws.{word_form}
use Rattle.board.specs.Row.{is_row, is_track}
use Rattle.board.specs.Row as rows
use Rattle.board.specs.declared.rows.Row.{Row}
use Rattle.printer.specs.RowText.{line_text, arrival_parts, track_parts, row_text}
use Rattle.printer.proofs.RowLines.{allowed, arrives, tracks}
use Rattle.board.specs.declared.rows.Arrival.{Arrival}
use Rattle.board.specs.declared.rows.Track.{Track}

-- the bytes of parts, with one more for each
widths : List (List ℕ) → ℕ
widths [] = 0
widths (p ∷ ps) = length p + 1 + widths ps

line_width : (p : List ℕ) (ps : List (List ℕ)) → length (line_text (p ∷ ps)) ≡ length p + 1 + widths ps
unfolding line_text widths
line_width p [] = rw length-append (omega arith)
line_width p (q ∷ ps) = rw length-append (omega (arith, line_width q ps))

-- the words of a kind that an entry has, and their texts
word_width : (k n t : ℕ) → ((s : List ℕ) → is_form k s ≡ true → length s ≤ n) → is_word k t ≡ true → length (text_of t) ≤ n
word_width k n t f e = f (text_of t) (word_form k t e)

arrival_widths : (a : Option Arrival) (ps : List (List ℕ)) → rows.is_arrival a ≡ true → widths (arrival_parts a ++ ps) ≤ 32 + widths ps
unfolding widths
arrival_widths None ps e = omega arith
arrival_widths (Some a) ps e =
    let p = arrives a e in
    omega (arith, point_word a.departure.0 p.departure, point_word a.destination.0 p.destination, word_width ARRIVAL 5 a.clock.0 arrival_width p.clock)
  where
    point_word : (t : ℕ) → is_word POINT t ≡ true → length (text_of t) ≤ 12
    point_word t h = word_width POINT 12 t point_width h

track_widths : (t : Option Track) → is_track t ≡ true → widths (track_parts t) ≤ 31
unfolding widths
track_widths None e = omega arith
track_widths (Some t) e =
    let p = tracks t e in
    omega (
      arith,
      word_width STAMP 8 t.stamp.0 stamp_width p.stamp,
      word_width GROUND_SPEED 3 t.speed.0 speed_width p.speed,
      word_width TRACK_LEVEL 4 t.level.0 level_width p.level,
      word_width POSITION 12 t.position.0 position_width p.position,
    )

-- THE LAW
pub row_width : (r : Row) → is_row r ≡ true → length (row_text r) ≤ 71
unfolding row_text
row_width r e =
    let p = allowed r e in
    omega (
      arith,
      line_width (text_of r.key.0) (arrival_parts r.arrival ++ track_parts r.track),
      word_width KEY 7 r.key.0 key_width p.key,
      arrival_widths r.arrival (track_parts r.track) p.arrival,
      track_widths r.track p.track,
    )
