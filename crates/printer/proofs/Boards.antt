-- The text of an allowed board, row by row: what is left from a row on, and how long it can be. Assumes nothing.
use mathlib.Core.Path.{◌≡◌, sym, ap, ◌∙◌}
use mathlib.Core.Bool.{true}
use mathlib.Core.List.{List, [], ◌∷◌, ◌++◌}
use Prim.Native.Nat.{ℕ, zero, suc, ◌+◌, ◌*◌, ◌≤◌, ◌<◌}
use native.Mathlib.Nat.{le_of_suc-le-suc, not-suc-le-zero}
use native.Mathlib.Omega.{arith}
use lib.ListN.{length, get_or, drop, length-drop, length-append, drop_of_length-le}
use lib.Seq.{drop-drop}
use Rattle.text.specs.Bytes.{bytes}
use Rattle.text.proofs.Logic.{and_left, and_right}
use Rattle.board.specs.Row.{row_of, is_row, is_row_words}
use Rattle.board.specs.Rows.{all_rows}
use Rattle.board.specs.declared.rows.Row.{Row}
use Rattle.board.specs.Board.{W, rows_of, rows_hold, is_allowed}
use Rattle.board.proofs.Words.{length-rows, row_next, all_read}
use Rattle.board.proofs.Allowed.{cap_is, parts}
use Rattle.rules.specs.Frame.{line_feed}
use Rattle.printer.specs.RowText.{row_text, rows_text}
use Rattle.printer.proofs.Widths.{row_width}
use Rattle.text.specs.Decimal.{decimal}
use Rattle.text.proofs.Decimal.{decimal_short}
use Rattle.printer.specs.Text.{board_text}
use Rattle.printer.specs.Print.{text_in}
use Rattle.printer.specs.Asks.{counted}
use Rattle.printer.proofs.Counts.{counted_size, flights_line}

-- ---- rows

hold_at : (n i : ℕ) (ws : List ℕ) → rows_hold n ws ≡ true → i < n → is_row_words (drop (W * i) ws) ≡ true
unfolding rows_hold
hold_at zero i ws e h = absurd (not-suc-le-zero h)
hold_at (suc n) zero ws e h = and_left (is_row_words ws) (rows_hold n (drop W ws)) e
hold_at (suc n) (suc i) ws e h =
    let z : W + W * i ≡ W * suc i = omega arith in
    ap is_row_words (sym (drop-drop (W * i) W ws ∙ ap (λ (k : ℕ). drop k ws) z))
    ∙ hold_at n i (drop W ws) (and_right (is_row_words ws) (rows_hold n (drop W ws)) e) (le_of_suc-le-suc h)

pub rows_width : (rs : List Row) → all_rows rs ≡ true → length (rows_text rs) ≤ 71 * length rs
unfolding all_rows rows_text
rows_width [] e = omega arith
rows_width (r ∷ rs) e =
    omega (arith, length-append (row_text r) (rows_text rs), row_width r (and_left (is_row r) (all_rows rs) e), rows_width rs (and_right (is_row r) (all_rows rs) e))

-- the rows from row i on, as text
abbrev pub left_of : List ℕ → ℕ → List ℕ
left_of l i = rows_text (drop i (rows_of l))

pub left_next : (l : List ℕ) (i : ℕ) → i < get_or l 0 0 → left_of l i ≡ row_text (row_of (drop (1 + W * i) l)) ++ left_of l (i + 1)
unfolding rows_of rows_text
left_next l i h = rw (row_next l (get_or l 0 0) i h, drop-drop (W * i) 1 l)

pub left_end : (l : List ℕ) (i : ℕ) → get_or l 0 0 ≤ i → left_of l i ≡ []
unfolding rows_text
left_end l i h = rw (drop_of_length-le (rows_of l) {i = i} (rw length-rows h))

-- the line of flights, and the rows
pub text_parts : (l : List ℕ) → text_in l ≡ counted (bytes "FLIGHTS ") (get_or l 0 0) line_feed ++ rows_text (rows_of l)
unfolding board_text
text_parts l = rw (length-rows l, flights_line (get_or l 0 0))

-- ---- an allowed board

module _ (l : List ℕ) (e : is_allowed l ≡ true) where
  pub flights_few : get_or l 0 0 ≤ 256
  flights_few = omega (arith, (parts l e).count, cap_is)

  pub board_long : length l ≡ 2817
  board_long = omega (arith, (parts l e).size, cap_is)

  row_held : (i : ℕ) → i < get_or l 0 0 → is_row_words (drop (1 + W * i) l) ≡ true
  row_held i h = ap is_row_words (sym (drop-drop (W * i) 1 l)) ∙ hold_at (get_or l 0 0) i (drop 1 l) (parts l e).hold h

  rows_short : length (rows_text (rows_of l)) ≤ 71 * 256
  unfolding rows_of
  rows_short =
      let long : W * get_or l 0 0 ≤ length (drop 1 l) = simp length-drop (omega (arith, board_long, flights_few)) in
      omega (arith, rows_width (rows_of l) (all_read (get_or l 0 0) (drop 1 l) (parts l e).hold long), length-rows l, flights_few)

  pub text_size : length (text_in l) ≡ 9 + length (decimal (get_or l 0 0)) + length (rows_text (rows_of l))
  text_size = omega (arith, ap length (text_parts l), length-append (counted (bytes "FLIGHTS ") (get_or l 0 0) line_feed) (rows_text (rows_of l)), counted_size (bytes "FLIGHTS ") (get_or l 0 0) line_feed)

  pub text_short : length (text_in l) ≤ 20000
  text_short = omega (arith, text_size, rows_short, decimal_short (get_or l 0 0))

  -- row i: its words, its line, and what is left after it
  module _ (i : ℕ) (h : i < get_or l 0 0) where
    abbrev pub line : List ℕ
    line = row_text (row_of (drop (1 + W * i) l))

    pub row_whole : 1 + W * i + 11 ≤ length l
    row_whole = omega (arith, flights_few, board_long)

    pub row_good : is_row_words (drop (1 + W * i) l) ≡ true
    row_good = row_held i h

    pub left_size : length (left_of l i) ≡ length line + length (left_of l (i + 1))
    left_size = ap length (left_next l i h) ∙ length-append line (left_of l (i + 1))
