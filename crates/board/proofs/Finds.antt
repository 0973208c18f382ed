-- The laws of the search for a key and of the walks over a board: one for the start, one for each way that a turn goes,
-- and one for the end. Assumes nothing.
use mathlib.Core.Path.{◌≡◌, sym, ap, ◌∙◌}
use mathlib.Core.Bool.{Bool, true, false, cond, ◌&&◌}
use mathlib.Core.List.{List}
use Prim.Native.Nat.{ℕ, ◌+◌, ◌*◌, ◌-◌, ◌≤◌, ◌<◌}
use native.Mathlib.Numerals.{add-one}
use native.Mathlib.Omega.{arith}
use borrow.Author.Tests.{lt-ltb, le-ltb, eq-eqb, ne_eqb}
use lib.ListN.{get_or, drop, drop_of_length-le}
use lib.Seq.{drop-drop}
use lib.Dec.{ltb, eqb}
use Rattle.board.specs.Row.{row_of, is_row_words}
use Rattle.board.specs.Rows.{key_of, above, rises, Place, At, Gap, further, find_in}
use Rattle.board.specs.declared.rows.Row.{Row}
use Rattle.board.proofs.Order.{rising_test}
use Rattle.board.specs.Halving.{shift}
use Rattle.board.proofs.Places.{find_after}
use Rattle.board.specs.Board.{W, read_rows, rows_of, rows_hold}
use Rattle.board.proofs.Words.{row_next, get_or_read, key_at_lem, length-read, hold_next}

-- ---- where a key stands

add_nought : (i : ℕ) → i + 0 ≡ i
add_nought i = omega arith

module _ (l : List ℕ) (k i : ℕ) (h : i < get_or l 0 0) where
  -- where keys rise, the rows up to one with a smaller key are passed
  pub find_past : rises (rows_of l) ≡ true → get_or l (1 + W * i) 0 < k
      → find_in (rows_of l) k ≡ shift (i + 1) (find_in (drop (i + 1) (rows_of l)) k)
  unfolding rows_of
  find_past up q =
      let r : Row = row_of (drop (W * i) (drop 1 l)) in
      let e : key_of (get_or (rows_of l) i r) ≡ get_or l (1 + W * i) 0 = ap key_of (get_or_read _ i (drop 1 l) r h) ∙ key_at_lem l i in
      rw add-one (find_after (rows_of l) k i r (rising_test (rows_of l) up) (rw length-read h) (rw e q))

  pub find_at : get_or l (1 + W * i) 0 ≡ k → shift i (find_in (drop i (rows_of l)) k) ≡ At i
  unfolding rows_of
  find_at q =
      let r : Row = row_of (drop (W * i) (drop 1 l)) in
      let f : Place = find_in (drop (i + 1) (rows_of l)) k in
      let e : key_of r ≡ k = key_at_lem l i ∙ q in
      ap (λ (x : List Row). shift i (find_in x k)) (row_next l (get_or l 0 0) i h)
      ∙ ap (λ (b : Bool). shift i (cond b (further f) (cond (eqb (key_of r) k) (At 0) (Gap 0)))) (le-ltb (key_of r) k (omega arith))
      ∙ ap (λ (b : Bool). shift i (cond b (At 0) (Gap 0))) (eq-eqb (key_of r) k e)
      ∙ ap At (add_nought i)

  pub find_gap : k ≤ get_or l (1 + W * i) 0 → (get_or l (1 + W * i) 0 ≡ k → ⊥) → shift i (find_in (drop i (rows_of l)) k) ≡ Gap i
  unfolding rows_of
  find_gap q n =
      let r : Row = row_of (drop (W * i) (drop 1 l)) in
      let f : Place = find_in (drop (i + 1) (rows_of l)) k in
      let e : key_of r ≡ get_or l (1 + W * i) 0 = key_at_lem l i in
      ap (λ (x : List Row). shift i (find_in x k)) (row_next l (get_or l 0 0) i h)
      ∙ ap (λ (b : Bool). shift i (cond b (further f) (cond (eqb (key_of r) k) (At 0) (Gap 0)))) (le-ltb (key_of r) k (omega arith))
      ∙ ap (λ (b : Bool). shift i (cond b (At 0) (Gap 0))) (ne_eqb (key_of r) k (λ x. n (sym e ∙ x)))
      ∙ ap Gap (add_nought i)

pub find_end : (l : List ℕ) (k i : ℕ) → get_or l 0 0 ≤ i → shift i (find_in (drop i (rows_of l)) k) ≡ Gap i
unfolding rows_of
find_end l k i h =
    ap (λ (x : List Row). shift i (find_in x k)) (drop_of_length-le (rows_of l) {i = i} (rw length-read h))
    ∙ ap Gap (add_nought i)

-- ---- the keys of the first n rows

module _ (l : List ℕ) (n : ℕ) where
  pub rise_first : 0 < n → rises (read_rows n (drop 1 l)) ≡ above (get_or l 1 0) (drop 1 (read_rows n (drop 1 l)))
  unfolding rises
  rise_first h =
      ap rises (row_next l n 0 h) ∙ ap (λ (k : ℕ). above k (drop 1 (read_rows n (drop 1 l)))) (key_at_lem l 0)

  rise_step : (i last : ℕ) → i < n → above last (drop i (read_rows n (drop 1 l)))
      ≡ (ltb last (get_or l (1 + W * i) 0) && above (get_or l (1 + W * i) 0) (drop (i + 1) (read_rows n (drop 1 l))))
  rise_step i last h =
      ap (above last) (row_next l n i h) ∙ ap (λ (k : ℕ). ltb last k && above k (drop (i + 1) (read_rows n (drop 1 l)))) (key_at_lem l i)

  pub rise_more : (i last : ℕ) → i < n → last < get_or l (1 + W * i) 0
      → above last (drop i (read_rows n (drop 1 l))) ≡ above (get_or l (1 + W * i) 0) (drop (i + 1) (read_rows n (drop 1 l)))
  rise_more i last h q =
      rise_step i last h ∙ ap (λ (b : Bool). b && above (get_or l (1 + W * i) 0) (drop (i + 1) (read_rows n (drop 1 l)))) (lt-ltb last (get_or l (1 + W * i) 0) q)

  pub rise_not : (i last : ℕ) → i < n → get_or l (1 + W * i) 0 ≤ last → above last (drop i (read_rows n (drop 1 l))) ≡ false
  rise_not i last h q =
      rise_step i last h ∙ ap (λ (b : Bool). b && above (get_or l (1 + W * i) 0) (drop (i + 1) (read_rows n (drop 1 l)))) (le-ltb last (get_or l (1 + W * i) 0) q)

  pub rise_end : (i last : ℕ) → n ≤ i → above last (drop i (read_rows n (drop 1 l))) ≡ true
  rise_end i last h = ap (above last) (drop_of_length-le (read_rows n (drop 1 l)) {i = i} (rw length-read h))

-- ---- rows that the board allows

module _ (l : List ℕ) (n : ℕ) where
  -- what is left of the test from row i on
  abbrev pub hold_from : ℕ → Bool
  hold_from i = rows_hold (n - i) (drop (W * i) (drop 1 l))

  pub hold_first : rows_hold n (drop 1 l) ≡ hold_from 0
  hold_first = let e : n ≡ n - 0 = omega arith in ap (λ (k : ℕ). rows_hold k (drop 1 l)) e

  pub hold_more : (i : ℕ) → i < n → is_row_words (drop (1 + W * i) l) ≡ true → hold_from i ≡ hold_from (i + 1)
  hold_more i h t = hold_next n i (drop 1 l) h ∙ ap (λ (b : Bool). b && hold_from (i + 1)) (ap is_row_words (drop-drop (W * i) 1 l) ∙ t)

  pub hold_not : (i : ℕ) → i < n → is_row_words (drop (1 + W * i) l) ≡ false → hold_from i ≡ false
  hold_not i h t = hold_next n i (drop 1 l) h ∙ ap (λ (b : Bool). b && hold_from (i + 1)) (ap is_row_words (drop-drop (W * i) 1 l) ∙ t)

  pub hold_end : (i : ℕ) → n ≤ i → hold_from i ≡ true
  unfolding rows_hold
  hold_end i h = let e : n - i ≡ 0 = omega arith in ap (λ (k : ℕ). rows_hold k (drop (W * i) (drop 1 l))) e
