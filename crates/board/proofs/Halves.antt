-- The laws of the search by halves: what a look at one row tells of the rows before it and after it, and what is left. Assumes nothing.
use Prim.Native.Nat.{ℕ, zero, suc, ◌+◌, ◌-◌, ◌/◌, ◌≤◌, ◌<◌}
use native.Mathlib.Nat.{le_of_suc-le-suc, not-suc-le-zero}
use native.Mathlib.Omega.{arith}
use mathlib.Core.Path.{◌≡◌, refl, sym, ap, ◌∙◌}
use mathlib.Core.Bool.{Bool, true, false, cond}
use mathlib.Core.List.{List, [], ◌∷◌}
use borrow.Author.Tests.{leb-true, leb-false, lt-ltb, le-ltb, eq-eqb, ne_eqb}
use lib.Dec.{ltb, leb, eqb}
use lib.ListN.{length, get_or, take, drop, length-drop}
use lib.Seq.{drop-drop, get_or-drop, take_all}
use Rattle.board.specs.Row.{row_of}
use Rattle.board.specs.Rows.{key_of, Rising, Place, At, Gap, further, find_in}
use Rattle.board.specs.Board.{rows_of, is_allowed, found_of}
use Rattle.board.specs.Halving.{shift, place_among, key_at, half, half_from, Left}
use Rattle.board.specs.declared.rows.Row.{Row}
use Rattle.board.proofs.Allowed.{parts}
use Rattle.board.proofs.Lookup.{above_rising}
use Rattle.board.proofs.Order.{rising_test}
use Rattle.board.proofs.Places.{shift_zero, shift_more, above_each, past_first}
use Rattle.board.proofs.Words.{row_next, get_or_read, key_at_lem, length-rows}

-- ---- places further on

shift_shift : (n m : ℕ) (f : Place) → shift n (shift m f) ≡ shift (n + m) f
shift_shift n m (At i) = ap At (omega arith)
shift_shift n m (Gap i) = ap Gap (omega arith)

-- ---- a look at one row

-- a key that is not before that of row i stands, or would go, from row i on
found_from : (rs : List Row) (k i m : ℕ) (d : Row) → Rising rs → i < length rs → i ≤ m → key_of (get_or rs i d) ≤ k
    → find_in (take m rs) k ≡ shift i (find_in (take (m - i) (drop i rs)) k)
found_from [] k i m d up h le q = absurd (not-suc-le-zero h)
found_from (x ∷ xs) k zero m d up h le q =
    let e : m ≡ m - 0 = omega arith in
    shift_zero (find_in (take m (x ∷ xs)) k) ∙ ap (λ (n : ℕ). shift 0 (find_in (take n (x ∷ xs)) k)) e
found_from (x ∷ xs) k (suc i) zero d up h le q = absurd (not-suc-le-zero le)
found_from (x ∷ xs) k (suc i) (suc m) d up h le q =
    let lt : key_of x < k = omega (arith, above_each (key_of x) xs i d up (le_of_suc-le-suc h)) in
    let e : m - i ≡ suc m - suc i = omega arith in
    past_first x (take m xs) k lt
    ∙ ap further (found_from xs k i m d (above_rising (key_of x) xs up) (le_of_suc-le-suc h) (le_of_suc-le-suc le) q)
    ∙ shift_more i (find_in (take (m - i) (drop i xs)) k)
    ∙ ap (λ (n : ℕ). shift (suc i) (find_in (take n (drop i xs)) k)) e

-- a key before that of row i stands, or would go, among the rows before it, whichever rows follow
found_before : (rs : List Row) (k i m : ℕ) (d : Row) → i < length rs → i ≤ m → k < key_of (get_or rs i d)
    → find_in (take m rs) k ≡ find_in (take i rs) k
found_before [] k i m d h le q = absurd (not-suc-le-zero h)
found_before (x ∷ xs) k zero zero d h le q = refl
found_before (x ∷ xs) k zero (suc m) d h le q =
    ap (λ (b : Bool). cond b (further (find_in (take m xs) k)) (cond (eqb (key_of x) k) (At 0) (Gap 0))) (le-ltb (key_of x) k (omega arith))
    ∙ ap (λ (b : Bool). cond b (At 0) (Gap 0)) (ne_eqb (key_of x) k (λ e. omega arith))
found_before (x ∷ xs) k (suc i) zero d h le q = absurd (not-suc-le-zero le)
found_before (x ∷ xs) k (suc i) (suc m) d h le q =
    ap (λ (f : Place). cond (ltb (key_of x) k) (further f) (cond (eqb (key_of x) k) (At 0) (Gap 0)))
    (found_before xs k i m d (le_of_suc-le-suc h) (le_of_suc-le-suc le) q)

rising_drop : (n : ℕ) (rs : List Row) → Rising rs → Rising (drop n rs)
rising_drop zero rs up = up
rising_drop (suc n) [] up = tt
rising_drop (suc n) (x ∷ xs) up = rising_drop n xs (above_rising (key_of x) xs up)

-- ---- the half that is left of a range tells what the range told

module _ (rs : List Row) (k first width i : ℕ) (d : Row) (h : i < width) (in_rows : first + width ≤ length rs) where
  right_half : Rising rs → key_of (get_or rs (first + i) d) ≤ k → place_among rs k (first + i) (width - i) ≡ place_among rs k first width
  right_half up q =
      sym (ap (shift first) (found_from (drop first rs) k i width d (rising_drop first rs up) (simp length-drop (omega arith)) (omega arith) (rw get_or-drop q))
      ∙ shift_shift first i (find_in (take (width - i) (drop i (drop first rs))) k)
      ∙ ap (λ (x : List Row). shift (first + i) (find_in (take (width - i) x) k)) (drop-drop i first rs))

  left_half : (m : ℕ) → i ≤ m → k < key_of (get_or rs (first + i) d) → place_among rs k first m ≡ place_among rs k first width
  left_half m le q =
      let short : i < length (drop first rs) = simp length-drop (omega arith) in
      let before : k < key_of (get_or (drop first rs) i d) = rw get_or-drop q in
      ap (shift first) (found_before (drop first rs) k i m d short le before ∙ sym (found_before (drop first rs) k i width d short (omega arith) before))

module _ (l : List ℕ) (k : ℕ) where
  key_there : (i : ℕ) (d : Row) → i < get_or l 0 0 → key_of (get_or (rows_of l) i d) ≡ key_at l i
  unfolding rows_of
  key_there i d h = ap key_of (get_or_read (get_or l 0 0) i (drop 1 l) d h) ∙ key_at_lem l i

  -- after a look at the middle row
  module _ (first width : ℕ) (h : 1 < width) (in_rows : first + width ≤ get_or l 0 0) where
    pub half_inside : half_from l k first width + half width ≤ first + width
    half_inside = go (leb (key_at l (first + width / 2)) k)
      where
        go : (b : Bool) → cond b (first + width / 2) first + half width ≤ first + width
        go true = omega arith
        go false = omega arith

    pub half_tells : is_allowed l ≡ true → place_among (rows_of l) k (half_from l k first width) (half width) ≡ place_among (rows_of l) k first width
    half_tells t = go (leb (key_at l (first + width / 2)) k) refl
      where
        d : Row
        d = row_of l

        there : key_of (get_or (rows_of l) (first + width / 2) d) ≡ key_at l (first + width / 2)
        there = key_there (first + width / 2) d (omega arith)

        rows : first + width ≤ length (rows_of l)
        rows = rw length-rows in_rows

        go : (b : Bool) → leb (key_at l (first + width / 2)) k ≡ b
            → place_among (rows_of l) k (cond b (first + width / 2) first) (half width) ≡ place_among (rows_of l) k first width
        go true e =
            right_half (rows_of l) k first width (width / 2) d (omega arith) rows (rising_test (rows_of l) (parts l t).rise) (rw there (leb-true _ _ e))
        go false e = left_half (rows_of l) k first width (width / 2) d (omega arith) rows (half width) (omega arith) (rw there (leb-false _ _ e))

  -- ---- all rows, and one row

  place_all : find_in (rows_of l) k ≡ place_among (rows_of l) k 0 (get_or l 0 0)
  place_all = shift_zero _ ∙ ap (λ (x : List Row). shift 0 (find_in x k)) (sym (take_all (get_or l 0 0) (rows_of l) (rw length-rows (omega arith))))

  pub place_none : get_or l 0 0 ≡ 0 → find_in (rows_of l) k ≡ Gap 0
  place_none e = place_all ∙ ap (place_among (rows_of l) k 0) e

  -- what the row tells that is left of all rows is the answer
  pub left_tells : {i : ℕ} {p : Place} → Left l k 0 (get_or l 0 0) i → place_among (rows_of l) k i 1 ≡ p → found_of p ≡ found_of (find_in (rows_of l) k)
  left_tells left q = ap found_of (sym q ∙ left.tells ∙ sym place_all)

  module _ (i : ℕ) (h : i < get_or l 0 0) where
    -- what one row tells, by the two tests of its key
    one_row : place_among (rows_of l) k i 1 ≡ shift i (cond (ltb (key_at l i) k) (Gap 1) (cond (eqb (key_at l i) k) (At 0) (Gap 0)))
    unfolding rows_of
    one_row =
        ap (λ (x : List Row). shift i (find_in (take 1 x) k)) (row_next l (get_or l 0 0) i h)
        ∙ ap (λ (j : ℕ). shift i (cond (ltb j k) (Gap 1) (cond (eqb j k) (At 0) (Gap 0)))) (key_at_lem l i)

    pub place_at : key_at l i ≡ k → place_among (rows_of l) k i 1 ≡ At i
    place_at q =
        let e : i + 0 ≡ i = omega arith in
        one_row ∙ rw (le-ltb (key_at l i) k (omega arith), eq-eqb (key_at l i) k q) (ap At e)

    pub place_after : key_at l i < k → place_among (rows_of l) k i 1 ≡ Gap (i + 1)
    place_after q = one_row ∙ rw (lt-ltb (key_at l i) k q) refl

    pub place_before : k < key_at l i → place_among (rows_of l) k i 1 ≡ Gap i
    place_before q =
        let e : i + 0 ≡ i = omega arith in
        one_row ∙ rw (le-ltb (key_at l i) k (omega arith), ne_eqb (key_at l i) k (λ x. omega arith)) (ap Gap e)
