-- The laws of rows as words: the words of rows one after the other, and where row i stands. Assumes nothing.
use mathlib.Core.Path.{◌≡◌, refl, sym, ap, ◌∙◌}
use mathlib.Core.Bool.{Bool, true, ◌&&◌}
use mathlib.Core.List.{List, [], ◌∷◌, ◌++◌, append_assoc}
use Prim.Native.Nat.{ℕ, zero, suc, ◌+◌, ◌*◌, ◌-◌, ◌≤◌, ◌<◌}
use native.Mathlib.Numerals.{add-one}
use native.Mathlib.Nat.{le_of_suc-le-suc, not-suc-le-zero}
use native.Mathlib.Omega.{arith}
use lib.ListN.{length, get_or, take, drop, length-append, length-drop}
use lib.Seq.{take-add, drop-drop, drop-cons, get_or-drop, drop_at}
use Rattle.text.proofs.Logic.{and_left, and_right}
use Rattle.board.specs.Row.{row_words, row_of, is_row, is_row_words}
use Rattle.board.specs.Rows.{key_of, all_rows}
use Rattle.board.specs.declared.rows.Row.{Row}
use Rattle.board.proofs.RowWords.{length-row, row_back, row_words_lem, words_row}
use Rattle.board.specs.Board.{W, flat, read_rows, rows_of, rows_hold}

pub length-flat : (rs : List Row) → length (flat rs) ≡ W * length rs
unfolding flat
length-flat [] = refl
length-flat (r ∷ rs) = length-append (row_words r) (flat rs) ∙ omega (arith, length-flat rs, length-row r)

pub flat_append : (xs ys : List Row) → flat (xs ++ ys) ≡ flat xs ++ flat ys
unfolding flat
flat_append [] ys = refl
flat_append (r ∷ xs) ys = ap (λ (z : List ℕ). row_words r ++ z) (flat_append xs ys) ∙ sym (append_assoc (row_words r) (flat xs) (flat ys))

pub flat_cons : (r : Row) (rs : List Row) → flat (r ∷ rs) ≡ row_words r ++ flat rs
unfolding flat
flat_cons r rs = refl

pub length-read : (n : ℕ) (ws : List ℕ) → length (read_rows n ws) ≡ n
unfolding read_rows
length-read zero ws = refl
length-read (suc n) ws = ap suc (length-read n (drop W ws))

pub length-rows : (l : List ℕ) → length (rows_of l) ≡ get_or l 0 0
unfolding rows_of
length-rows l = length-read (get_or l 0 0) (drop 1 l)

-- ---- words, the rows that they show, and their words again

pub flat_read : (n : ℕ) (ws : List ℕ) → rows_hold n ws ≡ true → W * n ≤ length ws → flat (read_rows n ws) ≡ take (W * n) ws
unfolding read_rows flat rows_hold
flat_read zero ws t h = refl
flat_read (suc n) ws t h =
    let e : W * suc n ≡ W + W * n = omega arith in
    ap (λ (z : List ℕ). z ++ flat (read_rows n (drop W ws))) (words_row ws (omega arith) (and_left (is_row_words ws) (rows_hold n (drop W ws)) t)).0
    ∙ ap (λ (z : List ℕ). take W ws ++ z) (flat_read n (drop W ws) (and_right (is_row_words ws) (rows_hold n (drop W ws)) t) (simp length-drop (omega arith)))
    ∙ sym (ap (λ (k : ℕ). take k ws) e ∙ take-add W (W * n) ws)

pub all_read : (n : ℕ) (ws : List ℕ) → rows_hold n ws ≡ true → W * n ≤ length ws → all_rows (read_rows n ws) ≡ true
unfolding read_rows all_rows rows_hold
all_read zero ws t h = refl
all_read (suc n) ws t h =
    ap (λ (b : Bool). b && all_rows (read_rows n (drop W ws))) (words_row ws (omega arith) (and_left (is_row_words ws) (rows_hold n (drop W ws)) t)).1
    ∙ all_read n (drop W ws) (and_right (is_row_words ws) (rows_hold n (drop W ws)) t) (simp length-drop (omega arith))

-- ---- rows, their words, and the rows that these show

pub read_flat : (rs : List Row) (z : List ℕ) → all_rows rs ≡ true → read_rows (length rs) (flat rs ++ z) ≡ rs
unfolding read_rows flat all_rows
read_flat [] z t = refl
read_flat (r ∷ rs) z t =
    let ws : List ℕ = row_words r ++ (flat rs ++ z) in
    ap (λ (x : List ℕ). row_of x ∷ read_rows (length rs) (drop W x)) (append_assoc (row_words r) (flat rs) z)
    ∙ ap (λ (x : Row). x ∷ read_rows (length rs) (drop W ws)) (row_back r (flat rs ++ z) (and_left (is_row r) (all_rows rs) t))
    ∙ ap (λ (x : List ℕ). r ∷ read_rows (length rs) x) (drop_at (row_words r) (flat rs ++ z) W (length-row r))
    ∙ ap (λ (x : List Row). r ∷ x) (read_flat rs z (and_right (is_row r) (all_rows rs) t))

pub hold_flat : (rs : List Row) (z : List ℕ) → all_rows rs ≡ true → rows_hold (length rs) (flat rs ++ z) ≡ true
unfolding rows_hold flat all_rows
hold_flat [] z t = refl
hold_flat (r ∷ rs) z t =
    let ws : List ℕ = row_words r ++ (flat rs ++ z) in
    ap (λ (x : List ℕ). is_row_words x && rows_hold (length rs) (drop W x)) (append_assoc (row_words r) (flat rs) z)
    ∙ ap (λ (b : Bool). b && rows_hold (length rs) (drop W ws)) (row_words_lem r (flat rs ++ z) (and_left (is_row r) (all_rows rs) t))
    ∙ ap (rows_hold (length rs)) (drop_at (row_words r) (flat rs ++ z) W (length-row r))
    ∙ hold_flat rs z (and_right (is_row r) (all_rows rs) t)

-- ---- row i

pub get_or_read : (n i : ℕ) (ws : List ℕ) (d : Row) → i < n → get_or (read_rows n ws) i d ≡ row_of (drop (W * i) ws)
unfolding read_rows
get_or_read zero i ws d h = absurd (not-suc-le-zero h)
get_or_read (suc n) zero ws d h = refl
get_or_read (suc n) (suc i) ws d h =
    let e : W + W * i ≡ W * suc i = omega arith in
    get_or_read n i (drop W ws) d (le_of_suc-le-suc h) ∙ ap row_of (drop-drop (W * i) W ws ∙ ap (λ (k : ℕ). drop k ws) e)

-- a key, where it stands among the words
pub key_at_lem : (l : List ℕ) (i : ℕ) → key_of (row_of (drop (W * i) (drop 1 l))) ≡ get_or l (1 + W * i) 0
unfolding row_of
key_at_lem l i =
    let e : 1 + (W * i + 0) ≡ 1 + W * i = omega arith in
    get_or-drop (W * i) (drop 1 l) 0 0 ∙ get_or-drop 1 l (W * i + 0) 0 ∙ ap (λ (k : ℕ). get_or l k 0) e

-- what is left of the rows from row i on: row i, and what is left from row i + 1 on
pub row_next : (l : List ℕ) (n i : ℕ) → i < n
    → drop i (read_rows n (drop 1 l)) ≡ row_of (drop (W * i) (drop 1 l)) ∷ drop (i + 1) (read_rows n (drop 1 l))
row_next l n i h =
    let rs : List Row = read_rows n (drop 1 l) in
    let r : Row = row_of (drop (W * i) (drop 1 l)) in
    drop-cons rs i r (rw length-read h)
    ∙ ap (λ (x : Row). x ∷ drop (suc i) rs) (get_or_read n i (drop 1 l) r h)
    ∙ ap (λ (k : ℕ). r ∷ drop k rs) (sym (add-one i))

-- the row that the words from row i on show
pub row_there : (l : List ℕ) (i : ℕ) (d : Row) → i < get_or l 0 0 → row_of (drop (1 + W * i) l) ≡ get_or (rows_of l) i d
unfolding rows_of
row_there l i d h = ap row_of (sym (drop-drop (W * i) 1 l)) ∙ sym (get_or_read (get_or l 0 0) i (drop 1 l) d h)

-- what is left of the test from row i on: row i, and what is left from row i + 1 on
pub hold_next : (n i : ℕ) (ws : List ℕ) → i < n
    → rows_hold (n - i) (drop (W * i) ws) ≡ (is_row_words (drop (W * i) ws) && rows_hold (n - (i + 1)) (drop (W * (i + 1)) ws))
unfolding rows_hold
hold_next n i ws h =
    let e : n - i ≡ suc (n - (i + 1)) = omega arith in
    let f : W * i + W ≡ W * (i + 1) = omega arith in
    ap (λ (k : ℕ). rows_hold k (drop (W * i) ws)) e
    ∙ ap (λ (x : List ℕ). is_row_words (drop (W * i) ws) && rows_hold (n - (i + 1)) x) (drop-drop W (W * i) ws ∙ ap (λ (k : ℕ). drop k ws) f)
