-- THE LAW of the order of rows: the keys of allowed rows rise byte by byte exactly if their numbers rise.
-- Assumes nothing.
use mathlib.Core.Path.{◌≡◌, refl}
use mathlib.Core.Bool.{true}
use mathlib.Core.List.{List, [], ◌∷◌}
use Prim.Native.Nat.{ℕ, ◌≤◌}
use Prim.Native.Char.{code}
use native.Mathlib.Omega.{arith}
use lib.Dec.{ltb}
use lib.ListN.{length}
use borrow.Author.Tests.{ltb-true, lt-ltb}
use Rattle.text.specs.Class.{all, is_alnum}
use Rattle.text.specs.Text.{text_of}
use Rattle.text.specs.Order.{less}
use Rattle.text.proofs.Logic.{and_left, and_right, true_false, not_fails, same_test}
use Rattle.text.proofs.Laws.{packed_text}
use Rattle.text.proofs.Order.{order, order_back}
use Rattle.shapes.specs.Picture.{is_of, run}
use Rattle.shapes.proofs.Laws.{run_most, run_class}
use Rattle.rules.specs.Form.{is_key}
use Rattle.rules.specs.Kind.{KEY, is_form}
use Rattle.fields.specs.Word.{is_word}
use Rattle.fields.proofs.WordLaws.{word_packed, word_form}
use Rattle.board.specs.Row.{is_row}
use Rattle.board.specs.Rows.{key_of, rises_after, rises_by_bytes, all_rows, Above, Rising, above, rises}
use Rattle.board.specs.declared.rows.Row.{Row}
use Rattle.board.proofs.RowWords.{row_key}

-- ---- two keys

module _ (k : ℕ) (e : is_word KEY k ≡ true) where
  key_run : run (code "a") 2 7 (text_of k) ≡ true
  unfolding is_form is_key
  key_run = let f = word_form KEY k e in not_fails _ (λ q. true_false (rw q at f) refl)

  key_short : length (text_of k) ≤ 12
  key_short = omega (arith, run_most (code "a") 2 7 (text_of k) key_run)

  key_alnum : all is_alnum (text_of k) ≡ true
  unfolding is_of
  key_alnum = run_class (code "a") 2 7 (text_of k) key_run

-- of two keys the one that comes first has the smaller number
pub key_order : (j k : ℕ) → is_word KEY j ≡ true → is_word KEY k ≡ true → less (text_of j) (text_of k) ≡ ltb j k
key_order j k e f =
    let p = packed_text j (word_packed KEY j e) in
    let q = packed_text k (word_packed KEY k f) in
    same_test (less (text_of j) (text_of k)) (ltb j k)
    (λ l. lt-ltb j k (rw (p, q) at (order (text_of j) (text_of k) (key_short j e) (key_alnum j e) (key_short k f) (key_alnum k f) l)))
    (λ l. order_back (text_of j) (text_of k) (key_short j e) (key_alnum j e) (key_short k f) (key_alnum k f) (rw (p, q) (ltb-true j k l)))

-- ---- rows

same_after : (k : ℕ) (rs : List Row) → is_word KEY k ≡ true → all_rows rs ≡ true → rises_after (text_of k) rs ≡ above k rs
unfolding all_rows
same_after k [] e h = refl
same_after k (r ∷ rs) e h =
    let f = row_key r (and_left (is_row r) (all_rows rs) h) in
    rw (key_order k (key_of r) e f, same_after (key_of r) rs f (and_right (is_row r) (all_rows rs) h))

pub order_same : (rs : List Row) → all_rows rs ≡ true → rises_by_bytes rs ≡ rises rs
unfolding all_rows rises_by_bytes rises
order_same [] h = refl
order_same (r ∷ rs) h = same_after (key_of r) rs (row_key r (and_left (is_row r) (all_rows rs) h)) (and_right (is_row r) (all_rows rs) h)

-- ---- the test of rising numbers, and what it tells

above_test : (k : ℕ) (rs : List Row) → above k rs ≡ true → Above k rs
above_test k [] e = tt
above_test k (r ∷ rs) e =
    (ltb-true k (key_of r) (and_left (ltb k (key_of r)) (above (key_of r) rs) e), above_test (key_of r) rs (and_right (ltb k (key_of r)) (above (key_of r) rs) e))

test_above : (k : ℕ) (rs : List Row) → Above k rs → above k rs ≡ true
test_above k [] h = refl
test_above k (r ∷ rs) h = rw (lt-ltb k (key_of r) h.0, test_above (key_of r) rs h.1)

pub rising_test : (rs : List Row) → rises rs ≡ true → Rising rs
unfolding rises
rising_test [] e = tt
rising_test (r ∷ rs) e = above_test (key_of r) rs e

pub test_rising : (rs : List Row) → Rising rs → rises rs ≡ true
unfolding rises
test_rising [] h = refl
test_rising (r ∷ rs) h = test_above (key_of r) rs h
