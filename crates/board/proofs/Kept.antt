-- Rows that a board allows stay so: a row that is allowed is written, or a flight is struck off. And the entries that a key shows.
-- Assumes nothing.
use Prim.Native.Nat.{ℕ, ◌≤◌}
use mathlib.Core.Path.{◌≡◌, refl, sym, ◌∙◌}
use mathlib.Core.Bool.{Bool, true, false, cond, ◌&&◌}
use mathlib.Core.List.{List, [], ◌∷◌}
use mathlib.Core.Option.{Option, none, some}
use borrow.Author.Tests.{leb-true, le-leb}
use lib.Dec.{eqb, leb, ltb}
use lib.ListN.{length}
use Rattle.text.proofs.Logic.{and_left, and_right, true_false}
use Rattle.rules.specs.Kind.{KEY}
use Rattle.fields.specs.Word.{is_word}
use Rattle.board.specs.Row.{is_arrival, is_track, has_entry, is_row}
use Rattle.board.specs.Rows.{CAP, key_of, rises_by_bytes, all_rows, is_board, Rising, lookup, or_empty, look_row, Place, At, Gap, find_in, written, fits, struck_at, is_at, struck, is_listed}
use Rattle.board.specs.declared.rows.Row.{Row}
use Rattle.board.proofs.Order.{order_same, rising_test, test_rising}
use Rattle.board.proofs.Twins.{placed, without, written_placed, written_full, struck_without}
use Rattle.board.proofs.Rising.{written_rising, struck_rising}
use Rattle.board.proofs.Places.{written_room, struck_room}

-- ---- rows one by one

all_cons : (r : Row) (rs : List Row) → is_row r ≡ true → all_rows rs ≡ true → all_rows (r ∷ rs) ≡ true
unfolding all_rows
all_cons r rs p q = rw (p, q) refl

all_head : (r : Row) (rs : List Row) → all_rows (r ∷ rs) ≡ true → is_row r ≡ true
unfolding all_rows
all_head r rs = and_left (is_row r) (all_rows rs)

all_tail : (r : Row) (rs : List Row) → all_rows (r ∷ rs) ≡ true → all_rows rs ≡ true
unfolding all_rows
all_tail r rs = and_right (is_row r) (all_rows rs)

all_placed : (r : Row) (rs : List Row) → is_row r ≡ true → all_rows rs ≡ true → all_rows (placed r rs) ≡ true
unfolding placed
all_placed r [] p q = all_cons r [] p q
all_placed r (x ∷ xs) p q =
    go (ltb (key_of x) (key_of r)) (eqb (key_of x) (key_of r)) (all_head x xs q) (all_tail x xs q) (all_placed r xs p (all_tail x xs q))
  where
    go : (b b' : Bool) → is_row x ≡ true → all_rows xs ≡ true → all_rows (placed r xs) ≡ true
        → all_rows (cond b (x ∷ placed r xs) (cond b' (r ∷ xs) (r ∷ x ∷ xs))) ≡ true
    go true b' f g ih = all_cons x (placed r xs) f ih
    go false true f g ih = all_cons r xs p g
    go false false f g ih = all_cons r (x ∷ xs) p q

all_without : (k : ℕ) (rs : List Row) → all_rows rs ≡ true → all_rows (without k rs) ≡ true
unfolding without
all_without k [] q = q
all_without k (x ∷ xs) q = go (ltb (key_of x) k) (eqb (key_of x) k) (all_without k xs (all_tail x xs q))
  where
    go : (b b' : Bool) → all_rows (without k xs) ≡ true → all_rows (cond b (x ∷ without k xs) (cond b' xs (x ∷ xs))) ≡ true
    go true b' ih = all_cons x (without k xs) (all_head x xs q) ih
    go false true ih = all_tail x xs q
    go false false ih = q

pub written_allowed : (r : Row) (rs : List Row) → is_row r ≡ true → all_rows rs ≡ true → all_rows (written rs r) ≡ true
written_allowed r rs p q = go (fits rs (key_of r)) refl
  where
    go : (b : Bool) → fits rs (key_of r) ≡ b → all_rows (written rs r) ≡ true
    go true e = rw (written_placed r rs e) (all_placed r rs p q)
    go false e = rw (written_full r rs e) q

pub struck_allowed : (k : ℕ) (rs : List Row) → all_rows rs ≡ true → all_rows (struck rs k) ≡ true
struck_allowed k rs q = rw (struck_without k rs) (all_without k rs q)

-- ---- the entries that a key shows

row_arrival : (r : Row) → is_row r ≡ true → is_arrival r.arrival ≡ true
unfolding is_row
row_arrival r e =
    and_right (is_word KEY (key_of r)) _
    (and_left (is_word KEY (key_of r) && is_arrival r.arrival) (is_track r.track)
    (and_left (is_word KEY (key_of r) && is_arrival r.arrival && is_track r.track) (has_entry r.arrival r.track) e))

row_track : (r : Row) → is_row r ≡ true → is_track r.track ≡ true
unfolding is_row
row_track r e =
    and_right (is_word KEY (key_of r) && is_arrival r.arrival) (is_track r.track)
    (and_left (is_word KEY (key_of r) && is_arrival r.arrival && is_track r.track) (has_entry r.arrival r.track) e)

pub shown_allowed : (k : ℕ) (rs : List Row) (r : Row) → all_rows rs ≡ true → lookup k rs ≡ some r → is_row r ≡ true
shown_allowed k [] r q e = cc
shown_allowed k (x ∷ xs) r q e = go (eqb (key_of x) k) e (shown_allowed k xs r (all_tail x xs q))
  where
    go : (b : Bool) → cond b (some x) (lookup k xs) ≡ some r → (lookup k xs ≡ some r → is_row r ≡ true) → is_row r ≡ true
    go true e ih = let s : x ≡ r = cc in rw (← s) (all_head x xs q)
    go false e ih = ih e

pub looked_arrival : (k : ℕ) (rs : List Row) → all_rows rs ≡ true → is_arrival (look_row k rs).arrival ≡ true
unfolding look_row is_arrival
looked_arrival k rs q = go (lookup k rs) refl
  where
    go : (o : Option Row) → lookup k rs ≡ o → is_arrival (or_empty k o).arrival ≡ true
    go none e = refl
    go (some r) e = row_arrival r (shown_allowed k rs r q e)

pub looked_track : (k : ℕ) (rs : List Row) → all_rows rs ≡ true → is_track (look_row k rs).track ≡ true
unfolding look_row is_track
looked_track k rs q = go (lookup k rs) refl
  where
    go : (o : Option Row) → lookup k rs ≡ o → is_track (or_empty k o).track ≡ true
    go none e = refl
    go (some r) e = row_track r (shown_allowed k rs r q e)

-- ---- rows that a board allows, in parts

pub record Fair (rs : List Row) : Type 0 where
  pub count : length rs ≤ CAP
  pub rows : all_rows rs ≡ true
  pub rising : Rising rs

pub fair : (rs : List Row) → is_board rs ≡ true → Fair rs
unfolding is_board
fair rs e =
    let few : Bool = leb (length rs) CAP in
    let f = and_left (few && all_rows rs) (rises_by_bytes rs) e in
    let a = and_right few (all_rows rs) f in
    record {
      count = leb-true (length rs) CAP (and_left few (all_rows rs) f);
      rows = a;
      rising = rising_test rs (sym (order_same rs a) ∙ and_right (few && all_rows rs) (rises_by_bytes rs) e);
    }

pub board_of : (rs : List Row) → Fair rs → is_board rs ≡ true
unfolding is_board
board_of rs p = rw (le-leb (length rs) CAP p.count, p.rows, order_same rs p.rows, test_rising rs p.rising) refl

pub keep_written : (rs : List Row) (r : Row) → is_board rs ≡ true → is_row r ≡ true → is_board (written rs r) ≡ true
keep_written rs r e h =
    let p = fair rs e in
    board_of (written rs r) (record { count = written_room r rs p.count; rows = written_allowed r rs h p.rows; rising = written_rising r rs p.rising })

pub keep_struck : (rs : List Row) (k : ℕ) → is_board rs ≡ true → is_board (struck rs k) ≡ true
keep_struck rs k e =
    let p = fair rs e in
    board_of (struck rs k) (record { count = struck_room k rs p.count; rows = struck_allowed k rs p.rows; rising = struck_rising k rs p.rising })

-- ---- a flight that is not listed is not struck off

missing_is : (f : Place) (rs : List Row) → is_at f ≡ false → struck_at f rs ≡ rs
missing_is (At i) rs e = true_false refl e
missing_is (Gap i) rs e = refl

pub struck_missing : (k : ℕ) (rs : List Row) → is_listed rs k ≡ false → struck rs k ≡ rs
unfolding struck is_listed
struck_missing k rs e = missing_is (find_in rs k) rs e
