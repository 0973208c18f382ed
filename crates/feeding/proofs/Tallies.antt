-- What is read of a part and how many line feeds are in it, where the part is cut at its first line feed; and the bounds of the counts.
-- Assumes nothing.
use mathlib.Core.Path.{◌≡◌, refl}
use mathlib.Core.Bool.{Bool, true, false}
use mathlib.Core.List.{List, [], ◌∷◌, ◌++◌}
use Prim.Native.Nat.{ℕ, zero, suc, ◌+◌, ◌-◌, ◌≤◌, ◌<◌}
use native.Mathlib.Omega.{arith}
use lib.Dec.{eqb}
use lib.ListN.{length, drop}
use lib.Seq.{length-take-le, drop-append-add}
use Rattle.shapes.specs.Cut.{up_to}
use Rattle.shapes.specs.Pieces.{grow, pieces}
use Rattle.history.specs.Steps.{Answer, Took, Refused, NoRoom, NotListed, rows_after, answer}
use Rattle.board.specs.declared.rows.Row.{Row}
use Rattle.rules.specs.Frame.{line_feed}
use Rattle.cutter.specs.Feed.{Line}
use Rattle.cutter.specs.State.{State, Bytes}
use Rattle.cutter.specs.Told.{told}
use Rattle.feeding.specs.Tally.{event_of, one, taken_by, line_feeds, read_of}
use Rattle.feeding.specs.Fed.{read_in}

-- ---- what is read

pub read_none : (n : ℕ) → read_of n [] ≡ 0
unfolding read_of
read_none zero = refl
read_none (suc n) = refl

pub read_zero : (s : List ℕ) → read_of 0 s ≡ 0
unfolding read_of
read_zero s = refl

pub read_le : (n : ℕ) (s : List ℕ) → read_of n s ≤ length s
unfolding read_of
read_le zero s = omega arith
read_le (suc n) [] = omega arith
read_le (suc n) (x ∷ s) = go (eqb x line_feed) refl (read_le n s) (read_le (suc n) s)
  where
    go : (b : Bool) → eqb x line_feed ≡ b → read_of n s ≤ length s → read_of (suc n) s ≤ length s → read_of (suc n) (x ∷ s) ≤ suc (length s)
    go true q h k = rw q (omega arith)
    go false q h k = rw q (omega arith)

pub read_length : (n : ℕ) (s : List ℕ) → length (read_in n s) ≡ read_of n s
read_length n s = length-take-le (read_of n s) s (read_le n s)

-- a byte is read where there is one, and a line may be
pub read_some : (n : ℕ) (s : List ℕ) → 0 < n → 0 < length s → 0 < read_of n s
unfolding read_of
read_some zero s h k = absurd (omega arith)
read_some (suc n) [] h k = absurd (omega arith)
read_some (suc n) (x ∷ s) h k = omega arith

-- no line feed: all of it, and no line
pub record Free (n : ℕ) (s : List ℕ) : Type 0 where
  pub used : read_of (suc n) s ≡ length s
  pub text : read_in (suc n) s ≡ s

pub read_free : (n : ℕ) (s : List ℕ) → up_to line_feed s ≡ length s → Free n s
unfolding read_of up_to
read_free n [] e = record { used = refl; text = refl }
read_free n (x ∷ s) e = go (eqb x line_feed) refl (read_free n s)
  where
    go : (b : Bool) → eqb x line_feed ≡ b → (up_to line_feed s ≡ length s → Free n s) → Free n (x ∷ s)
    go true q r = let z : 0 ≡ suc (length s) = rw q at e in absurd (omega arith)
    go false q r =
        let z : suc (up_to line_feed s) ≡ suc (length s) = rw q at e in
        let f = r (omega arith) in
        record { used = rw (q, f.used); text = rw (q, f.text) }

-- a line feed after p: a line is read, and then what is left of it
pub record Cut (n : ℕ) (p t : List ℕ) : Type 0 where
  pub used : read_of (suc n) (p ++ line_feed ∷ t) ≡ length p + 1 + read_of n t
  pub text : read_in (suc n) (p ++ line_feed ∷ t) ≡ p ++ line_feed ∷ read_in n t

pub read_cut : (n : ℕ) (p t : List ℕ) → up_to line_feed p ≡ length p → Cut n p t
unfolding read_of up_to
read_cut n [] t e = record { used = omega arith; text = refl }
read_cut n (x ∷ p) t e = go (eqb x line_feed) refl (read_cut n p t)
  where
    go : (b : Bool) → eqb x line_feed ≡ b → (up_to line_feed p ≡ length p → Cut n p t) → Cut n (x ∷ p) t
    go true q r = let z : 0 ≡ suc (length p) = rw q at e in absurd (omega arith)
    go false q r =
        let z : suc (up_to line_feed p) ≡ suc (length p) = rw q at e in
        let f = r (omega arith) in
        record { used = rw (q, f.used) (omega arith); text = rw (q, f.text) }

pub drop_cut : (p t : List ℕ) → drop (length p + 1) (p ++ line_feed ∷ t) ≡ t
drop_cut p t = drop-append-add p (line_feed ∷ t) 1

-- ---- line feeds

pub feeds_free : (s : List ℕ) → up_to line_feed s ≡ length s → line_feeds s ≡ 0
unfolding line_feeds up_to
feeds_free [] e = refl
feeds_free (x ∷ s) e = go (eqb x line_feed) refl (feeds_free s)
  where
    go : (b : Bool) → eqb x line_feed ≡ b → (up_to line_feed s ≡ length s → line_feeds s ≡ 0) → line_feeds (x ∷ s) ≡ 0
    go true q r = let z : 0 ≡ suc (length s) = rw q at e in absurd (omega arith)
    go false q r = let z : suc (up_to line_feed s) ≡ suc (length s) = rw q at e in rw q (r (omega arith))

pub feeds_cut : (p t : List ℕ) → up_to line_feed p ≡ length p → line_feeds (p ++ line_feed ∷ t) ≡ 1 + line_feeds t
unfolding line_feeds up_to
feeds_cut [] t e = omega arith
feeds_cut (x ∷ p) t e = go (eqb x line_feed) refl (feeds_cut p t)
  where
    go : (b : Bool) → eqb x line_feed ≡ b → (up_to line_feed p ≡ length p → line_feeds (p ++ line_feed ∷ t) ≡ 1 + line_feeds t)
        → line_feeds (x ∷ (p ++ line_feed ∷ t)) ≡ 1 + line_feeds t
    go true q r = let z : 0 ≡ suc (length p) = rw q at e in absurd (omega arith)
    go false q r = let z : suc (up_to line_feed p) ≡ suc (length p) = rw q at e in rw q (r (omega arith))

feeds_le : (s : List ℕ) → line_feeds s ≤ length s
unfolding line_feeds
feeds_le [] = omega arith
feeds_le (x ∷ s) = go (eqb x line_feed) refl (feeds_le s)
  where
    go : (b : Bool) → eqb x line_feed ≡ b → line_feeds s ≤ length s → line_feeds (x ∷ s) ≤ suc (length s)
    go true q h = rw q (omega arith)
    go false q h = rw q (omega arith)

-- not more lines than bytes, nor than may be read
pub feeds_read : (n : ℕ) (s : List ℕ) → line_feeds (read_in n s) ≤ read_of n s
feeds_read n s = omega (arith, feeds_le (read_in n s), read_length n s)

pub feeds_most : (n : ℕ) (s : List ℕ) → line_feeds (read_in n s) ≤ n
unfolding line_feeds read_of
feeds_most zero s = omega arith
feeds_most (suc n) [] = omega arith
feeds_most (suc n) (x ∷ s) = go (eqb x line_feed) refl (feeds_most n s) (feeds_most (suc n) s)
  where
    go : (b : Bool) → eqb x line_feed ≡ b → line_feeds (read_in n s) ≤ n → line_feeds (read_in (suc n) s) ≤ suc n → line_feeds (read_in (suc n) (x ∷ s)) ≤ suc n
    go true q h k = rw q (omega arith)
    go false q h k = rw q k

-- ---- the lines told

count_told : (h : State) (ps : List (List ℕ)) → length (told h ps) ≡ length ps - 1
unfolding told
count_told h [] = refl
count_told h (p ∷ []) = refl
count_told h (p ∷ (q ∷ ps)) = omega (arith, count_told (Bytes []) (q ∷ ps))

count_pieces : (s : List ℕ) → length (pieces line_feed s) ≡ suc (line_feeds s)
unfolding pieces line_feeds
count_pieces [] = refl
count_pieces (x ∷ s) = go (eqb x line_feed) refl (count_pieces s)
  where
    grown : (ps : List (List ℕ)) → length ps ≡ suc (line_feeds s) → length (grow x ps) ≡ suc (line_feeds s)
    grown [] e = absurd (omega arith)
    grown (p ∷ ps) e = e

    go : (b : Bool) → eqb x line_feed ≡ b → length (pieces line_feed s) ≡ suc (line_feeds s) → length (pieces line_feed (x ∷ s)) ≡ suc (line_feeds (x ∷ s))
    go true q e = rw (q, e)
    go false q e = rw q (grown (pieces line_feed s) e)

-- THE COUNT OF LINES is that of the lines told
pub lines_told : (h : State) (s : List ℕ) → length (told h (pieces line_feed s)) ≡ line_feeds s
lines_told h s = omega (arith, count_told h (pieces line_feed s), count_pieces s)

one_le : (a : Answer) → one a ≤ 1
one_le Took = omega arith
one_le Refused = omega arith
one_le NoRoom = omega arith
one_le NotListed = omega arith

-- no more are taken than there are
pub taken_le : (rs : List Row) (ls : List Line) → taken_by rs ls ≤ length ls
unfolding taken_by
taken_le rs [] = omega arith
taken_le rs (l ∷ ls) = omega (arith, one_le (answer rs (event_of l)), taken_le (rows_after rs (event_of l)) ls)
