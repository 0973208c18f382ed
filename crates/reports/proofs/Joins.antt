-- Two texts, one after the other: their lines, what these do to the rows, how many are taken, and how far is read. Assumes nothing.
use mathlib.Core.Path.{◌≡◌, refl, sym, ap, ◌∙◌}
use mathlib.Core.Bool.{Bool, true, false}
use mathlib.Core.List.{List, [], ◌∷◌, ◌++◌}
use Prim.Native.Nat.{ℕ, zero, suc, ◌+◌, ◌-◌}
use native.Mathlib.Nat.{sub-zero}
use native.Mathlib.Omega.{arith}
use lib.Dec.{eqb}
use lib.ListN.{length}
use Rattle.board.specs.declared.rows.Row.{Row}
use Rattle.history.specs.Steps.{rows_after}
use Rattle.rules.specs.Frame.{line_feed}
use Rattle.cutter.specs.Feed.{Line, lines_of}
use Rattle.cutter.specs.State.{Bytes}
use Rattle.cutter.proofs.Feeds.{start_lines}
use Rattle.feeding.specs.Tally.{event_of, rows_by, taken_by, line_feeds, read_of}
use Rattle.feeding.specs.Fed.{read_in}
use Rattle.feeding.proofs.Tallies.{read_none, read_zero, lines_told}

pub rows_then : (rs : List Row) (ls ms : List Line) → rows_by rs (ls ++ ms) ≡ rows_by (rows_by rs ls) ms
unfolding rows_by
rows_then rs [] ms = refl
rows_then rs (l ∷ ls) ms = rows_then (rows_after rs (event_of l)) ls ms

pub taken_then : (rs : List Row) (ls ms : List Line) → taken_by rs (ls ++ ms) ≡ taken_by rs ls + taken_by (rows_by rs ls) ms
unfolding rows_by taken_by
taken_then rs [] ms = omega arith
taken_then rs (l ∷ ls) ms = rw (taken_then (rows_after rs (event_of l)) ls ms) (omega arith)

pub feeds_then : (a b : List ℕ) → line_feeds (a ++ b) ≡ line_feeds a + line_feeds b
unfolding line_feeds
feeds_then [] b = omega arith
feeds_then (x ∷ a) b = go (eqb x line_feed) refl (feeds_then a b)
  where
    go : (t : Bool) → eqb x line_feed ≡ t → line_feeds (a ++ b) ≡ line_feeds a + line_feeds b → line_feeds (x ∷ (a ++ b)) ≡ line_feeds (x ∷ a) + line_feeds b
    go true q k = rw (q, k) (omega arith)
    go false q k = rw (q, k)

-- a text has as many lines as line feeds
pub feeds_are : (s : List ℕ) → length (lines_of s) ≡ line_feeds s
feeds_are s = ap length (sym (start_lines s)) ∙ lines_told (Bytes []) s

-- ---- what is read where at most n lines are

-- how a byte more is read
read_feed : (n x : ℕ) (s : List ℕ) → eqb x line_feed ≡ true → read_in (suc n) (x ∷ s) ≡ x ∷ read_in n s
unfolding read_of
read_feed n x s q = rw q

read_other : (n x : ℕ) (s : List ℕ) → eqb x line_feed ≡ false → read_in (suc n) (x ∷ s) ≡ x ∷ read_in (suc n) s
unfolding read_of
read_other n x s q = rw q

none_read : (s : List ℕ) → read_in 0 s ≡ []
none_read s = rw (read_zero s)

pub read_empty : (n : ℕ) → read_in n [] ≡ []
read_empty n = rw (read_none n)

-- reading a text and then another, as far as so many lines allow: the first, and of the second what is still allowed
pub read_then : (n : ℕ) (a b : List ℕ) → read_in n (a ++ b) ≡ read_in n a ++ read_in (n - line_feeds (read_in n a)) b
unfolding line_feeds
read_then zero a b = rw (none_read (a ++ b), none_read a, none_read b)
read_then (suc n) [] b = rw (read_empty (suc n), sub-zero)
read_then (suc n) (x ∷ a) b = go (eqb x line_feed) refl (read_then n a b) (read_then (suc n) a b)
  where
    go : (t : Bool) → eqb x line_feed ≡ t → read_in n (a ++ b) ≡ read_in n a ++ read_in (n - line_feeds (read_in n a)) b
        → read_in (suc n) (a ++ b) ≡ read_in (suc n) a ++ read_in (suc n - line_feeds (read_in (suc n) a)) b
        → read_in (suc n) (x ∷ (a ++ b)) ≡ read_in (suc n) (x ∷ a) ++ read_in (suc n - line_feeds (read_in (suc n) (x ∷ a))) b
    go true q k k' =
        let z : suc n - suc (line_feeds (read_in n a)) ≡ n - line_feeds (read_in n a) = omega arith in
        rw (read_feed n x (a ++ b) q, read_feed n x a q, q, z, k)
    go false q k k' = rw (read_other n x (a ++ b) q, read_other n x a q, q, k')
