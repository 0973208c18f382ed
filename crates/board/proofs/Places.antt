-- Where a key stands and what it shows; how many rows there are, and when one more has room. Assumes nothing.
use Prim.Native.Nat.{ℕ, zero, suc, ◌≤◌, ◌<◌}
use native.Mathlib.Nat.{zero-add, le_of_suc-le-suc, not-suc-le-zero}
use native.Mathlib.Omega.{arith}
use mathlib.Core.Path.{◌≡◌, refl, sym, ap, ◌∙◌}
use mathlib.Core.Bool.{Bool, true, false, cond, false≢true}
use mathlib.Core.List.{List, [], ◌∷◌, ◌++◌}
use mathlib.Core.Option.{Option, none, some}
use borrow.Author.Tests.{ltb-true, ltb-false, eqb-true, lt-ltb, le-ltb}
use lib.ListN.{length, get_or, take, drop, length-set, length-append, length-take, length-drop}
use lib.Dec.{ltb, eqb}
use Rattle.board.specs.Rows.{CAP, key_of, Above, Rising, lookup, Place, At, Gap, further, find_in, written_at, fits_at, written, fits, struck_at, is_at, struck, is_listed}
use Rattle.board.specs.Halving.{shift}
use Rattle.board.specs.declared.rows.Row.{Row}
use Rattle.board.proofs.Lookup.{none_below, above_rising}

-- ---- never more than the rows that there is room for

pub written_room : (r : Row) (rs : List Row) → length rs ≤ CAP → length (written rs r) ≤ CAP
unfolding written
written_room r rs h = go (find_in rs (key_of r))
  where
    by : (b : Bool) → ltb (length rs) CAP ≡ b → (i : ℕ) → length (cond b (take i rs ++ r ∷ drop i rs) rs) ≤ CAP
    by true t i = let room : length rs < CAP = ltb-true (length rs) CAP t in simp (length-append, length-take, length-drop) (omega arith)
    by false t i = h

    go : (p : Place) → length (written_at p r rs) ≤ CAP
    go (At i) = simp length-set h
    go (Gap i) = by (ltb (length rs) CAP) refl i

pub struck_room : (k : ℕ) (rs : List Row) → length rs ≤ CAP → length (struck rs k) ≤ CAP
unfolding struck
struck_room k rs h = go (find_in rs k)
  where
    go : (p : Place) → length (struck_at p rs) ≤ CAP
    go (At i) = simp (length-append, length-take, length-drop) (omega arith)
    go (Gap i) = h

-- ---- a key stands somewhere exactly if it shows a row

abbrev pub shown : Option Row → Bool
shown none = false
shown (some r) = true

at_further : (p : Place) → is_at (further p) ≡ is_at p
at_further (At i) = refl
at_further (Gap i) = refl

at_shown : (k : ℕ) (rs : List Row) → Rising rs → is_at (find_in rs k) ≡ shown (lookup k rs)
at_shown k [] h = refl
at_shown k (x ∷ xs) h = go (ltb (key_of x) k) refl (eqb (key_of x) k) refl (at_shown k xs (above_rising (key_of x) xs h))
  where
    go : (b : Bool) → ltb (key_of x) k ≡ b → (b' : Bool) → eqb (key_of x) k ≡ b' → is_at (find_in xs k) ≡ shown (lookup k xs)
        → is_at (cond b (further (find_in xs k)) (cond b' (At 0) (Gap 0))) ≡ shown (cond b' (some x) (lookup k xs))
    go true t true t' ih =
        let lt : key_of x < k = ltb-true (key_of x) k t in
        let e : key_of x ≡ k = eqb-true (key_of x) k t' in
        absurd (omega arith)
    go true t false t' ih = at_further (find_in xs k) ∙ ih
    go false t true t' ih = refl
    go false t false t' ih = sym (ap shown (none_below k (key_of x) xs (ltb-false (key_of x) k t) h))

pub listed_shown : (k : ℕ) (rs : List Row) → Rising rs → is_listed rs k ≡ shown (lookup k rs)
unfolding is_listed
listed_shown = at_shown

-- ---- a row does not fit exactly if its key shows none and all room is used

pub full_is : (k : ℕ) (rs : List Row) → Rising rs → fits rs k ≡ false → (lookup k rs ≡ none) × (CAP ≤ length rs)
unfolding fits
full_is k rs h e = go (find_in rs k) (lookup k rs) (at_shown k rs h) refl e
  where
    go : (p : Place) (o : Option Row) → is_at p ≡ shown o → lookup k rs ≡ o → fits_at p rs ≡ false → (lookup k rs ≡ none) × (CAP ≤ length rs)
    go (At i) o s l q = absurd (false≢true (sym q))
    go (Gap i) none s l q = (l, ltb-false (length rs) CAP q)
    go (Gap i) (some x) s l q = absurd (false≢true s)

pub is_full_lem : (k : ℕ) (rs : List Row) → Rising rs → lookup k rs ≡ none → CAP ≤ length rs → fits rs k ≡ false
unfolding fits
is_full_lem k rs h e c = go (find_in rs k) (at_shown k rs h ∙ ap shown e)
  where
    go : (p : Place) → is_at p ≡ false → fits_at p rs ≡ false
    go (At i) s = absurd (false≢true (sym s))
    go (Gap i) s = le-ltb (length rs) CAP c

-- a new row makes one more
pub length_new : (r : Row) (rs : List Row) → Rising rs → lookup (key_of r) rs ≡ none → length rs < CAP → length (written rs r) ≡ suc (length rs)
unfolding written
length_new r rs h e room = go (find_in rs (key_of r)) (at_shown (key_of r) rs h ∙ ap shown e)
  where
    by : (i : ℕ) → length (take i rs ++ r ∷ drop i rs) ≡ suc (length rs)
    by i = simp (length-append, length-take, length-drop) (omega arith)

    go : (p : Place) → is_at p ≡ false → length (written_at p r rs) ≡ suc (length rs)
    go (At i) s = absurd (false≢true (sym s))
    go (Gap i) s = ap (λ (b : Bool). length (cond b (take i rs ++ r ∷ drop i rs) rs)) (lt-ltb (length rs) CAP room) ∙ by i

-- ---- where keys rise, a look at one row tells of all before it

pub shift_zero : (f : Place) → f ≡ shift 0 f
shift_zero (At i) = ap At (sym (zero-add i))
shift_zero (Gap i) = ap Gap (sym (zero-add i))

pub shift_more : (n : ℕ) (f : Place) → further (shift n f) ≡ shift (suc n) f
shift_more n (At i) = ap At (omega arith)
shift_more n (Gap i) = ap Gap (omega arith)

pub above_each : (j : ℕ) (rs : List Row) (i : ℕ) (d : Row) → Above j rs → i < length rs → j < key_of (get_or rs i d)
above_each j [] i d a h = absurd (not-suc-le-zero h)
above_each j (x ∷ xs) zero d a h = a.0
above_each j (x ∷ xs) (suc i) d a h =
    let lt : j < key_of x = a.0 in
    omega (arith, above_each (key_of x) xs i d a.1 (le_of_suc-le-suc h))

pub past_first : (x : Row) (xs : List Row) (k : ℕ) → key_of x < k → find_in (x ∷ xs) k ≡ further (find_in xs k)
past_first x xs k h =
    ap (λ (b : Bool). cond b (further (find_in xs k)) (cond (eqb (key_of x) k) (At 0) (Gap 0))) (lt-ltb (key_of x) k h)

-- a key above that of row i stands, or would go, among the rows after it
pub find_after : (rs : List Row) (k i : ℕ) (d : Row) → Rising rs → i < length rs → key_of (get_or rs i d) < k
    → find_in rs k ≡ shift (suc i) (find_in (drop (suc i) rs) k)
find_after [] k i d up h q = absurd (not-suc-le-zero h)
find_after (x ∷ xs) k zero d up h q = past_first x xs k q ∙ ap further (shift_zero (find_in xs k)) ∙ shift_more 0 (find_in xs k)
find_after (x ∷ xs) k (suc i) d up h q =
    let lt : key_of x < k = omega (arith, above_each (key_of x) xs i d up (le_of_suc-le-suc h)) in
    past_first x xs k lt
    ∙ ap further (find_after xs k i d (above_rising (key_of x) xs up) (le_of_suc-le-suc h) q)
    ∙ shift_more (suc i) (find_in (drop (suc i) xs) k)
