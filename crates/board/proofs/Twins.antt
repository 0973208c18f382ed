-- Writing and striking by recursion on the rows: the same as by place, and easier to prove of. Assumes nothing.
use Prim.Native.Nat.{ℕ}
use mathlib.Core.Path.{◌≡◌, refl, sym, ap, ◌∙◌}
use mathlib.Core.Bool.{Bool, true, false, cond, false≢true}
use mathlib.Core.List.{List, [], ◌∷◌, ◌++◌}
use lib.ListN.{take, drop, set}
use lib.Dec.{ltb, eqb}
use Rattle.board.specs.Rows.{key_of, Place, At, Gap, further, find_in, written_at, fits_at, written, fits, struck_at, struck}
use Rattle.board.specs.declared.rows.Row.{Row}

unfoldable pub placed : Row → List Row → List Row
placed r [] = r ∷ []
placed r (x ∷ xs) = cond (ltb (key_of x) (key_of r)) (x ∷ placed r xs) (cond (eqb (key_of x) (key_of r)) (r ∷ xs) (r ∷ x ∷ xs))

unfoldable pub without : ℕ → List Row → List Row
without k [] = []
without k (x ∷ xs) = cond (ltb (key_of x) k) (x ∷ without k xs) (cond (eqb (key_of x) k) xs (x ∷ xs))

-- ---- writing, where there is room for one more

abbrev put_in : Place → Row → List Row → List Row
put_in (At i) r rs = set rs i r
put_in (Gap i) r rs = take i rs ++ r ∷ drop i rs

put_further : (p : Place) (r x : Row) (xs : List Row) → put_in (further p) r (x ∷ xs) ≡ x ∷ put_in p r xs
put_further (At i) r x xs = refl
put_further (Gap i) r x xs = refl

put_by : (b b' : Bool) (p : Place) (r x : Row) (xs ys : List Row) → put_in p r xs ≡ ys
    → put_in (cond b (further p) (cond b' (At 0) (Gap 0))) r (x ∷ xs) ≡ cond b (x ∷ ys) (cond b' (r ∷ xs) (r ∷ x ∷ xs))
put_by true b' p r x xs ys e = put_further p r x xs ∙ ap (λ (z : List Row). x ∷ z) e
put_by false true p r x xs ys e = refl
put_by false false p r x xs ys e = refl

put_placed : (r : Row) (rs : List Row) → put_in (find_in rs (key_of r)) r rs ≡ placed r rs
unfolding placed
put_placed r [] = refl
put_placed r (x ∷ xs) = put_by (ltb (key_of x) (key_of r)) (eqb (key_of x) (key_of r)) (find_in xs (key_of r)) r x xs (placed r xs) (put_placed r xs)

-- a row that fits is put in
put_is : (p : Place) (r : Row) (rs : List Row) → fits_at p rs ≡ true → written_at p r rs ≡ put_in p r rs
put_is (At i) r rs e = refl
put_is (Gap i) r rs e = ap (λ (b : Bool). cond b (take i rs ++ r ∷ drop i rs) rs) e

pub written_placed : (r : Row) (rs : List Row) → fits rs (key_of r) ≡ true → written rs r ≡ placed r rs
unfolding written fits
written_placed r rs e = put_is (find_in rs (key_of r)) r rs e ∙ put_placed r rs

-- a row that does not fit leaves the rows as they are
pub written_full : (r : Row) (rs : List Row) → fits rs (key_of r) ≡ false → written rs r ≡ rs
unfolding written fits
written_full r rs e = go (find_in rs (key_of r)) e
  where
    go : (p : Place) → fits_at p rs ≡ false → written_at p r rs ≡ rs
    go (At i) q = absurd (false≢true (sym q))
    go (Gap i) q = ap (λ (b : Bool). cond b (take i rs ++ r ∷ drop i rs) rs) q

-- ---- striking

strike_further : (p : Place) (x : Row) (xs : List Row) → struck_at (further p) (x ∷ xs) ≡ x ∷ struck_at p xs
strike_further (At i) x xs = refl
strike_further (Gap i) x xs = refl

strike_by : (b b' : Bool) (p : Place) (x : Row) (xs ys : List Row) → struck_at p xs ≡ ys
    → struck_at (cond b (further p) (cond b' (At 0) (Gap 0))) (x ∷ xs) ≡ cond b (x ∷ ys) (cond b' xs (x ∷ xs))
strike_by true b' p x xs ys e = strike_further p x xs ∙ ap (λ (z : List Row). x ∷ z) e
strike_by false true p x xs ys e = refl
strike_by false false p x xs ys e = refl

pub struck_without : (k : ℕ) (rs : List Row) → struck rs k ≡ without k rs
unfolding without struck
struck_without k [] = refl
struck_without k (x ∷ xs) = strike_by (ltb (key_of x) k) (eqb (key_of x) k) (find_in xs k) x xs (without k xs) (struck_without k xs)
