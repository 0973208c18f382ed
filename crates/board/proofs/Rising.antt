-- Keys go on rising, whatever row is written or flight struck off. Assumes nothing.
use Prim.Native.Nat.{ℕ, ◌≤◌, ◌<◌}
use native.Mathlib.Omega.{arith}
use mathlib.Core.Path.{◌≡◌, refl, subst}
use mathlib.Core.Bool.{Bool, true, false, cond}
use mathlib.Core.List.{List, [], ◌∷◌}
use borrow.Author.Tests.{ltb-true, ltb-false, eqb-true, eqb-false}
use lib.Dec.{ltb, eqb}
use Rattle.board.specs.Rows.{key_of, Above, Rising, written, fits, struck}
use Rattle.board.specs.declared.rows.Row.{Row}
use Rattle.board.proofs.Twins.{placed, without, written_placed, written_full, struck_without}
use Rattle.board.proofs.Lookup.{above_rising}

above_placed : (j : ℕ) (r : Row) (rs : List Row) → j < key_of r → Above j rs → Above j (placed r rs)
unfolding placed
above_placed j r [] h a = (h, tt)
above_placed j r (x ∷ xs) h a =
    go (ltb (key_of x) (key_of r)) refl (eqb (key_of x) (key_of r)) refl (λ t. above_placed (key_of x) r xs t a.1)
  where
    go : (b : Bool) → ltb (key_of x) (key_of r) ≡ b → (b' : Bool) → eqb (key_of x) (key_of r) ≡ b' → (key_of x < key_of r → Above (key_of x) (placed r xs))
        → Above j (cond b (x ∷ placed r xs) (cond b' (r ∷ xs) (r ∷ x ∷ xs)))
    go true t b' t' ih = (a.0, ih (ltb-true (key_of x) (key_of r) t))
    go false t true t' ih = (h, subst (λ (k : ℕ). Above k xs) (eqb-true (key_of x) (key_of r) t') a.1)
    go false t false t' ih =
        let le : key_of r ≤ key_of x = ltb-false (key_of x) (key_of r) t in
        let ne : key_of x ≡ key_of r → ⊥ = eqb-false (key_of x) (key_of r) t' in
        (h, (omega (arith, le, ne), a.1))

rising_placed : (r : Row) (rs : List Row) → Rising rs → Rising (placed r rs)
unfolding placed
rising_placed r [] h = tt
rising_placed r (x ∷ xs) h = go (ltb (key_of x) (key_of r)) refl (eqb (key_of x) (key_of r)) refl
  where
    go : (b : Bool) → ltb (key_of x) (key_of r) ≡ b → (b' : Bool) → eqb (key_of x) (key_of r) ≡ b'
        → Rising (cond b (x ∷ placed r xs) (cond b' (r ∷ xs) (r ∷ x ∷ xs)))
    go true t b' t' = above_placed (key_of x) r xs (ltb-true (key_of x) (key_of r) t) h
    go false t true t' = subst (λ (k : ℕ). Above k xs) (eqb-true (key_of x) (key_of r) t') h
    go false t false t' =
        let le : key_of r ≤ key_of x = ltb-false (key_of x) (key_of r) t in
        let ne : key_of x ≡ key_of r → ⊥ = eqb-false (key_of x) (key_of r) t' in
        (omega (arith, le, ne), h)

-- a lower bound may go down
pub above_down : (i j : ℕ) (rs : List Row) → i ≤ j → Above j rs → Above i rs
above_down i j [] h a = tt
above_down i j (x ∷ xs) h a = let lt : j < key_of x = a.0 in (omega arith, a.1)

above_without : (j k : ℕ) (rs : List Row) → Above j rs → Above j (without k rs)
unfolding without
above_without j k [] a = tt
above_without j k (x ∷ xs) a = go (ltb (key_of x) k) (eqb (key_of x) k) (above_without (key_of x) k xs a.1)
  where
    go : (b b' : Bool) → Above (key_of x) (without k xs) → Above j (cond b (x ∷ without k xs) (cond b' xs (x ∷ xs)))
    go true b' ih = (a.0, ih)
    go false true ih = let lt : j < key_of x = a.0 in above_down j (key_of x) xs (omega arith) a.1
    go false false ih = a

rising_without : (k : ℕ) (rs : List Row) → Rising rs → Rising (without k rs)
unfolding without
rising_without k [] h = tt
rising_without k (x ∷ xs) h = go (ltb (key_of x) k) (eqb (key_of x) k)
  where
    go : (b b' : Bool) → Rising (cond b (x ∷ without k xs) (cond b' xs (x ∷ xs)))
    go true b' = above_without (key_of x) k xs h
    go false true = above_rising (key_of x) xs h
    go false false = h

pub written_rising : (r : Row) (rs : List Row) → Rising rs → Rising (written rs r)
written_rising r rs h = go (fits rs (key_of r)) refl
  where
    go : (b : Bool) → fits rs (key_of r) ≡ b → Rising (written rs r)
    go true e = rw (written_placed r rs e) (rising_placed r rs h)
    go false e = rw (written_full r rs e) h

pub struck_rising : (k : ℕ) (rs : List Row) → Rising rs → Rising (struck rs k)
struck_rising k rs h = rw (struck_without k rs) (rising_without k rs h)
