-- What each key shows after a row is written, or a flight is struck off. Assumes nothing.
use Prim.Native.Nat.{ℕ, ◌≤◌, ◌<◌}
use native.Mathlib.Omega.{arith}
use mathlib.Core.Path.{◌≡◌, refl, sym, ap, ◌∙◌}
use mathlib.Core.Bool.{Bool, true, false, cond}
use mathlib.Core.List.{List, [], ◌∷◌}
use mathlib.Core.Option.{Option, none, some}
use borrow.Author.Tests.{ltb-true, ltb-false, eqb-true, eq-eqb, ne_eqb}
use lib.Dec.{ltb, eqb}
use Rattle.board.specs.Rows.{key_of, Above, Rising, lookup, written, fits, struck}
use Rattle.board.specs.declared.rows.Row.{Row}
use Rattle.board.proofs.Twins.{placed, without, written_placed, struck_without}

-- ---- a row is written

same_placed : (r : Row) (rs : List Row) → lookup (key_of r) (placed r rs) ≡ some r
unfolding placed
same_placed r [] = ap (λ (b : Bool). cond b (some r) none) (eq-eqb (key_of r) (key_of r) refl)
same_placed r (x ∷ xs) = go (ltb (key_of x) (key_of r)) refl (eqb (key_of x) (key_of r)) (same_placed r xs)
  where
    here : (ys : List Row) → lookup (key_of r) (r ∷ ys) ≡ some r
    here ys = ap (λ (b : Bool). cond b (some r) (lookup (key_of r) ys)) (eq-eqb (key_of r) (key_of r) refl)

    go : (b : Bool) → ltb (key_of x) (key_of r) ≡ b → (b' : Bool) → lookup (key_of r) (placed r xs) ≡ some r
        → lookup (key_of r) (cond b (x ∷ placed r xs) (cond b' (r ∷ xs) (r ∷ x ∷ xs))) ≡ some r
    go true t b' ih =
        let h : key_of x < key_of r = ltb-true (key_of x) (key_of r) t in
        ap (λ (b : Bool). cond b (some x) (lookup (key_of r) (placed r xs))) (ne_eqb (key_of x) (key_of r) (λ e. omega arith)) ∙ ih
    go false t true ih = here xs
    go false t false ih = here (x ∷ xs)

other_placed : (r : Row) (k : ℕ) (rs : List Row) → (key_of r ≡ k → ⊥) → lookup k (placed r rs) ≡ lookup k rs
unfolding placed
other_placed r k [] n = ap (λ (b : Bool). cond b (some r) none) (ne_eqb (key_of r) k n)
other_placed r k (x ∷ xs) n = go (ltb (key_of x) (key_of r)) (eqb (key_of x) (key_of r)) refl (other_placed r k xs n)
  where
    past : (ys : List Row) → lookup k (r ∷ ys) ≡ lookup k ys
    past ys = ap (λ (b : Bool). cond b (some r) (lookup k ys)) (ne_eqb (key_of r) k n)

    go : (b b' : Bool) → eqb (key_of x) (key_of r) ≡ b' → lookup k (placed r xs) ≡ lookup k xs
        → lookup k (cond b (x ∷ placed r xs) (cond b' (r ∷ xs) (r ∷ x ∷ xs))) ≡ lookup k (x ∷ xs)
    go true b' t ih = ap (λ (o : Option Row). cond (eqb (key_of x) k) (some x) o) ih
    go false true t ih =
        past xs ∙ sym (ap (λ (b : Bool). cond b (some x) (lookup k xs)) (ne_eqb (key_of x) k (λ e. n (sym (eqb-true (key_of x) (key_of r) t) ∙ e))))
    go false false t ih = past (x ∷ xs)

pub written_shown : (r : Row) (rs : List Row) → fits rs (key_of r) ≡ true → lookup (key_of r) (written rs r) ≡ some r
written_shown r rs e = rw (written_placed r rs e) (same_placed r rs)

pub written_others : (r : Row) (rs : List Row) (k : ℕ) → (key_of r ≡ k → ⊥) → fits rs (key_of r) ≡ true → lookup k (written rs r) ≡ lookup k rs
written_others r rs k n e = rw (written_placed r rs e) (other_placed r k rs n)

-- in rows that rise no key below the first is shown
pub none_below : (k j : ℕ) (rs : List Row) → k ≤ j → Above j rs → lookup k rs ≡ none
none_below k j [] h a = refl
none_below k j (x ∷ xs) h a =
    let lt : j < key_of x = a.0 in
    ap (λ (b : Bool). cond b (some x) (lookup k xs)) (ne_eqb (key_of x) k (λ e. omega arith)) ∙ none_below k (key_of x) xs (omega arith) a.1

pub above_rising : (j : ℕ) (rs : List Row) → Above j rs → Rising rs
above_rising j [] a = tt
above_rising j (x ∷ xs) a = a.1

-- ---- a flight is struck off

same_without : (k : ℕ) (rs : List Row) → Rising rs → lookup k (without k rs) ≡ none
unfolding without
same_without k [] h = refl
same_without k (x ∷ xs) h = go (ltb (key_of x) k) refl (eqb (key_of x) k) refl (same_without k xs (above_rising (key_of x) xs h))
  where
    go : (b : Bool) → ltb (key_of x) k ≡ b → (b' : Bool) → eqb (key_of x) k ≡ b' → lookup k (without k xs) ≡ none
        → lookup k (cond b (x ∷ without k xs) (cond b' xs (x ∷ xs))) ≡ none
    go true t b' t' ih =
        let lt : key_of x < k = ltb-true (key_of x) k t in
        ap (λ (b : Bool). cond b (some x) (lookup k (without k xs))) (ne_eqb (key_of x) k (λ e. omega arith)) ∙ ih
    go false t true t' ih = let e : key_of x ≡ k = eqb-true (key_of x) k t' in none_below k (key_of x) xs (omega arith) h
    go false t false t' ih =
        let le : k ≤ key_of x = ltb-false (key_of x) k t in
        ap (λ (b : Bool). cond b (some x) (lookup k xs)) t' ∙ none_below k (key_of x) xs le h

other_without : (k k' : ℕ) (rs : List Row) → (k ≡ k' → ⊥) → lookup k' (without k rs) ≡ lookup k' rs
unfolding without
other_without k k' [] n = refl
other_without k k' (x ∷ xs) n = go (ltb (key_of x) k) (eqb (key_of x) k) refl (other_without k k' xs n)
  where
    go : (b b' : Bool) → eqb (key_of x) k ≡ b' → lookup k' (without k xs) ≡ lookup k' xs
        → lookup k' (cond b (x ∷ without k xs) (cond b' xs (x ∷ xs))) ≡ lookup k' (x ∷ xs)
    go true b' t ih = ap (λ (o : Option Row). cond (eqb (key_of x) k') (some x) o) ih
    go false true t ih = sym (ap (λ (b : Bool). cond b (some x) (lookup k' xs)) (ne_eqb (key_of x) k' (λ e. n (sym (eqb-true (key_of x) k t) ∙ e))))
    go false false t ih = refl

pub struck_none : (k : ℕ) (rs : List Row) → Rising rs → lookup k (struck rs k) ≡ none
struck_none k rs h = rw (struck_without k rs) (same_without k rs h)

pub struck_others : (k k' : ℕ) (rs : List Row) → (k ≡ k' → ⊥) → lookup k' (struck rs k) ≡ lookup k' rs
struck_others k k' rs n = rw (struck_without k rs) (other_without k k' rs n)
