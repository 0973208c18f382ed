-- Rows that rise are known by what each key shows. Assumes nothing.
use Prim.Native.Nat.{ℕ, ◌≤◌, ◌<◌}
use native.Mathlib.Omega.{arith}
use mathlib.Core.Path.{◌≡◌, refl, sym, ap, ◌∙◌}
use mathlib.Core.Bool.{Bool, true, false, cond}
use mathlib.Core.List.{List, [], ◌∷◌}
use mathlib.Core.Option.{none, some}
use borrow.Author.Tests.{ltb-true, ltb-false, eq-eqb, ne_eqb}
use lib.Dec.{ltb}
use Rattle.board.specs.Rows.{key_of, Above, Rising, lookup}
use Rattle.board.specs.declared.rows.Row.{Row}
use Rattle.board.proofs.Lookup.{none_below, above_rising}

head_shown : (x : Row) (xs : List Row) → lookup (key_of x) (x ∷ xs) ≡ some x
head_shown x xs = ap (λ (b : Bool). cond b (some x) (lookup (key_of x) xs)) (eq-eqb (key_of x) (key_of x) refl)

pub rows_ext : (rs ss : List Row) → Rising rs → Rising ss → ((k : ℕ) → lookup k rs ≡ lookup k ss) → rs ≡ ss
rows_ext [] [] h g e = refl
rows_ext [] (y ∷ ys) h g e = cc (e (key_of y), head_shown y ys)
rows_ext (x ∷ xs) [] h g e = cc (e (key_of x), head_shown x xs)
rows_ext (x ∷ xs) (y ∷ ys) h g e = go (ltb (key_of x) (key_of y)) refl (ltb (key_of y) (key_of x)) refl
    (rows_ext xs ys (above_rising (key_of x) xs h) (above_rising (key_of y) ys g))
  where
    lows : (z : Row) (zs : List Row) (k : ℕ) → k < key_of z → Above (key_of z) zs → lookup k (z ∷ zs) ≡ none
    lows z zs k lt a = none_below k k (z ∷ zs) (omega arith) (lt, a)

    tail : (z : Row) (zs : List Row) (k : ℕ) → (key_of z ≡ k → ⊥) → lookup k (z ∷ zs) ≡ lookup k zs
    tail z zs k n = ap (λ (b : Bool). cond b (some z) (lookup k zs)) (ne_eqb (key_of z) k n)

    rest : x ≡ y → (k : ℕ) → lookup k xs ≡ lookup k ys
    rest q k = by (ltb (key_of x) k) refl
      where
        by : (b : Bool) → ltb (key_of x) k ≡ b → lookup k xs ≡ lookup k ys
        by true t =
            let lt : key_of x < k = ltb-true (key_of x) k t in
            let f : key_of x ≡ key_of y = ap (λ (r : Row). key_of r) q in
            sym (tail x xs k (λ p. omega arith)) ∙ e k ∙ tail y ys k (λ p. omega arith)
        by false t =
            let le : k ≤ key_of x = ltb-false (key_of x) k t in
            let f : key_of x ≡ key_of y = ap (λ (r : Row). key_of r) q in
            none_below k (key_of x) xs le h ∙ sym (none_below k (key_of y) ys (omega arith) g)

    go : (b : Bool) → ltb (key_of x) (key_of y) ≡ b → (b' : Bool) → ltb (key_of y) (key_of x) ≡ b'
        → (((k : ℕ) → lookup k xs ≡ lookup k ys) → xs ≡ ys) → x ∷ xs ≡ y ∷ ys
    go true t b' t' ih = cc (sym (head_shown x xs) ∙ e (key_of x), lows y ys (key_of x) (ltb-true (key_of x) (key_of y) t) g)
    go false t true t' ih = cc (sym (head_shown y ys) ∙ sym (e (key_of y)), lows x xs (key_of y) (ltb-true (key_of y) (key_of x) t') h)
    go false t false t' ih =
        let l1 : key_of y ≤ key_of x = ltb-false (key_of x) (key_of y) t in
        let l2 : key_of x ≤ key_of y = ltb-false (key_of y) (key_of x) t' in
        let s : key_of x ≡ key_of y = omega arith in
        let q : x ≡ y = cc (sym (head_shown x xs) ∙ e (key_of x) ∙ ap (λ (k : ℕ). lookup k (y ∷ ys)) s ∙ head_shown y ys) in
        let w : xs ≡ ys = ih (rest q) in cc
