-- Laws of tests: what two tests together say, and a test at every number below a bound. Assumes nothing.
use Rattle.std.specs.Prelude.{Option, Some, None, Result, Ok, Err}
use mathlib.Core.Path.{◌≡◌, refl, sym, ap, ◌∙◌, subst}
use mathlib.Core.Bool.{Bool, true, false, cond, not, ◌&&◌, ◌||◌, and-false, beq}
use Prim.Native.Nat.{ℕ, zero, suc, ◌<◌}
use native.Mathlib.Nat.{le_of_suc-le-suc, not-suc-le-zero}
use lib.Arith.{lt_of_le-ne}
use lib.Dec.{T, eqb}
use borrow.Author.Tests.{eqb-true, eqb-false, not-true, not-false}

pub and_left : (a b : Bool) → (a && b) ≡ true → a ≡ true
and_left true b e = refl
and_left false b e = e

pub and_right : (a b : Bool) → (a && b) ≡ true → b ≡ true
and_right true b e = e
and_right false b e = absurd (subst (λ (t : Bool). T t) (sym e) tt)

pub and_left_comm : (a b c : Bool) → (a && (b && c)) ≡ (b && (a && c))
and_left_comm true b c = refl
and_left_comm false b c = sym (and-false b)

-- four tests together
pub and_four : (a b c d : Bool) → (a && b && c && d) ≡ true → (a ≡ true) × (b ≡ true) × (c ≡ true) × (d ≡ true)
and_four a b c d e =
    let f = and_left (a && b && c) d e in
    let g = and_left (a && b) c f in
    (and_left a b g, and_right a b g, and_right (a && b) c f, and_right (a && b && c) d e)

pub true_false : {X : Type 0} {t : Bool} → t ≡ true → t ≡ false → X
true_false p q = absurd (subst (λ (t : Bool). T t) (sym p ∙ q) tt)

-- what a function answered, r, is the test t, and the code found it so, or not so
pub so : {r t : Bool} → r ≡ t → not r ≡ false → t ≡ true
so e f = sym e ∙ not-false _ f

pub not_so : {r t : Bool} → r ≡ t → not r ≡ true → t ≡ false
not_so e f = sym e ∙ not-true _ f

-- a test that cannot fail holds, and one that cannot hold fails
pub not_fails : (t : Bool) → (t ≡ false → ⊥) → t ≡ true
not_fails true f = refl
not_fails false f = absurd (f refl)

pub not_holds : (t : Bool) → (t ≡ true → ⊥) → t ≡ false
not_holds true f = absurd (f refl)
not_holds false f = refl

-- two tests that hold together are the same
pub same_test : (a b : Bool) → (a ≡ true → b ≡ true) → (b ≡ true → a ≡ true) → a ≡ b
same_test true b f g = sym (f refl)
same_test false b f g = sym (not_holds b (λ q. true_false (g q) refl))

pub or_second : (a b : Bool) → (a || b) ≡ true → a ≡ false → b ≡ true
or_second true b e q = true_false refl q
or_second false b e q = e

-- what follows from either of two tests follows where one of the two holds
pub either_of : {X : Type 0} (a b : Bool) → (a ≡ true → X) → (b ≡ true → X) → (a || b) ≡ true → X
either_of true b f g e = f refl
either_of false b f g e = g e

pub implied : (a b : Bool) → (not a || b) ≡ true → a ≡ true → b ≡ true
implied true b e h = e
implied false b e h = true_false h refl

pub beq_eq : (a b : Bool) → beq a b ≡ true → a ≡ b
beq_eq true true e = refl
beq_eq true false e = sym e
beq_eq false true e = e
beq_eq false false e = refl

-- what follows from either case of a choice follows from the choice
pub pick : {X : Type 0} (b a r : Bool) → (a ≡ true → X) → (r ≡ true → X) → cond b a r ≡ true → X
pick true a r f g e = f e
pick false a r f g e = g e

-- the same, where each case knows which it is
pub pick_with : {X : Type 0} (b a r : Bool) → (b ≡ true → a ≡ true → X) → (b ≡ false → r ≡ true → X) → cond b a r ≡ true → X
pick_with true a r f g e = f refl e
pick_with false a r f g e = g refl e

-- a test at every number below n, which antt computes
abbrev pub below : (ℕ → Bool) → ℕ → Bool
below f zero = true
below f (suc n) = f n && below f n

pub below_at : (f : ℕ → Bool) (n : ℕ) → below f n ≡ true → (k : ℕ) → k < n → f k ≡ true
below_at f zero e k h = absurd (not-suc-le-zero h)
below_at f (suc n) e k h = go (eqb k n) refl (below_at f n (and_right (f n) (below f n) e) k)
  where
    go : (t : Bool) → eqb k n ≡ t → (k < n → f k ≡ true) → f k ≡ true
    go true q r = subst (λ (m : ℕ). f m ≡ true) (sym (eqb-true k n q)) (and_left (f n) (below f n) e)
    go false q r = r (lt_of_le-ne (le_of_suc-le-suc h) (eqb-false k n q))

-- two pairs under Some, or Ok, are equal only part by part
some_parts : {P : Type 0} → P → Option P → P
some_parts x (Some p) = p
some_parts x None = x

ok_parts : {P E : Type 0} → P → Result P E → P
ok_parts x (Ok p) = p
ok_parts x (Err e) = x

pub some_pair : {A B : Type 0} {a c : A} {b d : B} → ◌≡◌ {A = Option (A × B)} (Some (a, b)) (Some (c, d)) → (a ≡ c) × (b ≡ d)
unfolding some_parts
some_pair {A} {B} {a} {c} {b} {d} e = (ap (λ (r : Option (A × B)). (some_parts (a, b) r).0) e, ap (λ (r : Option (A × B)). (some_parts (a, b) r).1) e)

pub ok_pair : {A B E : Type 0} {a c : A} {b d : B} → ◌≡◌ {A = Result (A × B) E} (Ok (a, b)) (Ok (c, d)) → (a ≡ c) × (b ≡ d)
unfolding ok_parts
ok_pair {A} {B} {E} {a} {c} {b} {d} e = (ap (λ (r : Result (A × B) E). (ok_parts (a, b) r).0) e, ap (λ (r : Result (A × B) E). (ok_parts (a, b) r).1) e)
