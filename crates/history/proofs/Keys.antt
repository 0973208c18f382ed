-- The keys of rows: as many as the rows, rising with them, and those that show a row. Rising keys are known by their
-- members. Assumes nothing.
use Prim.Native.Nat.{ℕ, suc, ◌<◌}
use native.Mathlib.Omega.{arith}
use mathlib.Core.Logic.{◌↔◌, ◌⊎◌, inl, inr}
use mathlib.Core.Path.{◌≡◌, refl, sym, ap}
use mathlib.Core.Bool.{Bool, true, false, cond}
use mathlib.Core.List.Memᴰ
use mathlib.Core.List.{List, [], ◌∷◌, Memᴰ}
use mathlib.Core.Option.{some}
use borrow.Author.Tests.{eqb-true, eqb-false}
use lib.ListN.{length}
use lib.Dec.{eqb}
use Rattle.board.specs.Rows.{key_of, Above, Rising, lookup}
use Rattle.board.specs.declared.rows.Row.{Row}
use Rattle.history.specs.Demand.{Up, RisingKeys}

abbrev pub keys_of : List Row → List ℕ
keys_of [] = []
keys_of (r ∷ rs) = key_of r ∷ keys_of rs

pub length-keys : (rs : List Row) → length (keys_of rs) ≡ length rs
length-keys [] = refl
length-keys (r ∷ rs) = ap suc (length-keys rs)

up_keys : (k : ℕ) (rs : List Row) → Above k rs → Up k (keys_of rs)
up_keys k [] a = tt
up_keys k (r ∷ rs) a = (a.0, up_keys (key_of r) rs a.1)

pub rising_keys : (rs : List Row) → Rising rs → RisingKeys (keys_of rs)
rising_keys [] a = tt
rising_keys (r ∷ rs) a = up_keys (key_of r) rs a

pub keys_shown : (k : ℕ) (rs : List Row) → Memᴰ k (keys_of rs) → (r : Row) × (lookup k rs ≡ some r)
keys_shown k [] m = absurd (Memᴰ.not-nil m)
keys_shown k (x ∷ xs) m = go (eqb (key_of x) k) refl (Memᴰ.cases_cons m) (keys_shown k xs)
  where
    go : (b : Bool) → eqb (key_of x) k ≡ b → (k ≡ key_of x) ⊎ Memᴰ k (keys_of xs) → (Memᴰ k (keys_of xs) → (r : Row) × (lookup k xs ≡ some r))
        → (r : Row) × (cond b (some x) (lookup k xs) ≡ some r)
    go true t c ih = (x, refl)
    go false t (inl e) ih = absurd (eqb-false (key_of x) k t (sym e))
    go false t (inr n) ih = ih n

pub shown_keys : (k : ℕ) (rs : List Row) (r : Row) → lookup k rs ≡ some r → Memᴰ k (keys_of rs)
shown_keys k [] r e = let z : ◌≡◌ {A = ℕ} 0 1 = cc in absurd (omega arith)
shown_keys k (x ∷ xs) r e = go (eqb (key_of x) k) refl e (shown_keys k xs r)
  where
    go : (b : Bool) → eqb (key_of x) k ≡ b → cond b (some x) (lookup k xs) ≡ some r → (lookup k xs ≡ some r → Memᴰ k (keys_of xs))
        → Memᴰ k (key_of x ∷ keys_of xs)
    go true t q ih = Memᴰ.head (sym (eqb-true (key_of x) k t))
    go false t q ih = Memᴰ.tail (ih q)

-- ---- rising keys with the same members are the same

up_above : (k x : ℕ) (xs : List ℕ) → Up x xs → Memᴰ k xs → x < k
up_above k x [] u m = absurd (Memᴰ.not-nil m)
up_above k x (y ∷ ys) u m = go (Memᴰ.cases_cons m) (up_above k y ys u.1)
  where
    go : (k ≡ y) ⊎ Memᴰ k ys → (Memᴰ k ys → y < k) → x < k
    go (inl e) ih = let l : x < y = u.0 in omega arith
    go (inr n) ih = let l : x < y = u.0 in let l2 = ih n in omega arith

up_rising : (x : ℕ) (xs : List ℕ) → Up x xs → RisingKeys xs
up_rising x [] u = tt
up_rising x (y ∷ ys) u = u.1

pub keys_ext : (xs ys : List ℕ) → RisingKeys xs → RisingKeys ys → ((k : ℕ) → Memᴰ k xs ↔ Memᴰ k ys) → xs ≡ ys
keys_ext [] [] u v e = refl
keys_ext [] (y ∷ ys) u v e = absurd (Memᴰ.not-nil ((e y).1 (Memᴰ.head refl)))
keys_ext (x ∷ xs) [] u v e = absurd (Memᴰ.not-nil ((e x).0 (Memᴰ.head refl)))
keys_ext (x ∷ xs) (y ∷ ys) u v e =
    heads (Memᴰ.cases_cons ((e x).0 (Memᴰ.head refl))) (Memᴰ.cases_cons ((e y).1 (Memᴰ.head refl)))
    (keys_ext xs ys (up_rising x xs u) (up_rising y ys v))
  where
    to : x ≡ y → (k : ℕ) → Memᴰ k xs → Memᴰ k ys
    to q k m = go (Memᴰ.cases_cons ((e k).0 (Memᴰ.tail m)))
      where
        go : (k ≡ y) ⊎ Memᴰ k ys → Memᴰ k ys
        go (inl p) = let l = up_above k x xs u m in absurd (omega arith)
        go (inr n) = n

    from : x ≡ y → (k : ℕ) → Memᴰ k ys → Memᴰ k xs
    from q k m = go (Memᴰ.cases_cons ((e k).1 (Memᴰ.tail m)))
      where
        go : (k ≡ x) ⊎ Memᴰ k xs → Memᴰ k xs
        go (inl p) = let l = up_above k y ys v m in absurd (omega arith)
        go (inr n) = n

    same : x ≡ y → (((k : ℕ) → Memᴰ k xs ↔ Memᴰ k ys) → xs ≡ ys) → x ∷ xs ≡ y ∷ ys
    same q ih = let w : xs ≡ ys = ih (λ k. (to q k, from q k)) in cc

    heads : (x ≡ y) ⊎ Memᴰ x ys → (y ≡ x) ⊎ Memᴰ y xs → (((k : ℕ) → Memᴰ k xs ↔ Memᴰ k ys) → xs ≡ ys) → x ∷ xs ≡ y ∷ ys
    heads (inl q) c ih = same q ih
    heads (inr m) (inl q) ih = same (sym q) ih
    heads (inr m) (inr n) ih = let l = up_above x y ys v m in let l2 = up_above y x xs u n in absurd (omega arith)
