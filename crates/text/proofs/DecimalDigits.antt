-- How many digits a number has, and its last one: what `size` and `put` count and write. Assumes nothing.
use mathlib.Core.Path.{◌≡◌, refl}
use mathlib.Core.Bool.{Bool, true, false}
use mathlib.Core.List.{[], ◌∷◌, ◌++◌, map-append}
use Prim.Native.Nat.{ℕ, zero, suc, ◌+◌, ◌*◌, ◌/◌, ◌%◌, ◌^◌, ◌≤◌, ◌<◌}
use native.Mathlib.Nat.{pow-succ'}
use native.Mathlib.Omega.{arith}
use lib.Dec.{ltb, lit≤}
use lib.ListN.{length}
use borrow.Author.Tests.{lt-ltb, le-ltb, ltb-true, ltb-false, le-leb}
use Rattle.text.specs.Code.{byte_of}
use Rattle.text.specs.Number.{padded}
use Rattle.text.proofs.Places.{places_last}
use Rattle.text.proofs.Numbers.{length-padded}
use Rattle.text.specs.Decimal.{width_by, width_of, decimal}

-- ---- how many

pub width_one : (k n : ℕ) → n < 10 → width_by k n ≡ 1
unfolding width_by
width_one zero n h = refl
width_one (suc k) n h = rw (lt-ltb n 10 h)

pub width_turn : (k n : ℕ) → 10 ≤ n → width_by (suc k) n ≡ suc (width_by k (n / 10))
unfolding width_by
width_turn k n h = rw (le-ltb n 10 h)

pub width_some : (k n : ℕ) → 1 ≤ width_by k n
unfolding width_by
width_some zero n = omega arith
width_some (suc k) n = go (ltb n 10) refl
  where
    go : (t : Bool) → ltb n 10 ≡ t → 1 ≤ width_by (suc k) n
    go true q = rw q (omega arith)
    go false q = rw q (omega arith)

-- as many as n needs
pub width_enough : (k n : ℕ) → n < 10 ^ suc k → n < 10 ^ width_by k n
width_enough zero n h = rw (width_one zero n h) h
width_enough (suc k) n h = go (ltb n 10) refl (width_enough k (n / 10))
  where
    go : (t : Bool) → ltb n 10 ≡ t → (n / 10 < 10 ^ suc k → n / 10 < 10 ^ width_by k (n / 10)) → n < 10 ^ width_by (suc k) n
    go true q r = let l = ltb-true n 10 q in rw (width_one (suc k) n l) l
    go false q r =
        let l : n / 10 < 10 ^ width_by k (n / 10) = r (omega (arith, pow-succ' 10 (suc k))) in
        rw (width_turn k n (ltb-false n 10 q), pow-succ') (omega arith)

-- and no more
pub width_least : (k n : ℕ) → 1 ≤ n → 10 ^ width_by k n ≤ 10 * n
unfolding width_by
width_least zero n h = omega arith
width_least (suc k) n h = go (ltb n 10) refl (width_least k (n / 10))
  where
    go : (t : Bool) → ltb n 10 ≡ t → (1 ≤ n / 10 → 10 ^ width_by k (n / 10) ≤ 10 * (n / 10)) → 10 ^ width_by (suc k) n ≤ 10 * n
    go true q r = rw (width_one (suc k) n (ltb-true n 10 q)) (omega arith)
    go false q r =
        let l : 10 ^ width_by k (n / 10) ≤ 10 * (n / 10) = r (omega (arith, ltb-false n 10 q)) in
        rw (width_turn k n (ltb-false n 10 q), pow-succ') (omega arith)

-- ---- the last

pub byte_digit : (d : ℕ) → d ≤ 9 → byte_of (suc d) ≡ 48 + d
unfolding byte_of
byte_digit d h = rw (le-leb (suc d) 10 (omega arith)) (omega arith)

-- the digits of n are those of n / 10 and then its last
pub padded_last : (w n : ℕ) → n < 10 ^ suc w → padded 10 (suc w) n ≡ padded 10 w (n / 10) ++ (48 + n % 10) ∷ []
unfolding padded
padded_last w n h = rw (places_last 10 9 (lit≤ tt) w n h, map-append, ← byte_digit (n % 10) (omega arith))

pub decimal_long : (n : ℕ) → length (decimal n) ≡ width_of n
unfolding decimal
decimal_long n = length-padded 10 (width_of n) n
