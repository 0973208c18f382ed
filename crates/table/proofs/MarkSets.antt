-- The laws of a set of marks, with one more. Assumes nothing.
use mathlib.Core.Path.{◌≡◌, refl, ap, ◌∙◌}
use mathlib.Core.Bool.{Bool, true, false, not, ◌||◌}
use Prim.Native.Nat.{ℕ, zero, suc, ◌+◌, ◌*◌, ◌/◌, ◌%◌, ◌≤◌, ◌<◌, suc-le-suc, max, min}
use native.Mathlib.Nat.{le_of_suc-le-suc, mod-lt, max-le, max-add-min, min-le_left, min-le_right}
use native.Mathlib.Omega.{arith}
use lib.Arith.{bin_ind}
use lib.Bits.{bit_and, bit_or, and_step, or_step, or_lt, and_zero_l}
use lib.Count.{ones, ones_in, ones_step, ones_cat, ones-le}
use lib.Dec.{eqb, ltb, lit≤}
use borrow.Author.Tests.{ltb-true, not-true, eqb-true}
use Rattle.text.proofs.Logic.{below, below_at}
use Rattle.table.specs.Amends.{is_mark}
use Rattle.table.proofs.Eight.{each_mark}

-- a digit counts as itself
ones_digit : (d : ℕ) → d < 2 → ones d ≡ d
unfolding ones ones_in
ones_digit zero h = refl
ones_digit (suc zero) h = refl
ones_digit (suc (suc d)) h = absurd (omega arith)

-- the digits of two numbers that have none in common are counted apart
ones_or : (a b : ℕ) → bit_and a b ≡ 0 → ones (bit_or a b) ≡ ones a + ones b
ones_or = bin_ind (λ (n : ℕ). (b : ℕ) → bit_and n b ≡ 0 → ones (bit_or n b) ≡ ones n + ones b) none step
  where
    none : (b : ℕ) → bit_and 0 b ≡ 0 → ones (bit_or 0 b) ≡ ones 0 + ones b
    none b e = omega (arith, ones_digit 0 (lit≤ tt))

    step : (n : ℕ) → ((b : ℕ) → bit_and (n / 2) b ≡ 0 → ones (bit_or (n / 2) b) ≡ ones (n / 2) + ones b) → (b : ℕ) → bit_and n b ≡ 0 → ones (bit_or n b) ≡ ones n + ones b
    step n ih b e =
        let high = bit_or (n / 2) (b / 2) in
        let low = max (n % 2) (b % 2) in
        let apart = and_step n b in
        let z : bit_and (n / 2) (b / 2) ≡ 0 = omega arith in
        let l : low < 2 = suc-le-suc (max-le (le_of_suc-le-suc (mod-lt n (lit≤ tt))) (le_of_suc-le-suc (mod-lt b (lit≤ tt)))) in
        let cat : ones (bit_or n b) ≡ ones high + ones low = ap ones (or_step n b) ∙ ones_cat 1 high low l in
        omega (arith, cat, ih (b / 2) z, ones_digit low l, ones_step n, ones_step b, max-add-min (n % 2) (b % 2), apart)

mark_ones : (b : ℕ) → is_mark b ≡ true → ones b ≡ 1
unfolding ones ones_in
mark_ones = each_mark (λ b. ones b ≡ 1) refl refl refl refl refl refl refl refl

mark_small : (b : ℕ) → is_mark b ≡ true → b < 256
mark_small b e = ltb-true b 256 (each_mark (λ n. ltb n 256 ≡ true) refl refl refl refl refl refl refl refl b e)

-- a mark that is not in a set is one more
pub set_more : (m b : ℕ) → m < 256 → is_mark b ≡ true → bit_and m b ≡ 0 → (bit_or m b < 256) × (ones (bit_or m b) ≡ suc (ones m))
set_more m b h e z = (or_lt 8 m b h (mark_small b e), omega (arith, ones_or m b z, mark_ones b e))

-- a test of a mark and a set, which antt computes for the eight marks and every set
each_set : (f : ℕ → ℕ → Bool) → below (f 1) 256 ≡ true → below (f 2) 256 ≡ true → below (f 4) 256 ≡ true → below (f 8) 256 ≡ true → below (f 16) 256 ≡ true → below (f 32) 256 ≡ true → below (f 64) 256 ≡ true → below (f 128) 256 ≡ true → (m b : ℕ) → m < 256 → is_mark b ≡ true → f b m ≡ true
each_set f t₁ t₂ t₄ t₈ t₁₆ t₃₂ t₆₄ t₁₂₈ m b h e = below_at (f b) 256 (each_mark (λ n. below (f n) 256 ≡ true) t₁ t₂ t₄ t₈ t₁₆ t₃₂ t₆₄ t₁₂₈ b e) m h

-- the new mark is in
pub set-has : (m b : ℕ) → m < 256 → is_mark b ≡ true → eqb (bit_and (bit_or m b) b) 0 ≡ false
set-has m b h e =
    not-true (eqb (bit_and (bit_or m b) b) 0) (each_set (λ b m. not (eqb (bit_and (bit_or m b) b) 0)) refl refl refl refl refl refl refl refl m b h e)

-- the mark of the route, 128, stays in
pub set_keeps : (m b : ℕ) → m < 256 → is_mark b ≡ true → eqb (bit_and m 128) 0 ≡ false → eqb (bit_and (bit_or m b) 128) 0 ≡ false
set_keeps m b h e f =
    let t = each_set (λ b m. eqb (bit_and m 128) 0 || not (eqb (bit_and (bit_or m b) 128) 0)) refl refl refl refl refl refl refl refl m b h e in
    not-true (eqb (bit_and (bit_or m b) 128) 0) (rw f at t)

-- and no other mark brings it in
pub set_other : (m b : ℕ) → m < 256 → is_mark b ≡ true → eqb b 128 ≡ false → eqb (bit_and m 128) 0 ≡ true → eqb (bit_and (bit_or m b) 128) 0 ≡ true
set_other m b h e f g =
    let t = each_set (λ b m. eqb b 128 || (not (eqb (bit_and m 128) 0) || eqb (bit_and (bit_or m b) 128) 0)) refl refl refl refl refl refl refl refl m b h e in
    rw (f, g) at t

-- two different marks have nothing in common
pub marks_apart : (m b : ℕ) → is_mark m ≡ true → is_mark b ≡ true → eqb b m ≡ false → bit_and m b ≡ 0
unfolding is_mark
marks_apart m b h e f =
    let t = each_set (λ b m. not (is_mark m) || (eqb b m || eqb (bit_and m b) 0)) refl refl refl refl refl refl refl refl m b (mark_small m h) e in
    eqb-true (bit_and m b) 0 (rw (h, f) at t)

pub ones_few : (m : ℕ) → m < 256 → ones m ≤ 8
ones_few m h = ones-le 8 m h

-- ---- two sets have nothing in common with a third exactly if both together have not

-- of one digit each, which antt computes
abbrev evenly : ℕ → ℕ → ℕ → Bool
evenly x y z = eqb (min (max x y) z) (max (min x z) (min y z))

digit_either : (x y z : ℕ) → x < 2 → y < 2 → z < 2 → min (max x y) z ≡ max (min x z) (min y z)
digit_either x y z h g l =
    let t = below_at (λ x. below (λ y. below (λ z. evenly x y z) 2) 2) 2 refl x h in
    eqb-true (min (max x y) z) (max (min x z) (min y z)) (below_at (λ z. evenly x y z) 2 (below_at (λ y. below (λ z. evenly x y z) 2) 2 t y g) z l)

-- the digits above the last, and the last
module _ (m a b : ℕ) where
  both_step : bit_and (bit_or m a) b ≡ bit_and (bit_or (m / 2) (a / 2)) (b / 2) * 2 + max (min (m % 2) (b % 2)) (min (a % 2) (b % 2))
  both_step =
      let l : max (m % 2) (a % 2) < 2 = suc-le-suc (max-le (le_of_suc-le-suc (mod-lt m (lit≤ tt))) (le_of_suc-le-suc (mod-lt a (lit≤ tt)))) in
      let high : bit_or m a / 2 ≡ bit_or (m / 2) (a / 2) = omega (arith, or_step m a) in
      let low : bit_or m a % 2 ≡ max (m % 2) (a % 2) = omega (arith, or_step m a) in
      and_step (bit_or m a) b ∙ rw (high, low, digit_either (m % 2) (a % 2) (b % 2) (mod-lt m (lit≤ tt)) (mod-lt a (lit≤ tt)) (mod-lt b (lit≤ tt)))

abbrev Apart : ℕ → Type 0
Apart m = (a b : ℕ) → (bit_and (bit_or m a) b ≡ 0 → (bit_and m b ≡ 0) × (bit_and a b ≡ 0)) × (bit_and m b ≡ 0 → bit_and a b ≡ 0 → bit_and (bit_or m a) b ≡ 0)

pub both_apart : (m : ℕ) → Apart m
both_apart = bin_ind Apart none step
  where
    none : Apart 0
    none a b = (λ e. (and_zero_l b, e), λ e f. f)

    step : (m : ℕ) → Apart (m / 2) → Apart m
    step m ih a b =
        let i = ih (a / 2) (b / 2) in
        let x = min (m % 2) (b % 2) in
        let y = min (a % 2) (b % 2) in
        let s = both_step m a b in
        let p = and_step m b in
        let q = and_step a b in
        let t = max-add-min x y in
        let u = min-le_left x y in
        let v = min-le_right x y in (
          λ e. let j = i.0 (omega (arith, s)) in (omega (arith, s, p, t, u, v, j.0), omega (arith, s, q, t, u, v, j.1)),
          λ e f. let j = i.1 (omega (arith, p)) (omega (arith, q)) in omega (arith, s, p, q, t, j),
        )
