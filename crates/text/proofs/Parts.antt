-- Digits in parts: the number of digits that stand one after the other, and of a part of them, over any base. Assumes nothing.
use mathlib.Core.Path.{◌≡◌, refl, sym, ◌∙◌}
use mathlib.Core.Bool.{Bool, true, ◌&&◌, and_assoc}
use mathlib.Core.List.{List, [], ◌∷◌, ◌++◌, map, map-append}
use Prim.Native.Nat.{ℕ, suc, ◌+◌, ◌*◌, ◌/◌, ◌%◌, ◌^◌}
use native.Mathlib.Nat.{zero-add, zero-mul, suc-add, add-mul, mul_assoc}
use native.Mathlib.Omega.{arith}
use lib.Arith.{digits_div, digits_mod}
use lib.ListN.{length, take, drop, length-append, length-map, length-drop, take-append-drop}
use lib.Pow.{pow-add}
use lib.Seq.{length-take-le, take-add}
use Rattle.text.specs.Class.{all}
use Rattle.text.specs.Place.{value}
use Rattle.text.specs.Number.{is_digit_to, digit_of, number_of}
use Rattle.text.proofs.Logic.{and_left, and_right}
use Rattle.text.proofs.Numbers.{number_lt}

-- a test holds of each byte of both exactly if it does of each of the two
pub all_append : (f : ℕ → Bool) (x y : List ℕ) → all f (x ++ y) ≡ (all f x && all f y)
unfolding all
all_append f [] y = refl
all_append f (b ∷ x) y = rw (all_append f x y) (sym (and_assoc (f b) (all f x) (all f y)))

pub value_append : (B w : ℕ) (x y : List ℕ) → value B (length x + w) (x ++ y) ≡ value B (length x) x * B ^ w + value B w y
unfolding value
value_append B w [] y = rw (zero-add, zero-mul, zero-add)
value_append B w (d ∷ x) y =
    rw (suc-add, value_append B w x y, pow-add, add-mul)
    (omega (arith, mul_assoc d (B ^ length x) (B ^ w)))

-- the number of x and then y is that of x, moved up by the places of y, and that of y
pub number_append : (B : ℕ) (x y : List ℕ) → number_of B (x ++ y) ≡ number_of B x * B ^ length y + number_of B y
unfolding number_of
number_append B x y =
    let e = value_append B (length y) (map digit_of x) (map digit_of y) in
    rw (length-append, map-append) (rw length-map at e)

module _ (hi : ℕ) where
  -- so the number of y is found again in that of x, y and z
  middle : (x y z : List ℕ) → all (is_digit_to (suc hi)) y ≡ true → all (is_digit_to (suc hi)) z ≡ true → number_of (suc hi) y ≡ number_of (suc hi) ((x ++ y) ++ z) / suc hi ^ length z % suc hi ^ length y
  middle x y z e f =
      rw (number_append (suc hi) (x ++ y) z, digits_div (number_of (suc hi) (x ++ y)) (number_lt hi z f))
      (rw (number_append (suc hi) x y, digits_mod (number_of (suc hi) x) (number_lt hi y e)))

  -- k digits from index i, with w digits after them
  module _ (i k w : ℕ) (s : List ℕ) (long : length s ≡ i + k + w) (e : all (is_digit_to (suc hi)) s ≡ true) where
    whole : (take i s ++ take k (drop i s)) ++ drop (i + k) s ≡ s
    whole = rw (← take-add) (take-append-drop (i + k) s)

    digits : (all (is_digit_to (suc hi)) (take i s) && all (is_digit_to (suc hi)) (take k (drop i s)) && all (is_digit_to (suc hi)) (drop (i + k) s)) ≡ true
    digits = rw (← all_append, ← all_append, whole) e

    pub part_digits : all (is_digit_to (suc hi)) (take k (drop i s)) ≡ true
    part_digits =
        let f = is_digit_to (suc hi) in
        let x = all f (take i s) in
        let y = all f (take k (drop i s)) in
        and_right x y (and_left (x && y) (all f (drop (i + k) s)) digits)

    after_digits : all (is_digit_to (suc hi)) (drop (i + k) s) ≡ true
    after_digits =
        let f = is_digit_to (suc hi) in
        and_right (all f (take i s) && all f (take k (drop i s))) (all f (drop (i + k) s)) digits

    pub number_part : number_of (suc hi) (take k (drop i s)) ≡ number_of (suc hi) s / suc hi ^ w % suc hi ^ k
    number_part =
        let after : length (drop (i + k) s) ≡ w = length-drop (i + k) s ∙ omega arith in
        let size : length (take k (drop i s)) ≡ k = length-take-le k (drop i s) (omega (arith, length-drop i s)) in
        rw (whole, after, size) at (middle (take i s) (take k (drop i s)) (drop (i + k) s) part_digits after_digits)
