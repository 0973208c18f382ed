-- THE LAWS of decimals, for every number below 10 to the 20th, and so for every word: the digits of n are digits, they have the number n and
-- no zero in front, and no other digits do. Of any number at all they are at most twenty. Assumes nothing.
use mathlib.Core.Path.{◌≡◌, refl, sym, ◌∙◌}
use mathlib.Core.Bool.{Bool, true, false, not}
use mathlib.Core.List.{List, [], ◌∷◌}
use Prim.Native.Nat.{ℕ, zero, suc, ◌+◌, ◌-◌, ◌*◌, ◌/◌, ◌^◌, ◌≤◌, ◌<◌}
use native.Mathlib.Nat.{pow-succ', one-le-pow, pow-le-pow_right, mul-le-mul_right, div-lt_iff_lt-mul, le-div_iff_mul-le}
use native.Mathlib.Omega.{arith}
use lib.Dec.{leb, ltb, eqb, lit≤}
use lib.ListN.{length}
use borrow.Author.Tests.{ltb-true, ltb-false, leb-true, leb-false, ne_eqb, eqb-false, not-true}
use Rattle.text.specs.Class.{all, is_digit}
use Rattle.text.specs.Code.{code_of}
use Rattle.text.specs.Place.{value, places}
use Rattle.text.specs.Number.{digit_of, number_of, padded}
use Rattle.text.proofs.Logic.{and_left, true_false}
use Rattle.text.proofs.Codes.{digits_same}
use Rattle.text.proofs.Numbers.{number_lt, number_padded, padded_number, padded_digits}
use Rattle.text.specs.Decimal.{width_by, width_of, decimal, no_zero_front}
use Rattle.text.proofs.DecimalDigits.{width_one, width_turn, width_some, width_enough, width_least, byte_digit, decimal_long}

-- ---- the digits of n

module _ (n : ℕ) (h : n < 10 ^ 20) where
  enough : n < 10 ^ width_of n
  enough = width_enough 19 n h

  -- their number is n
  pub decimal_number : number_of 10 (decimal n) ≡ n
  unfolding decimal
  decimal_number = number_padded 9 (lit≤ tt) (width_of n) n enough

  -- each is a digit
  pub decimal_digits : all is_digit (decimal n) ≡ true
  unfolding decimal
  decimal_digits = digits_same (padded 10 (width_of n) n) ∙ padded_digits 9 (lit≤ tt) (width_of n) n enough

  front : (v : ℕ) → width_of n ≡ suc (suc v) → 10 ≤ n → no_zero_front (decimal n) ≡ true
  unfolding decimal padded places no_zero_front
  front v e l =
      let p : 0 < 10 ^ suc v = one-le-pow (suc v) 10 (lit≤ tt) in
      let most : n < 10 ^ suc (suc v) = rw e at enough in
      let least : 10 ^ suc (suc v) ≤ 10 * n = rw e at (width_least 19 n (omega arith)) in
      let d₁ : 1 ≤ n / 10 ^ suc v = (le-div_iff_mul-le p).1 (omega (arith, pow-succ' 10 (suc v))) in
      let d₂ : n / 10 ^ suc v < 10 = (div-lt_iff_lt-mul p).1 (omega (arith, pow-succ' 10 (suc v))) in
      rw (e, byte_digit (n / 10 ^ suc v) (omega arith), ne_eqb (48 + n / 10 ^ suc v) 48 (λ z. omega arith))

  -- the first is no zero, unless it is the only one
  pub decimal_front : no_zero_front (decimal n) ≡ true
  unfolding decimal padded places no_zero_front
  decimal_front = go (ltb n 10) refl
    where
      go : (t : Bool) → ltb n 10 ≡ t → no_zero_front (decimal n) ≡ true
      go true q = rw (width_one 19 n (ltb-true n 10 q))
      go false q =
          let l = ltb-false n 10 q in
          front (width_by 18 (n / 10) - 1) (omega (arith, width_turn 18 n l, width_some 18 (n / 10))) l

-- ---- at most twenty, of any number

width_most : (k n : ℕ) → width_by k n ≤ suc k
unfolding width_by
width_most zero n = omega arith
width_most (suc k) n = go (ltb n 10) refl (width_most k (n / 10))
  where
    go : (b : Bool) → ltb n 10 ≡ b → width_by k (n / 10) ≤ suc k → width_by (suc k) n ≤ suc (suc k)
    go true q h = rw q (omega arith)
    go false q h = rw q (omega arith)

pub decimal_short : (n : ℕ) → length (decimal n) ≤ 20
decimal_short n = rw decimal_long (width_most 19 n)

-- ---- no other digits

-- how many digits n has, from the powers of 10 that it lies between
pub width_is : (n m : ℕ) → n < 10 ^ 20 → 10 ^ m ≤ n → n < 10 ^ suc m → width_of n ≡ suc m
width_is n m h lo hi = go (leb (width_of n) m) refl (leb (suc (suc m)) (width_of n)) refl
  where
    go : (t : Bool) → leb (width_of n) m ≡ t → (u : Bool) → leb (suc (suc m)) (width_of n) ≡ u → width_of n ≡ suc m
    go true q u p = absurd (omega (arith, enough n h, pow-le-pow_right {n = 10} (lit≤ tt) {i = width_of n} {j = m} (leb-true (width_of n) m q)))
    go false q true p =
        absurd
        (omega
        (arith, width_least 19 n (omega (arith, one-le-pow m 10 (lit≤ tt))), pow-succ' 10 (suc m), pow-le-pow_right {n = 10} (lit≤ tt) {i = suc (suc m)} {j = width_of n} (leb-true (suc (suc m)) (width_of n) p)))
    go false q false p = omega (arith, leb-false (width_of n) m q, leb-false (suc (suc m)) (width_of n) p)

-- a digit that is no zero
digit_some : (b : ℕ) → is_digit b ≡ true → not (eqb b 48) ≡ true → 1 ≤ digit_of b
unfolding digit_of code_of is_digit
digit_some b e f =
    let l : 48 ≤ b = leb-true 48 b (and_left (leb 48 b) (leb b 57) e) in
    let z : eqb b 48 ≡ false = not-true (eqb b 48) f in
    rw e (omega (arith, l, eqb-false b 48 z))

-- digits without a zero in front are as many as those of their number
digits_long : (s : List ℕ) → all is_digit s ≡ true → no_zero_front s ≡ true → number_of 10 s < 10 ^ 20 → width_of (number_of 10 s) ≡ length s
unfolding number_of value no_zero_front all
digits_long [] e f h = true_false f refl
digits_long (b ∷ []) e f h = width_one 19 (number_of 10 (b ∷ [])) (number_lt 9 (b ∷ []) (sym (digits_same (b ∷ [])) ∙ e))
digits_long (b ∷ c ∷ s) e f h =
    let d : 1 ≤ digit_of b = digit_some b (and_left (is_digit b) (all is_digit (c ∷ s)) e) f in
    let lo : 10 ^ suc (length s) ≤ number_of 10 (b ∷ c ∷ s) = omega (arith, mul-le-mul_right (10 ^ suc (length s)) d) in
    width_is (number_of 10 (b ∷ c ∷ s)) (suc (length s)) h lo (number_lt 9 (b ∷ c ∷ s) (sym (digits_same (b ∷ c ∷ s)) ∙ e))

-- digits with the number n and no zero in front are the digits of n
pub decimal_only : (n : ℕ) (s : List ℕ) → n < 10 ^ 20 → all is_digit s ≡ true → no_zero_front s ≡ true → number_of 10 s ≡ n → s ≡ decimal n
unfolding decimal
decimal_only n s h e f is =
    let small : number_of 10 s < 10 ^ 20 = omega arith in
    rw (← is, digits_long s e f small) (sym (padded_number 9 s (sym (digits_same s) ∙ e)))
