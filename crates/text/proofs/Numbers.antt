-- THE ONE FACT of digits, over base and width: the number of the digits, and the digits of the number, zeros in front kept.
-- Assumes nothing.
use Rattle.std.specs.Prelude.{None, Some}
use mathlib.Core.Path.{◌≡◌, refl, sym, ◌∙◌}
use mathlib.Core.Bool.{Bool, true, false, cond}
use mathlib.Core.List.{List, [], ◌∷◌, map}
use Prim.Native.Nat.{ℕ, suc, ◌-◌, ◌^◌, ◌≤◌, ◌<◌, zero-le}
use native.Mathlib.Omega.{arith}
use lib.ListN.{length, length-map}
use Rattle.text.specs.Class.{all}
use Rattle.text.specs.Code.{code_of, byte_of}
use Rattle.text.specs.Place.{places, all_in}
use Rattle.text.specs.Number.{is_digit_to, digit_of, number_of, padded, is_numeral, read_number}
use Rattle.text.proofs.Codes.{byte_code, code_byte, digits_all}
use Rattle.text.proofs.Places.{all_in_cons, all_in_more, value_lt, places_value, value_places, places_in, length-places}

-- codes from 1 to B are digits from 0 to B - 1
digits_low : (hi : ℕ) (s : List ℕ) → all_in 1 (suc hi) (map code_of s) ≡ true → all_in 0 hi (map digit_of s) ≡ true
unfolding digit_of all_in all
digits_low hi [] e = refl
digits_low hi (b ∷ s) e =
    let p = all_in_cons 1 (suc hi) (code_of b) (map code_of s) e in
    all_in_more 0 hi (code_of b - 1) (map digit_of s) zero-le (omega (arith, p.0, p.1)) ∙ digits_low hi s p.2

back : (hi : ℕ) (s : List ℕ) → all_in 1 (suc hi) (map code_of s) ≡ true → map (λ d. byte_of (suc d)) (map digit_of s) ≡ s
unfolding digit_of
back hi [] e = refl
back hi (b ∷ s) e =
    let p = all_in_cons 1 (suc hi) (code_of b) (map code_of s) e in
    let z : suc (code_of b - 1) ≡ code_of b = omega (arith, p.0) in
    rw (z, byte_code b p.0, back hi s p.2)

module _ (hi : ℕ) (few : suc hi ≤ 36) where
  forth : (ds : List ℕ) → all_in 0 hi ds ≡ true → map digit_of (map (λ d. byte_of (suc d)) ds) ≡ ds
  unfolding digit_of
  forth [] e = refl
  forth (d ∷ ds) e =
      let p = all_in_cons 0 hi d ds e in
      let z : code_of (byte_of (suc d)) - 1 ≡ d = omega (arith, code_byte (suc d) (omega arith) (omega (arith, p.1))) in
      rw (z, forth ds p.2)

  are_digits : (ds : List ℕ) → all_in 0 hi ds ≡ true → all_in 1 (suc hi) (map code_of (map (λ d. byte_of (suc d)) ds)) ≡ true
  unfolding all_in all
  are_digits [] e = refl
  are_digits (d ∷ ds) e =
      let p = all_in_cons 0 hi d ds e in
      let z : code_of (byte_of (suc d)) ≡ suc d = code_byte (suc d) (omega arith) (omega (arith, p.1)) in
      all_in_more 1 (suc hi) (code_of (byte_of (suc d))) (map code_of (map (λ d. byte_of (suc d)) ds)) (omega arith) (omega (arith, p.1)) ∙ are_digits ds p.2

-- the base is suc hi, hi the highest digit

-- the number of w digits is below the base to the w-th
pub number_lt : (hi : ℕ) (s : List ℕ) → all (is_digit_to (suc hi)) s ≡ true → number_of (suc hi) s < suc hi ^ length s
unfolding number_of
number_lt hi s e = value_lt (suc hi) hi (omega arith) 0 (length s) (map digit_of s) (digits_low hi s (sym (digits_all (suc hi) s) ∙ e))

-- the digits of the number are the digits
pub padded_number : (hi : ℕ) (s : List ℕ) → all (is_digit_to (suc hi)) s ≡ true → padded (suc hi) (length s) (number_of (suc hi) s) ≡ s
unfolding number_of padded
padded_number hi s e =
    let c = sym (digits_all (suc hi) s) ∙ e in
    rw (places_value (suc hi) hi (omega arith) (length s) (map digit_of s) (length-map s digit_of) (digits_low hi s c)) (back hi s c)

pub length-padded : (B w n : ℕ) → length (padded B w n) ≡ w
unfolding padded
length-padded B w n = length-map (places B w n) (λ d. byte_of (suc d)) ∙ length-places B w n

module _ (hi : ℕ) (few : suc hi ≤ 36) (w n : ℕ) (h : n < suc hi ^ w) where
  -- the number of the digits is the number
  pub number_padded : number_of (suc hi) (padded (suc hi) w n) ≡ n
  unfolding number_of padded
  number_padded =
      rw (forth hi few (places (suc hi) w n) (places_in (suc hi) hi (omega arith) w n (omega arith) h), length-map, length-places)
      (value_places (suc hi) hi (omega arith) w n h)

  pub padded_digits : all (is_digit_to (suc hi)) (padded (suc hi) w n) ≡ true
  unfolding padded
  padded_digits = digits_all (suc hi) (map (λ d. byte_of (suc d)) (places (suc hi) w n)) ∙ are_digits hi few (places (suc hi) w n) (places_in (suc hi) hi (omega arith) w n (omega arith) h)

-- ---- a number that is told where a test holds, as `number` tells it

pub told_known : (b : Bool) (k : ℕ) {n : ℕ} → cond b (Some k) None ≡ Some n → (b ≡ true) × (n ≡ k)
told_known true k e = (refl, (cc))
told_known false k e = ((cc), (cc))

pub told_none : (b : Bool) (k : ℕ) → cond b (Some k) None ≡ None → b ≡ false
told_none true k e = cc
told_none false k e = refl

pub number_known : (B : ℕ) (s : List ℕ) {n : ℕ} → read_number B s ≡ Some n → (is_numeral B s ≡ true) × (n ≡ number_of B s)
unfolding read_number
number_known B s e = told_known (is_numeral B s) (number_of B s) e

pub number_none : (B : ℕ) (s : List ℕ) → read_number B s ≡ None → is_numeral B s ≡ false
unfolding read_number
number_none B s e = told_none (is_numeral B s) (number_of B s) e
