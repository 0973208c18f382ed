-- The laws of places, over any base and width: the value of digits and the digits of a value give each other. Assumes nothing.
use mathlib.Core.Path.{◌≡◌, refl, sym, ap, ◌∙◌}
use mathlib.Core.Bool.{Bool, true, false, ◌&&◌}
use mathlib.Core.List.{List, [], ◌∷◌, ◌++◌}
use Prim.Native.Nat.{ℕ, zero, suc, ◌+◌, ◌*◌, ◌/◌, ◌%◌, ◌^◌, ◌≤◌, ◌<◌, zero-le}
use native.Mathlib.Nat.{pow-zero, pow-suc, pow-succ', mod-eq_of_lt, one-mul, div-one, div-div-eq-div-mul, one-le-pow, div-add-mod', mod-lt, div-lt_iff_lt-mul, le-div_iff_mul-le, mul-pos, mul-le-mul_right, le_of_suc-le-suc, not-suc-le-zero, suc_inj}
use native.Mathlib.Omega.{arith}
use lib.Arith.{mod-mul, digits_lt, digits_div, digits_mod}
use lib.Dec.{leb, eqb}
use lib.ListN.{length, get_or}
use borrow.Author.Tests.{le-leb, ne_eqb, leb-true, eqb-true}
use Rattle.text.specs.Class.{all}
use Rattle.text.specs.Place.{value, places, digits, tight, all_in}
use Rattle.text.proofs.Logic.{and_left, and_right}

pub all_in_cons : (lo hi d : ℕ) (ds : List ℕ) → all_in lo hi (d ∷ ds) ≡ true → (lo ≤ d) × (d ≤ hi) × (all_in lo hi ds ≡ true)
unfolding all_in all
all_in_cons lo hi d ds e =
    let p : (leb lo d && leb d hi) ≡ true = and_left (leb lo d && leb d hi) (all_in lo hi ds) e in (
      leb-true lo d (and_left (leb lo d) (leb d hi) p),
      leb-true d hi (and_right (leb lo d) (leb d hi) p),
      and_right (leb lo d && leb d hi) (all_in lo hi ds) e,
    )

pub all_in_more : (lo hi d : ℕ) (ds : List ℕ) → lo ≤ d → d ≤ hi → all_in lo hi (d ∷ ds) ≡ all_in lo hi ds
unfolding all_in all
all_in_more lo hi d ds h k = simp (le-leb lo d h, le-leb d hi k)

-- a wider class holds the narrower
pub all_in_wider : (lo hi lo' hi' : ℕ) → lo' ≤ lo → hi ≤ hi' → (ds : List ℕ) → all_in lo hi ds ≡ true → all_in lo' hi' ds ≡ true
unfolding all_in all
all_in_wider lo hi lo' hi' h k [] e = refl
all_in_wider lo hi lo' hi' h k (d ∷ ds) e =
    let p = all_in_cons lo hi d ds e in
    all_in_more lo' hi' d ds (omega (arith, p.0)) (omega (arith, p.1)) ∙ all_in_wider lo hi lo' hi' h k ds p.2

pub digits_zero : (B w : ℕ) → digits B w 0 ≡ []
unfolding digits
digits_zero B zero = refl
digits_zero B (suc w) = refl

pub tight_zero : (B w : ℕ) → tight B w 0 ≡ true
unfolding tight
tight_zero B zero = refl
tight_zero B (suc w) = refl

pub digits_suc : (B w n : ℕ) → 0 < n → digits B (suc w) n ≡ n / B ^ w ∷ digits B w (n % B ^ w)
unfolding digits
digits_suc B w n h = simp (ne_eqb n 0 (λ e. omega arith))

pub tight_suc : (B w n : ℕ) → 0 < n → tight B (suc w) n ≡ (leb (B ^ w) n && tight B w (n % B ^ w))
unfolding tight
tight_suc B w n h = simp (ne_eqb n 0 (λ e. omega arith))

pub value_none : (B w : ℕ) → value B w [] ≡ 0
unfolding value
value_none B zero = refl
value_none B (suc w) = refl

pub value_suc : (B w d : ℕ) (ds : List ℕ) → value B (suc w) (d ∷ ds) ≡ d * B ^ w + value B w ds
unfolding value
value_suc B w d ds = refl

-- four bytes, high byte first; one that is not there counts as 0
pub value_four : (s : List ℕ) → value 256 4 s ≡ get_or s 0 0 * 16777216 + get_or s 1 0 * 65536 + get_or s 2 0 * 256 + get_or s 3 0
unfolding value
value_four [] = refl
value_four (a ∷ []) = omega arith
value_four (a ∷ (b ∷ [])) = omega arith
value_four (a ∷ (b ∷ (c ∷ []))) = omega arith
value_four (a ∷ (b ∷ (c ∷ (d ∷ s)))) = omega arith

module _ (B hi : ℕ) (h_b : hi < B) where
  pub pow_pos : (w : ℕ) → 0 < B ^ w
  pow_pos w = one-le-pow w B (omega arith)

  pub value_lt : (lo w : ℕ) (ds : List ℕ) → all_in lo hi ds ≡ true → value B w ds < B ^ w
  unfolding value
  value_lt lo zero ds e = pow_pos zero
  value_lt lo (suc w) [] e = pow_pos (suc w)
  value_lt lo (suc w) (d ∷ ds) e =
      let p = all_in_cons lo hi d ds e in
      rw pow-succ' (digits_lt (omega (arith, p.1)) (value_lt lo w ds p.2))

  positive : (d w v : ℕ) → 1 ≤ d → 0 < d * B ^ w + v
  positive d w v h = omega (arith, mul-pos h (pow_pos w))

  pub digits_value : (w : ℕ) (ds : List ℕ) → length ds ≤ w → all_in 1 hi ds ≡ true → digits B w (value B w ds) ≡ ds
  unfolding value
  digits_value zero [] h e = digits_zero B zero
  digits_value zero (d ∷ ds) h e = absurd (not-suc-le-zero h)
  digits_value (suc w) [] h e = digits_zero B (suc w)
  digits_value (suc w) (d ∷ ds) h e =
      let p = all_in_cons 1 hi d ds e in
      let v : value B w ds < B ^ w = value_lt 1 w ds p.2 in
      digits_suc B w (d * B ^ w + value B w ds) (positive d w (value B w ds) p.0)
      ∙ rw (digits_div d v, digits_mod d v, digits_value w ds (le_of_suc-le-suc h) p.2)

  pub tight_value : (w : ℕ) (ds : List ℕ) → all_in 1 hi ds ≡ true → tight B w (value B w ds) ≡ true
  unfolding value tight
  tight_value zero ds e = refl
  tight_value (suc w) [] e = refl
  tight_value (suc w) (d ∷ ds) e =
      let p = all_in_cons 1 hi d ds e in
      let v : value B w ds < B ^ w = value_lt 1 w ds p.2 in
      tight_suc B w (d * B ^ w + value B w ds) (positive d w (value B w ds) p.0)
      ∙ rw (digits_mod d v, tight_value w ds p.2, le-leb (B ^ w) (d * B ^ w + value B w ds) (omega (arith, mul-le-mul_right (B ^ w) p.0)))

  pub value_digits : (w n : ℕ) → n < B ^ w → value B w (digits B w n) ≡ n
  unfolding value digits
  value_digits zero n h = omega (arith, pow-zero B)
  value_digits (suc w) n h = go (eqb n 0) refl (value_digits w (n % B ^ w) (mod-lt n (pow_pos w)))
    where
      go : (t : Bool) → eqb n 0 ≡ t → value B w (digits B w (n % B ^ w)) ≡ n % B ^ w → value B (suc w) (digits B (suc w) n) ≡ n
      go true q r = rw q (sym (eqb-true n 0 q))
      go false q r = rw (q, r) (div-add-mod' n (B ^ w))

  pub digits_in : (w n : ℕ) → B ≤ suc hi → n < B ^ w → tight B w n ≡ true → all_in 1 hi (digits B w n) ≡ true
  unfolding digits all_in all tight
  digits_in zero n k h e = refl
  digits_in (suc w) n k h e = go (eqb n 0) refl (digits_in w (n % B ^ w) k (mod-lt n (pow_pos w)))
    where
      go : (t : Bool) → eqb n 0 ≡ t → (tight B w (n % B ^ w) ≡ true → all_in 1 hi (digits B w (n % B ^ w)) ≡ true) → all_in 1 hi (digits B (suc w) n) ≡ true
      go true q r = rw q
      go false q r =
          let f : (leb (B ^ w) n && tight B w (n % B ^ w)) ≡ true = rw q at e in
          let low : B ^ w ≤ n = leb-true (B ^ w) n (and_left (leb (B ^ w) n) (tight B w (n % B ^ w)) f) in
          let d₁ : 1 ≤ n / B ^ w = (le-div_iff_mul-le (pow_pos w)).1 (omega arith) in
          let d₂ : n / B ^ w < B = (div-lt_iff_lt-mul (pow_pos w)).1 (rw (← pow-succ') h) in
          rw q (all_in_more 1 hi (n / B ^ w) (digits B w (n % B ^ w)) d₁ (omega arith) ∙ r (and_right (leb (B ^ w) n) (tight B w (n % B ^ w)) f))

pub length_digits : (B w n : ℕ) → length (digits B w n) ≤ w
unfolding digits
length_digits B zero n = zero-le
length_digits B (suc w) n = go (eqb n 0) refl (length_digits B w (n % B ^ w))
  where
    go : (t : Bool) → eqb n 0 ≡ t → length (digits B w (n % B ^ w)) ≤ w → length (digits B (suc w) n) ≤ suc w
    go true q r = rw q zero-le
    go false q r = rw q (omega arith)

-- ---- all places, zeros among them

pub length-places : (B w n : ℕ) → length (places B w n) ≡ w
unfolding places
length-places B zero n = refl
length-places B (suc w) n = ap suc (length-places B w (n % B ^ w))

module _ (B hi : ℕ) (h_b : hi < B) where
  pub places_value : (w : ℕ) (ds : List ℕ) → length ds ≡ w → all_in 0 hi ds ≡ true → places B w (value B w ds) ≡ ds
  unfolding value places
  places_value zero [] h e = refl
  places_value zero (d ∷ ds) h e = absurd (omega arith)
  places_value (suc w) [] h e = absurd (omega arith)
  places_value (suc w) (d ∷ ds) h e =
      let p = all_in_cons 0 hi d ds e in
      let v : value B w ds < B ^ w = value_lt B hi h_b 0 w ds p.2 in
      rw (digits_div d v, digits_mod d v, places_value w ds (suc_inj h) p.2)

  pub value_places : (w n : ℕ) → n < B ^ w → value B w (places B w n) ≡ n
  unfolding value places
  value_places zero n h = omega (arith, pow-zero B)
  value_places (suc w) n h = rw (value_places w (n % B ^ w) (mod-lt n (pow_pos B hi h_b w))) (div-add-mod' n (B ^ w))

  pub places_in : (w n : ℕ) → B ≤ suc hi → n < B ^ w → all_in 0 hi (places B w n) ≡ true
  unfolding places all_in all
  places_in zero n k h = refl
  places_in (suc w) n k h =
      let d : n / B ^ w < B = (div-lt_iff_lt-mul (pow_pos B hi h_b w)).1 (rw (← pow-succ') h) in
      all_in_more 0 hi (n / B ^ w) (places B w (n % B ^ w)) zero-le (omega arith) ∙ places_in w (n % B ^ w) k (mod-lt n (pow_pos B hi h_b w))

-- the digits of n are those of n / B, and then its last
module _ (B hi : ℕ) (h_b : hi < B) where
  pub places_last : (w n : ℕ) → n < B ^ suc w → places B (suc w) n ≡ places B w (n / B) ++ (n % B) ∷ []
  unfolding places
  places_last zero n h =
      let l : n < B = omega (arith, rw (pow-zero, one-mul) at (pow-suc B 0)) in
      rw (pow-zero, div-one, mod-eq_of_lt l)
  places_last (suc w) n h =
      let e : n % B ^ suc w ≡ (n / B % B ^ w) * B + n % B = rw pow-suc (mod-mul n (pow_pos B hi h_b w) (omega arith)) in
      let l : n % B < B = mod-lt n (omega arith) in
      rw (places_last w (n % B ^ suc w) (mod-lt n (pow_pos B hi h_b (suc w))), e, digits_div (n / B % B ^ w) l, digits_mod (n / B % B ^ w) l, div-div-eq-div-mul, pow-succ')
