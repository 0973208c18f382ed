-- THE ORDER LAW: of two texts of capitals and digits, the one that comes first has the smaller number, and the other way round.
-- Assumes nothing.
use mathlib.Core.Path.{◌≡◌, refl, sym, ap, ap₂, ◌∙◌}
use mathlib.Core.Bool.{Bool, true, false, not, ◌&&◌, ◌||◌}
use mathlib.Core.List.{List, [], ◌∷◌, map}
use Prim.Native.Nat.{ℕ, zero, suc, ◌+◌, ◌*◌, ◌^◌, ◌≤◌, ◌<◌}
use native.Mathlib.Nat.{not-suc-le-zero, mul-pos, le_of_suc-le-suc, one-le-pow}
use native.Mathlib.Omega.{arith}
use lib.Arith.{digits_lt}
use lib.Dec.{ltb, eqb, leb, lit≤}
use lib.ListN.{length, length-map}
use borrow.Author.Tests.{ltb-true, ltb-false, eqb-true, leb-true, le-leb, eq-eqb}
use Rattle.text.specs.Class.{all, is_alnum}
use Rattle.text.specs.Code.{code_of, byte_of}
use Rattle.text.specs.Place.{value, all_in}
use Rattle.text.specs.Text.{packed}
use Rattle.text.specs.Order.{less}
use Rattle.text.proofs.Logic.{below, below_at, and_left, and_right, true_false, implied, not_fails}
use Rattle.text.proofs.Codes.{byte_code, alnum_all}
use Rattle.text.proofs.Places.{all_in_cons, value_lt}

module _ (B hi : ℕ) (h_b : hi < B) where
  value_less : (w : ℕ) (ds es : List ℕ) → length es ≤ w → length ds ≤ w → all_in 1 hi ds ≡ true → all_in 1 hi es ≡ true → less ds es ≡ true → value B w ds < value B w es
  unfolding value
  value_less zero [] [] h k a b l = true_false l refl
  value_less zero [] (e ∷ es) h k a b l = absurd (not-suc-le-zero h)
  value_less zero (d ∷ ds) es h k a b l = absurd (not-suc-le-zero k)
  value_less (suc w) [] [] h k a b l = true_false l refl
  value_less (suc w) [] (e ∷ es) h k a b l = omega (arith, mul-pos (all_in_cons 1 hi e es b).0 (one-le-pow w B (omega arith)))
  value_less (suc w) (d ∷ ds) [] h k a b l = true_false l refl
  value_less (suc w) (d ∷ ds) (e ∷ es) h k a b l =
      let p = all_in_cons 1 hi d ds a in
      let q = all_in_cons 1 hi e es b in
      go (ltb d e) refl (value_less w ds es (le_of_suc-le-suc h) (le_of_suc-le-suc k) p.2 q.2)
    where
      go : (t : Bool) → ltb d e ≡ t → (less ds es ≡ true → value B w ds < value B w es) → d * B ^ w + value B w ds < e * B ^ w + value B w es
      go true x r =
          let z : d * B ^ w + value B w ds < e * B ^ w = digits_lt (ltb-true d e x) (value_lt B hi h_b 1 w ds (all_in_cons 1 hi d ds a).2) in
          omega arith
      go false x r =
          let m : (eqb d e && less ds es) ≡ true = rw x at l in
          let i : d ≡ e = eqb-true d e (and_left (eqb d e) (less ds es) m) in
          rw i (omega (arith, r (and_right (eqb d e) (less ds es) m)))

-- the bytes of the codes 1 to 36 go up
rises : ℕ → ℕ → Bool
rises d e = not (leb d e) || leb (byte_of d) (byte_of e)

rises_all : below (λ d. below (rises d) 37) 37 ≡ true
unfolding rises byte_of
rises_all = refl

-- of two bytes with such codes the one with the lower code is the lower
code_order : (b c : ℕ) → 1 ≤ code_of b → code_of b ≤ 36 → 1 ≤ code_of c → code_of c ≤ 36 → code_of c ≤ code_of b → c ≤ b
unfolding rises
code_order b c h h' k k' o =
    let t : (not (leb (code_of c) (code_of b)) || leb (byte_of (code_of c)) (byte_of (code_of b))) ≡ true =
    below_at (rises (code_of c)) 37 (below_at (λ d. below (rises d) 37) 37 rises_all (code_of c) (omega arith)) (code_of b) (omega arith) in
    let l : byte_of (code_of c) ≤ byte_of (code_of b) =
    leb-true (byte_of (code_of c)) (byte_of (code_of b)) (implied (leb (code_of c) (code_of b)) (leb (byte_of (code_of c)) (byte_of (code_of b))) t (le-leb (code_of c) (code_of b) o)) in
    omega (arith, byte_code b h, byte_code c k)

codes_less : (s t : List ℕ) → all_in 1 36 (map code_of s) ≡ true → all_in 1 36 (map code_of t) ≡ true → less s t ≡ true → less (map code_of s) (map code_of t) ≡ true
codes_less [] [] a b l = l
codes_less [] (c ∷ t) a b l = refl
codes_less (b ∷ s) [] a e l = l
codes_less (b ∷ s) (c ∷ t) a e l =
    let p = all_in_cons 1 36 (code_of b) (map code_of s) a in
    let q = all_in_cons 1 36 (code_of c) (map code_of t) e in
    go (ltb b c) refl (ltb (code_of b) (code_of c)) refl (code_order b c p.0 p.1 q.0 q.1) (codes_less s t p.2 q.2)
  where
    go : (x : Bool) → ltb b c ≡ x → (y : Bool) → ltb (code_of b) (code_of c) ≡ y → (code_of c ≤ code_of b → c ≤ b) → (less s t ≡ true → less (map code_of s) (map code_of t) ≡ true)
        → (ltb (code_of b) (code_of c) || (eqb (code_of b) (code_of c) && less (map code_of s) (map code_of t))) ≡ true
    go x i true j o r = rw j
    go true i false j o r = absurd (omega (arith, ltb-true b c i, o (ltb-false (code_of b) (code_of c) j)))
    go false i false j o r =
        let m : (eqb b c && less s t) ≡ true = rw i at l in
        let z : b ≡ c = eqb-true b c (and_left (eqb b c) (less s t) m) in
        rw (j, eq-eqb (code_of b) (code_of c) (ap code_of z), r (and_right (eqb b c) (less s t) m))

-- of two texts that are not the same one comes first
pub less_total : (s t : List ℕ) → less s t ≡ false → less t s ≡ false → s ≡ t
less_total [] [] a b = refl
less_total [] (c ∷ t) a b = true_false refl a
less_total (b ∷ s) [] x y = true_false refl y
less_total (b ∷ s) (c ∷ t) x y = go (ltb b c) refl (ltb c b) refl (less_total s t)
  where
    go : (p : Bool) → ltb b c ≡ p → (q : Bool) → ltb c b ≡ q → (less s t ≡ false → less t s ≡ false → s ≡ t) → ◌≡◌ {A = List ℕ} (b ∷ s) (c ∷ t)
    go true i q j r = true_false refl (rw i at x)
    go false i true j r = true_false refl (rw j at y)
    go false i false j r =
        let e : b ≡ c = omega (arith, ltb-false b c i, ltb-false c b j) in
        let f : less s t ≡ false = rw (i, eq-eqb b c e) at x in
        let g : less t s ≡ false = rw (j, eq-eqb c b (sym e)) at y in
        ap₂ (λ (h : ℕ) (u : List ℕ). h ∷ u) e (r f g)

-- at most 12 capitals and digits
record Plain (s : List ℕ) : Type 0 where
  short : length s ≤ 12
  alnum : all is_alnum s ≡ true

first_less : (s t : List ℕ) → Plain s → Plain t → less s t ≡ true → packed s < packed t
unfolding packed
first_less s t a b l =
    let p = sym (alnum_all s) ∙ a.alnum in
    let q = sym (alnum_all t) ∙ b.alnum in
    value_less 38 36 (lit≤ tt) 12 (map code_of s) (map code_of t) (rw length-map b.short) (rw length-map a.short) p q (codes_less s t p q l)

module _ (s t : List ℕ) (short-s : length s ≤ 12) (alnum-s : all is_alnum s ≡ true) (short-t : length t ≤ 12) (alnum-t : all is_alnum t ≡ true) where
  plain_s : Plain s
  plain_s = record { short = short-s; alnum = alnum-s }

  plain_t : Plain t
  plain_t = record { short = short-t; alnum = alnum-t }

  pub order : less s t ≡ true → packed s < packed t
  order = first_less s t plain_s plain_t

  pub order_back : packed s < packed t → less s t ≡ true
  order_back h = not_fails (less s t) (λ f. go f (less t s) refl)
    where
      go : less s t ≡ false → (b : Bool) → less t s ≡ b → ⊥
      go f true q = omega (arith, first_less t s plain_t plain_s q)
      go f false q = omega (arith, ap packed (less_total s t f q))
