-- The way of `Plan::filed_level`: when a word begins with P. Assumes nothing.
use mathlib.Core.Path.{◌≡◌, refl}
use mathlib.Core.Bool.{Bool, true, false}
use mathlib.Core.List.{map}
use Prim.Native.Char.{code}
use Prim.Native.Nat.{ℕ, suc, ◌+◌, ◌/◌, ◌^◌, ◌<◌}
use native.Mathlib.Omega.{arith}
use lib.Dec.{eqb, leb}
use lib.ListN.{get_or}
use borrow.Author.Tests.{eq-eqb, ne_eqb, eqb-true, eqb-false, leb-true, leb-false}
use Rattle.text.specs.Code.{byte_of}
use Rattle.text.specs.Place.{digits}
use Rattle.text.specs.Text.{text_of}
use Rattle.text.proofs.Logic.{same_test}
use Rattle.text.proofs.Places.{digits_zero, digits_suc}

-- only the code of P has the byte of P
p_code : (d : ℕ) → eqb (byte_of d) (code "P") ≡ eqb d 26
unfolding byte_of
p_code d = go (leb d 10) refl (leb d 36) refl
  where
    go : (a : Bool) → leb d 10 ≡ a → (b : Bool) → leb d 36 ≡ b → eqb (byte_of d) (code "P") ≡ eqb d 26
    go true q b z = rw (q, ne_eqb (d + 47) 80 (λ e. omega (arith, leb-true d 10 q)), ne_eqb d 26 (λ e. omega (arith, leb-true d 10 q)))
    go false q true z = rw (q, z) (same_test (eqb (d + 54) 80) (eqb d 26) (λ e. eq-eqb d 26 (omega (arith, eqb-true (d + 54) 80 e))) (λ e. eq-eqb (d + 54) 80 (omega (arith, eqb-true d 26 e))))
    go false q false z = rw (q, z, ne_eqb d 26 (λ e. omega (arith, leb-false d 36 z)))

first_byte : (B w n : ℕ) → 0 < n → get_or (map byte_of (digits B (suc w) n)) 0 0 ≡ byte_of (n / B ^ w)
first_byte B w n h = rw (digits_suc B w n h)

-- a word begins with P exactly if its first place has the code of P
pub begins_p : (n : ℕ) → eqb (get_or (text_of n) 0 0) (code "P") ≡ eqb (n / 238572050223552512) 26
unfolding text_of
begins_p n = go (eqb n 0) refl
  where
    go : (t : Bool) → eqb n 0 ≡ t → eqb (get_or (map byte_of (digits 38 12 n)) 0 0) (code "P") ≡ eqb (n / 238572050223552512) 26
    go true q = rw (eqb-true n 0 q, digits_zero 38 12)
    go false q =
        let e : n / 38 ^ 11 ≡ n / 238572050223552512 = omega arith in
        rw (first_byte 38 11 n (omega (arith, eqb-false n 0 q)), e) (p_code (n / 238572050223552512))
