-- A number of 64 bits with a sign that is not below nothing, as one without. Assumes nothing.
use mathlib.Core.Path.{◌≡◌, refl}
use mathlib.Core.Bool.{Bool, true, false}
use Prim.Native.Nat.{ℕ, ◌^◌, ◌<◌}
use native.Mathlib.Omega.{arith}
use lib.Dec.{T, ltb}
use lib.IntN.{pos, nat_abs}
use lib.Signed.{lt_z, non_neg}
use mir.Syntax.{w64}
use mir.Val.{Fits, to_z}
use mir.Facts.{Fits-of_lt}
use borrow.Author.Tests.{ltb-true}
use Rattle.text.proofs.Logic.{true_false}

pub record NotBelow (n : ℕ) : Type 0 where
  pub positive : T (non_neg (to_z w64 n))
  pub fits : Fits w64 (nat_abs (to_z w64 n))
  pub near : nat_abs (to_z w64 n) < 2 ^ 63

pub not_below : (n : ℕ) → lt_z (to_z w64 n) (pos 0) ≡ false → NotBelow n
not_below n e = go (ltb n (2 ^ 63)) refl
  where
    go : (b : Bool) → ltb n (2 ^ 63) ≡ b → NotBelow n
    go true q =
        let h : n < 2 ^ 63 = ltb-true n (2 ^ 63) q in
        record { positive = rw q tt; fits = rw q (Fits-of_lt (omega arith)); near = rw q h }
    go false q = true_false refl (rw q at e)
