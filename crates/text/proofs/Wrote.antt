-- A writer that has a text, and room for it, writes it: the bytes that stand then, and where they end. Assumes nothing.
use Rattle.std.specs.Prelude.{Ok}
use mathlib.Core.Path.{◌≡◌, sym, ap, ◌∙◌}
use mathlib.Core.Bool.{Bool, true}
use mathlib.Core.List.{List}
use Prim.Native.Nat.{ℕ, ◌+◌, ◌≤◌}
use native.Mathlib.Omega.{arith}
use lib.ListN.{length, take}
use lib.Seq.{length-take-le}
use Rattle.text.specs.Text.{spliced, written_next, written_bytes}
use Rattle.text.proofs.Laws.{has_room_lem, next_known}
use Rattle.text.proofs.Splice.{length-spliced, take-spliced}

-- a writer that has a text, and room for it, writes it
pub wrote : (vs out : List ℕ) (at : ℕ) {ok : Bool} {o : List ℕ} → ok ≡ true → at + length vs ≤ length out → o ≡ written_bytes ok vs out at → o ≡ spliced out at vs
wrote vs out at e h is = is ∙ sym (has_room_lem vs out at e h).1

-- the same where it answered a place
module _ (ok : Bool) (vs out : List ℕ) (at : ℕ) {n : ℕ} {o : List ℕ} (told : written_next ok vs out at ≡ Ok n) (is : o ≡ written_bytes ok vs out at) where
  pub next_bytes : o ≡ spliced out at vs
  next_bytes = let k = next_known vs out at told in wrote vs out at k.0 k.2 is

  -- the place lies in the buffer, so that what stands before it is a part of it
  pub next_inside : n ≤ length o
  next_inside =
      let k = next_known vs out at told in
      omega (arith, ap length next_bytes, length-spliced out vs at k.2, k.1, k.2)

  pub next_part : n ≡ length (take n o)
  next_part = sym (length-take-le n o next_inside)

-- at the start
module _ (ok : Bool) (vs out : List ℕ) {n : ℕ} {o : List ℕ} (told : written_next ok vs out 0 ≡ Ok n) (is : o ≡ written_bytes ok vs out 0) where
  pub next_size : n ≡ length vs
  next_size = omega (arith, (next_known vs out 0 told).1)

  pub next_text : take n o ≡ vs
  next_text = ap (take n) (next_bytes ok vs out 0 told is) ∙ take-spliced out vs n next_size
