-- `shapes::sweeps::has_twice` meets its contract: two b stand side by side up to i or from the byte before i on as they do in the whole.
-- Assumes nothing.
use mathlib.Core.Path.{◌≡◌, refl}
use mathlib.Core.Bool.{Bool, false, ◌&&◌, ◌||◌, or-false, or_assoc}
use mathlib.Core.List.{List, [], ◌∷◌}
use Prim.Native.Nat.{ℕ, ◌+◌, ◌-◌, ◌≤◌, ◌<◌}
use native.Mathlib.Omega.{arith}
use lib.Dec.{eqb}
use lib.ListN.{length, get_or, drop, length-drop}
use Rattle.shapes.proofs.Laws.{next_byte}
use Rattle.shapes.specs.Many.{twice}
use Rattle.shapes.proofs.sweeps.has_twice.Invariants.{Inv}
use Rattle.shapes.proofs.sweeps.has_twice.Goals as goal

-- one byte is no two
not_twice : (b : ℕ) (s : List ℕ) → length s ≤ 1 → twice b s ≡ false
unfolding twice
not_twice b [] h = refl
not_twice b (x ∷ []) h = refl
not_twice b (x ∷ (y ∷ s)) h = absurd (omega arith)

module _ {b : ℕ} {s : List ℕ} {seen : Bool} {i : ℕ} (v : Inv b s seen i) where
  done : length s ≤ i → seen ≡ twice b s
  done h = rw (not_twice b (drop (i - 1) s) (omega (arith, length-drop (i - 1) s)), or-false) at v.rest

  again : i < length s → Inv b s (seen || (eqb (get_or s (i - 1) 0) b && eqb (get_or s i 0) b)) (i + 1)
  unfolding twice
  again h =
      let l : i - 1 < length s = omega arith in
      let e : i - 1 + 1 ≡ i = omega (arith, v.at) in
      let f : i + 1 - 1 ≡ i = omega arith in
      record { at = omega arith; rest = simp (f, next_byte s i h, or_assoc) (simp (next_byte s (i - 1) l, e, next_byte s i h) at v.rest) }

pub loop-i-init : goal.loop-i-init
loop-i-init c = record { at = omega arith; rest = refl }

pub loop-i-preserved : goal.loop-i-preserved
loop-i-preserved c = again c.loop-i.invariant c.loop-i-test.true

pub returns : goal.returns
returns c = done c.loop-i.invariant c.loop-i-test.false
