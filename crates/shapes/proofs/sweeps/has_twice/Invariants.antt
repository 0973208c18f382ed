-- `shapes::sweeps::has_twice` meets its contract: two b stand side by side up to i or from the byte before i on as they do in the whole.
-- Assumes nothing.
use mathlib.Core.Path.{◌≡◌}
use mathlib.Core.Bool.{Bool, ◌||◌}
use mathlib.Core.List.{List}
use Prim.Native.Nat.{ℕ, ◌-◌, ◌≤◌}
use lib.ListN.{drop}
use Rattle.shapes.specs.Many.{twice}
use Rattle.shapes.proofs.sweeps.has_twice.Given as goal

pub record Inv (b : ℕ) (s : List ℕ) (seen : Bool) (i : ℕ) : Type 0 where
  pub at : 1 ≤ i
  pub rest : (seen || twice b (drop (i - 1) s)) ≡ twice b s

abbrev pub invariant-loop-i : goal.invariant-loop-i
invariant-loop-i l = Inv l.b l.s l.some l.i
