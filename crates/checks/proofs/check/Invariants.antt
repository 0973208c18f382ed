-- `checks::check` meets its contract: what was said so far is what is said of the bytes used so far. Assumes nothing.
use mathlib.Core.List.{List}
use mathlib.Core.Path.{◌≡◌}
use Prim.Native.Nat.{ℕ, ◌≤◌}
use lib.ListN.{length, take, drop}
use Rattle.checks.specs.Part.{Adds, Ready}
use Rattle.checks.specs.declared.Asked.{Asked}
use Rattle.checks.specs.declared.Sums.{Sums}
use Rattle.checks.proofs.check.Given as goal

pub record Inv (asked : Asked) (held₀ : List ℕ) (s₀ : Sums) (part out₀ held out : List ℕ) (s : Sums) (rest : List ℕ) (at : ℕ) : Type 0 where
  pub ready : Ready held₀ s₀ part (length out₀)
  pub used : ℕ
  pub inside : used ≤ length part
  pub left : rest ≡ drop used part
  pub adds : Adds asked held₀ s₀ (take used part) out₀ 0 held s out at

abbrev pub invariant-loop-rest : goal.invariant-loop-rest
invariant-loop-rest l = Inv l.asked l.initial.held l.initial.now l.part l.initial.out l.held l.out l.now l.rest l.at

abbrev pub decreases-loop-rest : goal.decreases-loop-rest
decreases-loop-rest l = length l.rest
