-- `text::decimals::put` meets its contract. The invariant: the k digits of what is left, written from place `at`, make what all digits of n
-- make. Assumes nothing.
use mathlib.Core.Path.{◌≡◌}
use mathlib.Core.List.{List}
use Prim.Native.Nat.{ℕ, ◌+◌, ◌^◌, ◌≤◌, ◌<◌}
use lib.ListN.{length}
use Rattle.text.specs.Number.{padded}
use Rattle.text.specs.Text.{spliced}
use Rattle.text.specs.Decimal.{decimal}
use Rattle.text.proofs.decimals.put.Given as goal

pub record Inv (n at w : ℕ) (out₀ out : List ℕ) (r k : ℕ) : Type 0 where
  pub long : w ≡ length (decimal n)
  pub some : k ≤ w
  pub small : r < 10 ^ k
  pub room : at + w ≤ length out₀
  pub same : length out ≡ length out₀
  pub rest : spliced out at (padded 10 k r) ≡ spliced out₀ at (decimal n)

abbrev pub invariant-loop-k : goal.invariant-loop-k
invariant-loop-k l = Inv l.n l.at l.w l.initial.out l.out l.r l.k
