-- `text::writing::size` meets its contract. The invariant: the digits of what is left, and whether they are tight, as they are of the whole.
-- Assumes nothing.
use mathlib.Core.Path.{◌≡◌}
use Prim.Native.Nat.{ℕ, ◌+◌, ◌-◌, ◌^◌, ◌<◌}
use lib.ListN.{length}
use Rattle.text.specs.Place.{digits, tight}
use Rattle.text.proofs.writing.size.Given as goal

pub record Inv (t r w k : ℕ) : Type 0 where
  pub small : t < 38 ^ 12
  pub weight : w ≡ 38 ^ (12 - k)
  pub left : r < w
  pub tightly : tight 38 (12 - k) r ≡ tight 38 12 t
  pub long : k + length (digits 38 (12 - k) r) ≡ length (digits 38 12 t)

abbrev pub invariant-loop-r : goal.invariant-loop-r
invariant-loop-r l = Inv l.t l.r l.w l.k

abbrev pub decreases-loop-r : goal.decreases-loop-r
decreases-loop-r l = 12 - l.k
