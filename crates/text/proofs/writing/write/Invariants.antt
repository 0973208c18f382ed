-- `text::writing::write` meets its contract. The invariant: what is left, written from the place that is reached, makes what the whole makes.
-- Assumes nothing.
use mathlib.Core.Path.{◌≡◌}
use mathlib.Core.Bool.{true}
use mathlib.Core.List.{List, map}
use Prim.Native.Nat.{ℕ, ◌+◌, ◌-◌, ◌^◌, ◌≤◌, ◌<◌}
use lib.ListN.{length}
use lib.Seq.{sets}
use Rattle.text.specs.Code.{byte_of}
use Rattle.text.specs.Place.{digits, tight}
use Rattle.text.proofs.writing.write.Given as goal

pub record Inv (t at : ℕ) (out₀ out : List ℕ) (r w j : ℕ) : Type 0 where
  pub weight : w ≡ 38 ^ (12 - j)
  pub left : r < w
  pub tightly : tight 38 (12 - j) r ≡ true
  pub long : j + length (digits 38 (12 - j) r) ≡ length (digits 38 12 t)
  pub room : at + length (digits 38 12 t) ≤ length out₀
  pub same : length out ≡ length out₀
  pub rest : sets out (at + j) (map byte_of (digits 38 (12 - j) r)) ≡ sets out₀ at (map byte_of (digits 38 12 t))

abbrev pub invariant-loop-r : goal.invariant-loop-r
invariant-loop-r l = Inv l.t l.at l.initial.out l.out l.r l.w l.j

abbrev pub decreases-loop-r : goal.decreases-loop-r
decreases-loop-r l = 12 - l.j
