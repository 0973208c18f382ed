-- `meanings::in_minutes` meets its contract. Assumes nothing.
use mathlib.Core.Path.{refl}
use native.Mathlib.Omega.{arith}
use Rattle.meanings.specs.Meaning.{in_minutes}
use Rattle.meanings.proofs.in_minutes.Goals as goal

pub returns : goal.returns
unfolding in_minutes
returns c = record { value = refl; upper_bound = omega arith }
