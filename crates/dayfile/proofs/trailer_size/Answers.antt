-- `trailer_size` meets its contract. Assumes nothing.
use mathlib.Core.Path.{refl}
use native.Mathlib.Omega.{arith}
use Rattle.dayfile.specs.DayFile.{trailer_size}
use Rattle.dayfile.proofs.trailer_size.Goals as goal

pub returns : goal.returns
unfolding trailer_size
returns c = record { value = rw (← c.trailer.view_is) refl; upper_bound = omega (arith, c.trailer.invariant.0) }
