-- `table::walk::refused` meets its contract. Assumes nothing.
use mathlib.Core.Path.{refl}
use Rattle.table.specs.Read.{padded}
use Rattle.table.proofs.walk.refused.Goals as goal

pub returns : goal.returns
unfolding padded
returns c = record { answer_value = refl; values_value = refl }
