-- `sweep_on` meets its contract: what it walked is the next windows' part of the sweep. Assumes nothing.
use native.Mathlib.Omega.{arith}
use Rattle.dayfile.proofs.Windows.{sweeps}
use Rattle.dayfile.proofs.walking.sweep_on.Goals as goal

pub returns : goal.returns
returns c = sweeps c.args.day c.args.sweep _ _ c.requires _ c.walk-walked.ensures

pub overflow_add-result-2 : goal.overflow_add-result-2
overflow_add-result-2 c = omega (arith, (returns c).most)
