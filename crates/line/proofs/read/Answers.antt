-- `line::read` meets its contract. Assumes nothing.
use mathlib.Core.Path.{ap, ◌∙◌}
use Rattle.rules.specs.declared.Rule.TheVariants.{New}
use Rattle.line.specs.Read.{newly, read_of}
use Rattle.line.proofs.Cases.{told}
use Rattle.line.proofs.Handed.{newly_as}
use Rattle.line.proofs.read.Goals as goal

pub returns : goal.returns
unfolding read_of
returns c =
    let both = told New _ (newly_as _ _ c.map.ensures.cases ∙ ap newly c.read_by.ensures) in
    record { value = both.0; case = both.1 }
