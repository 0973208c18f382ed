-- `line::read_old` meets its contract. Assumes nothing.
use mathlib.Core.Path.{ap, ◌∙◌}
use Rattle.rules.specs.declared.Rule.TheVariants.{Old}
use Rattle.line.specs.Read.{oldly, old_read_of}
use Rattle.line.proofs.Cases.{told}
use Rattle.line.proofs.Handed.{oldly_as}
use Rattle.line.proofs.read_old.Goals as goal

pub returns : goal.returns
unfolding old_read_of
returns c =
    let both = told Old _ (oldly_as _ _ c.map.ensures.cases ∙ ap oldly c.read_by.ensures) in
    record { value = both.0; case = both.1 }
