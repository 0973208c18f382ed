-- `table::kinds::old_content` meets its contract: of the eight contents the old feed changes that of 03 alone. Assumes nothing.
use mathlib.Core.Path.{◌∙◌}
use Rattle.table.specs.Amends.{content_of}
use Rattle.table.proofs.KindRules.{content_same}
use Rattle.table.proofs.kinds.old_content.Goals as goal

pub returns-in-2 : goal.returns-in-2
unfolding content_of
returns-in-2 c = rw c.in-2.is

pub returns-in_default : goal.returns-in_default
returns-in_default c = c.content.ensures ∙ content_same _ c.in_default.in_default-own.rest.1
