-- `table::kinds::plain` meets its contract. Assumes nothing.
use mathlib.Core.Path.{◌∙◌}
use borrow.Author.Tests.{ne_eqb}
use Rattle.table.specs.Field.{plain}
use Rattle.table.proofs.kinds.plain.Goals as goal

pub returns-in-87 : goal.returns-in-87
unfolding plain
returns-in-87 c = c.content.ensures ∙ rw c.in-87.is

pub returns-in-119 : goal.returns-in-119
unfolding plain
returns-in-119 c = c.old_content.ensures ∙ rw c.in-119.is

pub returns-in-72 : goal.returns-in-72
unfolding plain
returns-in-72 c = rw c.in-72.is

pub returns-in_default : goal.returns-in_default
unfolding plain
returns-in_default c = let n = c.in_default.in_default-own.rest in rw (ne_eqb _ _ n.0.0.1, ne_eqb _ _ n.0.1, ne_eqb _ _ n.1)
