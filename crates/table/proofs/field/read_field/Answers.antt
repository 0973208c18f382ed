-- `table::field::read_field` meets its contract: each arm is a case of the definition. Assumes nothing.
use mathlib.Core.Path.{◌∙◌}
use borrow.Author.Tests.{ne_eqb}
use Rattle.table.specs.Field.{read_in, follows, plain}
use Rattle.table.proofs.field.read_field.Goals as goal

pub returns-in-66 : goal.returns-in-66
unfolding read_in follows plain
returns-in-66 c = c.read_number.ensures ∙ rw c.in-66.is

pub returns-in-72 : goal.returns-in-72
unfolding read_in follows plain
returns-in-72 c = c.read_plan_time.ensures ∙ rw c.in-72.is

pub returns-in-87 : goal.returns-in-87
unfolding read_in follows plain
returns-in-87 c = c.read_kind.ensures ∙ rw (c.in-87.is, c.content.ensures)

pub returns-in-119 : goal.returns-in-119
unfolding read_in follows plain
returns-in-119 c = c.read_kind-in-119.ensures ∙ rw (c.in-119.is, c.old_content.ensures)

pub returns-in_default : goal.returns-in_default
unfolding read_in follows plain
returns-in_default c = let n = c.in_default.in_default-own.rest in
    c.read_kind-in_default.ensures ∙ rw (ne_eqb _ _ n.0.0.0.1, ne_eqb _ _ n.0.0.1, ne_eqb _ _ n.0.1, ne_eqb _ _ n.1)
