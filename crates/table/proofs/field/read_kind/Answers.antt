-- `table::field::read_kind` meets its contract: each arm is a case of the definition. Assumes nothing.
use mathlib.Core.Path.{◌∙◌}
use borrow.Author.Tests.{ne_eqb}
use Rattle.table.specs.Field.{read_kind}
use Rattle.table.proofs.field.read_kind.Goals as goal

pub returns-in-73 : goal.returns-in-73
unfolding read_kind
returns-in-73 c = c.read_ident.ensures ∙ rw c.in-73.is

pub returns-in-74 : goal.returns-in-74
unfolding read_kind
returns-in-74 c = c.read_tz_ident.ensures ∙ rw c.in-74.is

pub returns-in-90 : goal.returns-in-90
unfolding read_kind
returns-in-90 c = c.read_aircraft.ensures ∙ rw c.in-90.is

pub returns-in-122 : goal.returns-in-122
unfolding read_kind
returns-in-122 c = c.read_old_aircraft.ensures ∙ rw c.in-122.is

pub returns-in-82 : goal.returns-in-82
unfolding read_kind
returns-in-82 c = c.read_route.ensures ∙ rw c.in-82.is

pub returns-in_default : goal.returns-in_default
unfolding read_kind
returns-in_default c = let n = c.in_default.in_default-own.rest in
    c.read_word.ensures ∙ rw (ne_eqb _ _ n.0.0.0.0.1, ne_eqb _ _ n.0.0.0.1, ne_eqb _ _ n.0.0.1, ne_eqb _ _ n.0.1, ne_eqb _ _ n.1)
