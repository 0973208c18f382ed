-- `fields::aircraft::Aircraft::holds` meets its contract. Assumes nothing.
use mathlib.Core.Path.{sym, ◌∙◌}
use borrow.Author.Tests.{eq-eqb, ne_eqb}
use Rattle.fields.specs.Aircraft.{is_aircraft_value}
use Rattle.fields.proofs.aircraft.Aircraft.holds.Goals as goal

pub returns-then-self-eq0 : goal.returns-then-self-eq0
unfolding is_aircraft_value
returns-then-self-eq0 c = rw (sym c.holds_pair.ensures ∙ c.if-holds_pair.true, eq-eqb _ _ c.if-self-eq0.true)

pub returns-else-self-eq0 : goal.returns-else-self-eq0
unfolding is_aircraft_value
returns-else-self-eq0 c = c.holds.ensures ∙ rw (sym c.holds_pair.ensures ∙ c.if-holds_pair.true, ne_eqb _ _ c.if-self-eq0.false)

pub returns-else-holds_pair : goal.returns-else-holds_pair
unfolding is_aircraft_value
returns-else-holds_pair c = c.if-holds_pair.false ∙ rw (sym c.holds_pair.ensures ∙ c.if-holds_pair.false)
