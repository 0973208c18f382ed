-- `fields::pairs::holds_pair` meets its contract. Assumes nothing.
use mathlib.Core.Path.{sym, ◌∙◌}
use borrow.Author.Tests.{eq-eqb, ne_eqb}
use Rattle.fields.specs.Pair.{is_pair}
use Rattle.fields.proofs.pairs.holds_pair.Goals as goal

pub returns-then-b-eq0 : goal.returns-then-b-eq0
unfolding is_pair
returns-then-b-eq0 c = rw (sym c.holds.ensures ∙ c.if-holds.true, eq-eqb _ _ c.if-b-eq0.true)

pub returns-else-b-eq0 : goal.returns-else-b-eq0
unfolding is_pair
returns-else-b-eq0 c = c.holds-else-b-eq0.ensures ∙ rw (sym c.holds.ensures ∙ c.if-holds.true, ne_eqb _ _ c.if-b-eq0.false)

pub returns-else-holds : goal.returns-else-holds
unfolding is_pair
returns-else-holds c = c.if-holds.false ∙ rw (sym c.holds.ensures ∙ c.if-holds.false)
