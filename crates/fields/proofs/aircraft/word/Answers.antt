-- `fields::aircraft::word` meets its contract. Assumes nothing.
use mathlib.Core.Path.{ap, ◌∙◌}
use borrow.Author.Tests.{eq-eqb, ne_eqb}
use Rattle.fields.specs.Aircraft.{after_prefix, aircraft_word}
use Rattle.fields.proofs.aircraft.word.Goals as goal

pub returns-in_err-tail : goal.returns-in_err-tail
unfolding aircraft_word
returns-in_err-tail c = c.from_residual.ensures ∙ ap (after_prefix _) c.in_err-tail.ensures

pub returns-then-a-eq0 : goal.returns-then-a-eq0
unfolding aircraft_word
returns-then-a-eq0 c = (rw (eq-eqb _ _ c.if-a-eq0.true)) ∙ ap (after_prefix _) c.in_ok-tail.ensures

pub returns-else-a-eq0 : goal.returns-else-a-eq0
unfolding aircraft_word
returns-else-a-eq0 c = c.join.ensures ∙ (rw (ne_eqb _ _ c.if-a-eq0.false)) ∙ ap (after_prefix _) c.in_ok-tail.ensures
