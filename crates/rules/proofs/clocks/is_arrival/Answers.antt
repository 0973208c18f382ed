-- `rules::clocks::is_arrival` meets its contract: each way out is a case of the definition. Assumes nothing.
use mathlib.Core.Path.{sym, ◌∙◌}
use Rattle.rules.specs.Form.{is_arrival}
use Rattle.rules.proofs.clocks.is_arrival.Goals as goal

pub returns-then-is_clock : goal.returns-then-is_clock
unfolding is_arrival
returns-then-is_clock c = c.if-is_clock.true ∙ rw (sym c.is_clock.ensures ∙ c.if-is_clock.true)

pub returns-else-is_clock : goal.returns-else-is_clock
unfolding is_arrival
returns-else-is_clock c = c.is_lettered.ensures ∙ rw (sym c.is_clock.ensures ∙ c.if-is_clock.false)
