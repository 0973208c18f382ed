-- `rules::clocks::is_clock` meets its contract: four digits, and what they say as hours and minutes. Assumes nothing.
use mathlib.Core.Path.{sym, ◌∙◌}
use borrow.Author.Tests.{ne_eqb}
use Rattle.text.specs.Bytes.{bytes}
use Rattle.shapes.proofs.Laws.{fits_apart}
use Rattle.rules.specs.Form.{is_clock}
use Rattle.rules.proofs.ClockNumbers.{clock_is}
use Rattle.rules.proofs.clocks.is_clock.Goals as goal

pub returns-then-s-eq4 : goal.returns-then-s-eq4
returns-then-s-eq4 c = c.is_minutes.ensures ∙ clock_is _ c.if-s-eq4.true

pub returns-else-s-eq4 : goal.returns-else-s-eq4
unfolding is_clock
returns-else-s-eq4 c = rw (ne_eqb _ _ c.if-s-eq4.false, fits_apart (bytes "dddd") _ (λ e. c.if-s-eq4.false (sym e)))
