-- `rules::clocks::is_stamp` meets its contract: what the number says. Assumes nothing.
use mathlib.Core.Path.{sym}
use borrow.Author.Tests.{ne_eqb}
use Rattle.text.specs.Bytes.{bytes}
use Rattle.shapes.proofs.Laws.{fits_apart}
use Rattle.rules.specs.Form.{is_stamp}
use Rattle.rules.proofs.ClockNumbers.{stamp_told}
use Rattle.rules.proofs.clocks.is_stamp.Goals as goal

pub returns-then-s-eq8 : goal.returns-then-s-eq8
returns-then-s-eq8 c = stamp_told _ c.if-s-eq8.true _ _ c.number.ensures c.is_some_and.ensures

pub returns-else-s-eq8 : goal.returns-else-s-eq8
unfolding is_stamp
returns-else-s-eq8 c = rw (ne_eqb _ _ c.if-s-eq8.false, fits_apart (bytes "dddddddd") _ (λ e. c.if-s-eq8.false (sym e)))
