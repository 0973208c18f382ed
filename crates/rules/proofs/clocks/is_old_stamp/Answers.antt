-- `rules::clocks::is_old_stamp` meets its contract: what the number says. Assumes nothing.
use mathlib.Core.Path.{sym}
use borrow.Author.Tests.{ne_eqb}
use Rattle.text.specs.Bytes.{bytes}
use Rattle.shapes.proofs.Laws.{fits_apart}
use Rattle.rules.specs.Form.{is_old_stamp}
use Rattle.rules.proofs.ClockNumbers.{old_stamp_told}
use Rattle.rules.proofs.clocks.is_old_stamp.Goals as goal

pub returns-then-s-eq6 : goal.returns-then-s-eq6
returns-then-s-eq6 c = old_stamp_told _ c.if-s-eq6.true _ _ c.number.ensures c.is_some_and.ensures

pub returns-else-s-eq6 : goal.returns-else-s-eq6
unfolding is_old_stamp
returns-else-s-eq6 c = rw (ne_eqb _ _ c.if-s-eq6.false, fits_apart (bytes "dddddd") _ (λ e. c.if-s-eq6.false (sym e)))
