-- `printer::slips::parts` meets its contract: eight words of the row, each where it stands. Assumes nothing.
use Rattle.printer.proofs.RowLines.{parts_there}
use Rattle.printer.proofs.slips.parts.Goals as goal

pub returns : goal.returns
returns c = parts_there c.args.board.now c.args.p
