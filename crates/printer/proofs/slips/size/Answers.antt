-- `printer::slips::size` meets its contract: the line of the row's words is its line. Assumes nothing.
use mathlib.Core.Path.{ap, ◌∙◌}
use lib.ListN.{length}
use Rattle.printer.proofs.RowLines.{counted_there, slip_there}
use Rattle.printer.proofs.slips.size.Goals as goal

pub line_size-requires : goal.line_size-requires
line_size-requires c = counted_there _ _ c.requires.p_in_bounds c.requires.board_value c.parts-words.ensures

pub returns : goal.returns
returns c =
    c.line_size.ensures ∙ ap length (slip_there _ _ c.requires.p_in_bounds c.requires.board_value c.parts-words.ensures)
