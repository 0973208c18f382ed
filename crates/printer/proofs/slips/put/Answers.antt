-- `printer::slips::put` meets its contract: the line of the row's words is its line. Assumes nothing.
use mathlib.Core.Path.{ap, ◌∙◌}
use lib.ListN.{length}
use Rattle.text.specs.Text.{spliced}
use Rattle.printer.proofs.RowLines.{counted_there, slip_there, room_there}
use Rattle.printer.proofs.slips.put.Goals as goal

pub put_line-requires : goal.put_line-requires
put_line-requires c =
    (counted_there _ _ c.requires.p_in_bounds c.requires.board_value c.parts-words.ensures, room_there _ _ c.requires.p_in_bounds c.requires.board_value c.parts-words.ensures c.requires.board_in_bounds)

pub returns : goal.returns
returns c =
    let e = slip_there _ _ c.requires.p_in_bounds c.requires.board_value c.parts-words.ensures in
    record { value = c.put_line.ensures.value ∙ ap length e; out_after = c.put_line.ensures.out_after ∙ ap (spliced _ 0) e }
