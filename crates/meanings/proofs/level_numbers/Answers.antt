-- `meanings::level_numbers` meets its contract: it asks the text that `show` left. Assumes nothing.
use mathlib.Core.Path.{sym, ◌∙◌}
use lib.Seq.{length-take-le}
use Rattle.meanings.proofs.Blocks.{level_told}
use Rattle.meanings.proofs.Laws.{levels_in_lem}
use Rattle.meanings.proofs.level_numbers.Goals as goal

pub slice_bounds-room-end : goal.slice_bounds-room-end
slice_bounds-room-end c = c.show-n.ensures.upper_bound

pub slice_bounds-levels_of-end : goal.slice_bounds-levels_of-end
slice_bounds-levels_of-end c = sym (length-take-le _ _ c.show-n.ensures.upper_bound)

pub returns : goal.returns
returns c =
    let both = level_told _ (c.levels_of.ensures ∙ levels_in_lem _ c.show-n.ensures.room_after) in
    record { value = both.0; tells_in = both.1 }
