-- `meanings::position_minutes` meets its contract: it asks the text that `show` left. Assumes nothing.
use mathlib.Core.Path.{sym, ◌∙◌}
use lib.Seq.{length-take-le}
use Rattle.meanings.proofs.Laws.{minutes_in_lem}
use Rattle.meanings.proofs.position_minutes.Goals as goal

pub slice_bounds-room-end : goal.slice_bounds-room-end
slice_bounds-room-end c = c.show-n.ensures.upper_bound

pub slice_bounds-minutes_of-end : goal.slice_bounds-minutes_of-end
slice_bounds-minutes_of-end c = sym (length-take-le _ _ c.show-n.ensures.upper_bound)

pub returns : goal.returns
returns c = c.minutes_of.ensures ∙ minutes_in_lem _ c.show-n.ensures.room_after
