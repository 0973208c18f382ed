-- `meanings::stamp_moment` meets its contract: it asks the text that `show` left. Assumes nothing.
use mathlib.Core.Path.{sym, ◌∙◌}
use lib.Seq.{length-take-le}
use Rattle.meanings.proofs.Laws.{moment_in_lem}
use Rattle.meanings.proofs.stamp_moment.Goals as goal

pub slice_bounds-room-end : goal.slice_bounds-room-end
slice_bounds-room-end c = c.show-n.ensures.upper_bound

pub slice_bounds-moment_of-end : goal.slice_bounds-moment_of-end
slice_bounds-moment_of-end c = sym (length-take-le _ _ c.show-n.ensures.upper_bound)

pub returns : goal.returns
returns c = c.moment_of.ensures ∙ moment_in_lem _ c.show-n.ensures.room_after
