-- `say_part` is safe: the text that was written lies in the room. Assumes nothing.
use mathlib.Core.Path.{sym, ◌∙◌}
use Rattle.text.proofs.Wrote.{next_inside, next_part}
use Rattle.readings.proofs.say_part.Goals as goal

pub slice_bounds-room-end : goal.slice_bounds-room-end
slice_bounds-room-end c = next_inside _ _ _ _ (sym c.put.ensures.value ∙ c.in-Ok.is) c.put.ensures.out_after

pub slice_bounds-say-end-2 : goal.slice_bounds-say-end-2
slice_bounds-say-end-2 c = next_part _ _ _ _ (sym c.put.ensures.value ∙ c.in-Ok.is) c.put.ensures.out_after
