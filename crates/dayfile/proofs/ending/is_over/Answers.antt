-- `ending::is_over` meets its contract. Assumes nothing.
use mathlib.Core.Path.{◌∙◌}
use borrow.Author.Tests.{lt-ltb}
use Rattle.dayfile.proofs.Keeps.{over_many, over_by}
use Rattle.dayfile.proofs.ending.is_over.Goals as goal

pub returns-then-place-trailer : goal.returns-then-place-trailer
returns-then-place-trailer c = rw (← c.trailer.view_is) (lt-ltb _ _ c.if-place-trailer.true ∙ over_many _ c.args.place c.if-place-trailer.true)

pub returns-else-place-trailer : goal.returns-else-place-trailer
returns-else-place-trailer c = rw (← c.trailer.view_is) (over_by _ c.args.place c.if-place-trailer.false)
