-- `text::writing::join` meets its contract: both texts and the slash stand at the start of twelve bytes, and are packed there.
-- Assumes nothing.
use mathlib.Core.Path.{refl, sym, ◌∙◌}
use native.Mathlib.Omega.{arith}
use lib.Seq.{length-take-le}
use Rattle.text.proofs.Joined.{join_unwritten, join_full, join_unfinished, sized, join_end, join_both}
use Rattle.text.proofs.writing.join.Goals as goal

pub returns-then-n-ge12 : goal.returns-then-n-ge12
returns-then-n-ge12 c =
    join_full _ _ _ _ _ refl (sym c.put.ensures.value ∙ c.in-Ok.is) c.put.ensures.out_after c.if-n-ge12.true

pub slice_bounds-room-end : goal.slice_bounds-room-end
slice_bounds-room-end c =
    omega (arith, join_end _ _ _ _ _ refl (sym c.put.ensures.value ∙ c.in-Ok.is) c.put.ensures.out_after c.if-n-ge12.false _ _ (sym c.put-2.ensures.value ∙ c.in-Ok-put.is) c.put-2.ensures.out_after, c.put-2.auto.out, sized _ 0 _ _ _ refl (sym c.put.ensures.value ∙ c.in-Ok.is) c.put.ensures.out_after c.if-n-ge12.false)

pub slice_bounds-pack-end : goal.slice_bounds-pack-end
slice_bounds-pack-end c =
    sym (length-take-le _ _ (omega (arith, join_end _ _ _ _ _ refl (sym c.put.ensures.value ∙ c.in-Ok.is) c.put.ensures.out_after c.if-n-ge12.false _ _ (sym c.put-2.ensures.value ∙ c.in-Ok-put.is) c.put-2.ensures.out_after)))

pub returns-in_default : goal.returns-in_default
returns-in_default c = join_unwritten _ _ _ refl _ (sym c.put.ensures.value ∙ c.in_default.is)

pub returns-in_default-put : goal.returns-in_default-put
returns-in_default-put c =
    join_unfinished _ _ _ _ _ refl (sym c.put.ensures.value ∙ c.in-Ok.is) c.put.ensures.out_after c.if-n-ge12.false _ (sym c.put-2.ensures.value ∙ c.in_default-put.is)

pub returns : goal.returns
returns c =
    c.pack.ensures ∙ join_both _ _ _ _ _ refl (sym c.put.ensures.value ∙ c.in-Ok.is) c.put.ensures.out_after c.if-n-ge12.false _ _ (sym c.put-2.ensures.value ∙ c.in-Ok-put.is) c.put-2.ensures.out_after
