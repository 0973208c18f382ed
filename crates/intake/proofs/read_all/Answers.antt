-- `read_all` meets its contract: what is kept stays so, block after block, until no more comes. Assumes nothing.
use mathlib.Core.Path.{refl, sym, ◌∙◌}
use mathlib.Core.List.{[]}
use Rattle.intake.proofs.Days.{kept_first, kept_more, more_is, less_to_come}
use Rattle.intake.proofs.read_all.Goals as goal

pub loop-block-init : goal.loop-block-init
loop-block-init c =
    let i = c.start.ensures in
    (([], kept_first _ _ c.requires, sym i.0), refl, refl, refl)

pub read_block-day-requires : goal.read_block-day-requires
read_block-day-requires c = c.loop-block.invariant.0

pub loop-block-smaller : goal.loop-block-smaller
loop-block-smaller c =
    less_to_come c.loop-block.day c.read_block-day.result _ c.read_block-day.ensures.came (more_is _ (sym c.is_more.ensures ∙ c.loop-block-test.true))

pub loop-block-preserved : goal.loop-block-preserved
loop-block-preserved c =
    let l = c.loop-block.invariant in
    let k = c.read_block-day.auto in
    (kept_more _ _ _ _ _ _ c.read_block-day.result c.read_block-day.ensures l.0, k.block ∙ l.1, k.board ∙ l.2, k.held ∙ l.3)

pub returns : goal.returns
returns c = (c.loop-block.invariant.0, sym c.is_more.ensures ∙ c.loop-block-test.false)
