-- `work::keep_all` meets its contract: what is stored stays so, block after block, until no more comes, fits or is taken. Assumes nothing.
use mathlib.Core.Path.{refl, sym, ◌∙◌}
use native.Mathlib.Omega.{arith}
use Rattle.intake.proofs.Desks.{less_still}
use Rattle.keeper.proofs.Blocks.{on_is, first_stored}
use Rattle.keeper.proofs.work.keep_all.Goals as goal

pub loop-block-init : goal.loop-block-init
loop-block-init c =
    let i = c.start.ensures in
    let o = c.requires.total_value in
    (first_stored _ _ c.requires.held_len _ i.0 _ o.0, refl, refl, refl, refl)

pub keep_block-work-requires : goal.keep_block-work-requires
keep_block-work-requires c =
    let v = c.loop-block.invariant in
    record {
      stored = v.0;
      work_value = sym c.is_on.ensures ∙ c.loop-block-test.true;
      block_in_bounds = omega (arith, v.1, v.3, c.requires.block_in_bounds);
      offsets_len = v.4 ∙ c.requires.offsets_len;
    }

pub loop-block-smaller : goal.loop-block-smaller
loop-block-smaller c =
    less_still c.loop-block.work.input c.keep_block-work.result.input _ c.keep_block-work.ensures.came
    (on_is _ (sym c.is_on.ensures ∙ c.loop-block-test.true)).0

pub loop-block-preserved : goal.loop-block-preserved
loop-block-preserved c =
    let v = c.loop-block.invariant in
    let k = c.keep_block-work.auto in
    (c.keep_block-work.ensures.kept, k.block ∙ v.1, k.held ∙ v.2, k.out ∙ v.3, k.offsets ∙ v.4)

pub returns : goal.returns
returns c = (c.loop-block.invariant.0, sym c.is_on.ensures ∙ c.loop-block-test.false)
