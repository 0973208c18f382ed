-- `checking::check_all` meets its contract: what is kept stays so, block after block, until no more comes or is taken. Assumes nothing.
use mathlib.Core.Path.{refl, sym, ◌∙◌}
use native.Mathlib.Omega.{arith}
use Rattle.intake.proofs.Desks.{on_is, first_kept, less_still}
use Rattle.intake.proofs.checking.check_all.Goals as goal

pub loop-asked-init : goal.loop-asked-init
loop-asked-init c =
    let i = c.start.ensures in
    let o = c.start-2.ensures in
    (first_kept c.args.asked _ c.requires.held_len _ i.0 _ o.0, refl, refl, refl)

pub check_block-work-requires : goal.check_block-work-requires
check_block-work-requires c =
    let v = c.loop-asked.invariant in
    record { kept = v.0; work_value = sym c.is_on.ensures ∙ c.loop-asked-test.true; block_in_bounds = omega (arith, v.1, v.3, c.requires.block_in_bounds) }

pub loop-asked-smaller : goal.loop-asked-smaller
loop-asked-smaller c =
    less_still c.loop-asked.work.input c.check_block-work.result.input _ c.check_block-work.ensures.came
    (on_is _ (sym c.is_on.ensures ∙ c.loop-asked-test.true)).0

pub loop-asked-preserved : goal.loop-asked-preserved
loop-asked-preserved c =
    let v = c.loop-asked.invariant in
    let k = c.check_block-work.auto in
    (c.check_block-work.ensures.kept, k.block ∙ v.1, k.held ∙ v.2, k.out ∙ v.3)

pub returns : goal.returns
returns c = (c.loop-asked.invariant.0, sym c.is_on.ensures ∙ c.loop-asked-test.false)
