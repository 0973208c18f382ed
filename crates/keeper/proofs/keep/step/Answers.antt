-- `keep::step` meets its contract. Assumes nothing.
use Rattle.keeper.proofs.Steps.{step_done}
use Rattle.keeper.proofs.keep.step.Goals as goal

pub returns : goal.returns
returns c =
    step_done c.args.base _ _ _ _ c.args.keep c.requires.roomy c.cut-done.result _ (c.cut-done.ensures.value, (c.cut-done.ensures.held_after, c.cut-done.ensures.cut_is)) c.requires.rest_nonzero _ c.line-line.ensures _ _ c.take_up-keep.result c.take_up-keep.ensures _
