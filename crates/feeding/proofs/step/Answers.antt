-- `step` meets its contract. Assumes nothing.
use Rattle.feeding.proofs.Steps.{stepped}
use Rattle.feeding.proofs.step.Goals as goal

pub returns : goal.returns
returns c =
    let both = stepped _ _ _ _ c.requires.board_value c.requires.begun_value _ _ (c.cut-done.ensures.value, (c.cut-done.ensures.held_after, c.cut-done.ensures.cut_is)) _ c.ended.ensures _ _ (c.enter-taken.ensures.value, c.enter-taken.ensures.board_after) in
    record { value = both.0; board_after = both.1.0; held_after = both.1.1 }
