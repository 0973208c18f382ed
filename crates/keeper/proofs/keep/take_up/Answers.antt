-- `keep::take_up` meets its contract. Assumes nothing.
use Rattle.keeper.proofs.Ways.{takes_line, takes_over, takes_none}
use Rattle.keeper.proofs.keep.take_up.Goals as goal

pub returns-in-InBuffer : goal.returns-in-InBuffer
returns-in-InBuffer c =
    takes_line _ _ _ _ _ c.args.keep c.in-InBuffer.in-InBuffer-own.keys1 c.keep_from-kept.result (c.keep_from-kept.ensures.value, (c.keep_from-kept.ensures.out_after, c.keep_from-kept.ensures.offsets_after)) c.count_line.ensures

pub returns-in-TooLong : goal.returns-in-TooLong
returns-in-TooLong c = takes_over _ _ _ _ _ c.args.keep c.in-TooLong.is

pub returns-in_default : goal.returns-in_default
returns-in_default c = takes_none _ _ _ _ _ c.args.keep c.in_default.in_default-own.keys3
