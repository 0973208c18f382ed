-- `checks::judge` meets its contract. Assumes nothing.
use Rattle.checks.proofs.Ways.{buffer_judged, part_judged, long_judged, none_judged}
use Rattle.checks.proofs.judge.Goals as goal

pub returns-in-InBuffer : goal.returns-in-InBuffer
returns-in-InBuffer c = buffer_judged _ _ _ _ _ c.line.ensures _ c.judge_line.ensures _ c.in-InBuffer.is

pub returns-in-InPart : goal.returns-in-InPart
returns-in-InPart c = part_judged _ _ _ _ _ c.line-in-InPart.ensures _ c.judge_line-in-InPart.ensures _ c.in-InPart.is

pub returns-in-TooLong : goal.returns-in-TooLong
returns-in-TooLong c = long_judged _ _ _ _ c.in-TooLong.is

pub returns-in_default : goal.returns-in_default
returns-in_default c = none_judged _ _ _ c.in_default.in_default-own.keys4
