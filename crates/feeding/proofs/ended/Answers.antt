-- `ended` meets its contract. Assumes nothing.
use Rattle.feeding.proofs.Ways.{taken_ended, buffer_ended, part_ended, long_ended, refused_ended}
use Rattle.feeding.proofs.ended.Goals as goal

pub returns-in-Taken : goal.returns-in-Taken
returns-in-Taken c = taken_ended _ c.in-Taken.is

pub returns-in-InBuffer : goal.returns-in-InBuffer
returns-in-InBuffer c = buffer_ended _ _ c.in-InBuffer.is

pub returns-in-InPart : goal.returns-in-InPart
returns-in-InPart c = part_ended _ _ c.in-InPart.is

pub returns-in-TooLong : goal.returns-in-TooLong
returns-in-TooLong c = long_ended _ c.in-TooLong.is

pub returns-in-NotAllowed : goal.returns-in-NotAllowed
returns-in-NotAllowed c = refused_ended _ c.in-NotAllowed.is
