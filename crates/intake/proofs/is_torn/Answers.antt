-- `is_torn` meets its contract. Assumes nothing.
use Rattle.intake.proofs.Torn.{torn_as}
use Rattle.intake.proofs.is_torn.Goals as goal

pub returns-in-InsideLine : goal.returns-in-InsideLine
returns-in-InsideLine c = torn_as _ _ c.end.result c.end.ensures.value _ c.in-InsideLine.is

pub returns-in-AtStart : goal.returns-in-AtStart
returns-in-AtStart c = torn_as _ _ c.end.result c.end.ensures.value _ c.in-AtStart.is

pub returns-in-NotAllowed : goal.returns-in-NotAllowed
returns-in-NotAllowed c = torn_as _ _ c.end.result c.end.ensures.value _ c.in-NotAllowed.is
