-- `line` meets its contract. Assumes nothing.
use mathlib.Core.Path.{◌∙◌}
use Rattle.cutter.proofs.Ways.{line_held, line_part, line_none}
use borrow.Enum.Refused.{opened}
use Rattle.cutter.proofs.line.Goals as goal

pub returns-in-InBuffer : goal.returns-in-InBuffer
returns-in-InBuffer c = c.first.ensures ∙ line_held _ _ _ _ c.in-InBuffer.is

pub returns-in-InPart : goal.returns-in-InPart
returns-in-InPart c = c.first-in-InPart.ensures ∙ line_part _ _ _ _ c.in-InPart.is

pub returns-in_default : goal.returns-in_default
returns-in_default c = c.first-in_default.ensures ∙ line_none _ _ _ (opened c.in_default.in_default-own.keys3)
