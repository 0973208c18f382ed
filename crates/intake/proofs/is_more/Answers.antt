-- `is_more` meets its contract. Assumes nothing.
use mathlib.Core.Path.{sym, ◌∙◌}
use Rattle.intake.proofs.Days.{more_ended, more_live}
use Rattle.intake.proofs.is_more.Goals as goal

pub returns-then-is_live : goal.returns-then-is_live
returns-then-is_live c = more_live c.args.day (sym c.is_live.ensures ∙ c.if-is_live.true)

pub returns-else-is_live : goal.returns-else-is_live
returns-else-is_live c = c.if-is_live.false ∙ more_ended c.args.day (sym c.is_live.ensures ∙ c.if-is_live.false)
