-- `checking::is_on` meets its contract. Assumes nothing.
use mathlib.Core.Path.{sym, ◌∙◌}
use Rattle.intake.proofs.Desks.{on_ended, on_live}
use Rattle.intake.proofs.checking.is_on.Goals as goal

pub returns-then-is_live : goal.returns-then-is_live
returns-then-is_live c = on_live c.args.work (sym c.is_live.ensures ∙ c.if-is_live.true) c.is_live-then-is_live.ensures

pub returns-else-is_live : goal.returns-else-is_live
returns-else-is_live c = c.if-is_live.false ∙ on_ended c.args.work (sym c.is_live.ensures ∙ c.if-is_live.false)
