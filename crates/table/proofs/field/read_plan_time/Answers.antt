-- `table::field::read_plan_time` meets its contract. Assumes nothing.
use Rattle.std.specs.Prelude.{Ok}
use mathlib.Core.Path.{sym, ap, ◌∙◌}
use Rattle.text.proofs.Logic.{so, not_so}
use Rattle.table.proofs.ReadingWays.{plan_time_none, plan_time_barred, plan_time_read}
use Rattle.table.proofs.field.read_plan_time.Goals as goal

pub returns-in_default : goal.returns-in_default
returns-in_default c = plan_time_none _ _ (sym c.in_default.is ∙ c.read.ensures)

pub returns-then-not-follows : goal.returns-then-not-follows
returns-then-not-follows c = plan_time_barred _ _ (not_so c.follows.ensures c.if-not-follows.true-raw)

pub returns : goal.returns
returns c = ap Ok c.word.ensures ∙ plan_time_read _ _ (sym c.in-Some.is ∙ c.read.ensures) (so c.follows.ensures c.if-not-follows.false-raw)
