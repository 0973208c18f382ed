-- `table::is_long_plan` meets its contract. Assumes nothing.
use Rattle.table.proofs.CountWays.{no_plan}
use borrow.Enum.Refused.{opened}
use Rattle.table.proofs.is_long_plan.Goals as goal

pub returns-in-Fz : goal.returns-in-Fz
returns-in-Fz c = rw (c.is_over.ensures, c.in-Fz.is)

pub returns-in_default : goal.returns-in_default
returns-in_default c = let a = c.args in no_plan a.rule a.kind a.n (opened c.in_default.in_default-own.keys2)
