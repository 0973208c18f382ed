-- `table::is_over` meets its contract. Assumes nothing.
use Rattle.rules.specs.declared.Rule.TheVariants.{New, Old}
use Rattle.table.proofs.CountWays.{long_plan}
use Rattle.table.proofs.is_over.Goals as goal

pub returns-in-New : goal.returns-in-New
returns-in-New c = rw c.in-New.is (long_plan New c.args.n)

pub returns-in-Old : goal.returns-in-Old
returns-in-Old c = rw c.in-Old.is (long_plan Old c.args.n)
