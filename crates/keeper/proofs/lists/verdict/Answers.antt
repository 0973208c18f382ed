-- `verdict` meets its contract. Assumes nothing.
use Rattle.keeper.proofs.Passes.{too_few, other_end, same_end}
use Rattle.keeper.proofs.lists.verdict.Goals as goal

pub returns-then-sweep-day : goal.returns-then-sweep-day
returns-then-sweep-day c = too_few c.args.day c.args.pass c.if-sweep-day.true

pub returns-then-sweep-day-2 : goal.returns-then-sweep-day-2
returns-then-sweep-day-2 c = other_end c.args.day c.args.pass c.if-sweep-day.false c.if-sweep-day-2.true

pub returns : goal.returns
returns c = same_end c.args.day c.args.pass c.if-sweep-day.false c.if-sweep-day-2.false
