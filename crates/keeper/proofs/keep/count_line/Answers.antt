-- `keep::count_line` meets its contract. Assumes nothing.
use Rattle.keeper.proofs.Ways.{counted_next, counted_full}
use Rattle.keeper.proofs.keep.count_line.Goals as goal

pub returns-in-Ok : goal.returns-in-Ok
returns-in-Ok c = counted_next _ c.args.keep _ c.in-Ok.is

pub returns-in-Err : goal.returns-in-Err
returns-in-Err c = counted_full _ c.args.keep c.in-Err.is
