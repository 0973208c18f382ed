-- `checks::judge_line` meets its contract. Assumes nothing.
use Rattle.checks.proofs.judge_line.Goals as goal

pub returns-in-New : goal.returns-in-New
returns-in-New c = rw c.in-New.is c.judge_new.ensures

pub returns-in-Old : goal.returns-in-Old
returns-in-Old c = rw c.in-Old.is c.judge_old.ensures
