-- `line::front::read_head` meets its contract. Assumes nothing.
use Rattle.line.proofs.front.read_head.Goals as goal

pub read_new_head-requires : goal.read_new_head-requires
read_new_head-requires c = rw c.in-New.is at c.requires

pub read_old_head-requires : goal.read_old_head-requires
read_old_head-requires c = rw c.in-Old.is at c.requires

pub returns-in-New : goal.returns-in-New
returns-in-New c = rw c.in-New.is c.read_new_head.ensures

pub returns-in-Old : goal.returns-in-Old
returns-in-Old c = rw c.in-Old.is c.read_old_head.ensures
