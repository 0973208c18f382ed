-- `writer::put_head` meets its contract. Assumes nothing.
use Rattle.writer.proofs.put_head.Goals as goal

pub put_new_head-requires : goal.put_new_head-requires
put_new_head-requires c = rw c.in-New.is at c.requires

pub put_old_head-requires : goal.put_old_head-requires
put_old_head-requires c = rw c.in-Old.is at c.requires

pub returns-in-New : goal.returns-in-New
returns-in-New c = rw c.in-New.is c.put_new_head.ensures

pub returns-in-Old : goal.returns-in-Old
returns-in-Old c = rw c.in-Old.is c.put_old_head.ensures
