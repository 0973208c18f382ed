-- `writer::sizes::holds_head` meets its contract. Assumes nothing.
use Rattle.writer.proofs.sizes.holds_head.Goals as goal

pub returns-in-New : goal.returns-in-New
returns-in-New c = rw c.in-New.is c.holds_new.ensures

pub returns-in-Old : goal.returns-in-Old
returns-in-Old c = rw c.in-Old.is c.holds_old.ensures
