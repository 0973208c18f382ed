-- `table::kinds_of` meets its contract. Assumes nothing.
use Rattle.table.proofs.kinds_of.Goals as goal

pub returns-in-New : goal.returns-in-New
returns-in-New c = rw (c.new_kinds.ensures, c.in-New.is)

pub returns-in-Old : goal.returns-in-Old
returns-in-Old c = rw (c.old_kinds.ensures, c.in-Old.is)
