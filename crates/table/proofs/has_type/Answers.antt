-- `table::has_type` meets its contract. Assumes nothing.
use Rattle.table.proofs.has_type.Goals as goal

pub returns-in-Old : goal.returns-in-Old
returns-in-Old c = rw c.in-Old.is c.has_fields.ensures
