-- `table::has_fields` meets its contract. Assumes nothing.
use Rattle.table.proofs.CountWays.{counts_fields}
use Rattle.table.proofs.has_fields.Goals as goal

pub returns : goal.returns
returns c = rw c.field_count.ensures (counts_fields _)
