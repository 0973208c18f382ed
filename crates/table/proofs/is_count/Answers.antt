-- `table::is_count` meets its contract. Assumes nothing.
use Rattle.table.proofs.CountWays.{one_count}
use borrow.Enum.Refused.{opened}
use Rattle.table.proofs.is_count.Goals as goal

pub returns-in-Af : goal.returns-in-Af
returns-in-Af c = rw (c.is_af_count.ensures, c.in-Af.is)

pub returns-in_default : goal.returns-in_default
returns-in_default c = rw c.field_count.ensures (one_count _ _ (opened c.in_default.in_default-own.keys2))
