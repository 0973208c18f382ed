-- `keep::is_long` meets its contract. Assumes nothing.
use Rattle.keeper.proofs.Ways.{long_is, long_not}
use borrow.Enum.Refused.{opened}
use Rattle.keeper.proofs.keep.is_long.Goals as goal

pub returns-in-TooLong : goal.returns-in-TooLong
returns-in-TooLong c = long_is _ c.in-TooLong.is

pub returns-in_default : goal.returns-in_default
returns-in_default c = long_not _ (opened c.in_default.in_default-own.keys2)
