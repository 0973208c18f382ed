-- `at_start` meets its contract. Assumes nothing.
use Rattle.cutter.proofs.Ways.{held_start, mark_start}
use Rattle.cutter.proofs.at_start.Goals as goal

pub returns-in-Held : goal.returns-in-Held
returns-in-Held c = held_start _ _ c.in-Held.is

pub returns-in-Overlong : goal.returns-in-Overlong
returns-in-Overlong c = mark_start _ c.in-Overlong.is
