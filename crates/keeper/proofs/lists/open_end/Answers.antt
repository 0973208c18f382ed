-- `open_end` meets its contract. Assumes nothing.
use mathlib.Core.Path.{refl}
use Rattle.keeper.proofs.Looks.{end_long, end_told}
use Rattle.keeper.proofs.lists.open_end.Goals as goal

pub open_tail-requires : goal.open_tail-requires
open_tail-requires c =
    let both = end_long _ c.version_1.ensures _ c.args.tail.now c.requires.tail_len in
    record { tail_len = both.1 }

pub returns : goal.returns
returns c = end_told _ c.version_1.ensures _ _ _ refl c.open_tail.ensures
