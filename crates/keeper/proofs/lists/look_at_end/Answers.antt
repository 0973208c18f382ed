-- `look_at_end` meets its contract. Assumes nothing.
use mathlib.Core.Path.{refl, sym, ◌∙◌}
use native.Mathlib.Omega.{arith}
use Rattle.dayfile.specs.DayFile.{version1}
use Rattle.keeper.proofs.Looks.{end_short, end_told}
use Rattle.keeper.proofs.lists.look_at_end.Goals as goal

pub returns-then-size-lt8 : goal.returns-then-size-lt8
returns-then-size-lt8 c = end_short _ _ (omega arith)

pub open_end-requires : goal.open_end-requires
open_end-requires c =
    let k = c.fill.auto.window in
    let f = c.in_ok-end.ensures in
    record {
      le_size = (omega arith, (f.0, f.1 ∙ sym k, f.2));
      tail_len = k ∙ c.requires;
    }

pub returns : goal.returns
returns c = end_told version1 refl _ _ _ c.size-size.ensures c.open_end.ensures
