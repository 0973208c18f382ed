-- `store::put_part` meets its contract. Assumes nothing.
use mathlib.Core.Path.{refl}
use Rattle.text.specs.Bytes.{bytes}
use Rattle.keeper.proofs.Ways.{named}
use Rattle.keeper.proofs.store.put_part.Goals as goal

pub returns : goal.returns
returns c =
    let both = named _ (bytes ".part") _ _ _ c.requires c.put_bytes.ensures.out_after c.put_bytes-2.ensures.out_after _ refl in
    record { prefix_len = both.0; out_after = both.1 }
