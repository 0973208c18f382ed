-- `printer::slips::put_part` meets its contract: a store after the part. Assumes nothing.
use mathlib.Core.Path.{ap}
use Prim.Native.Nat.{ℕ, ◌+◌}
use Rattle.printer.proofs.Lines.{put_after}
use Rattle.printer.proofs.slips.put_part.Goals as goal

pub returns : goal.returns
returns c =
    let o = c.put_text-end.ensures in
    record { value = ap (λ (n : ℕ). n + 1) o.value; out_after = put_after _ _ _ _ c.requires.1 o.value o.out_after }
