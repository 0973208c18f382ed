-- `read_block` meets its contract: what came is taken in as a whole. Assumes nothing.
use native.Mathlib.Omega.{arith}
use mathlib.Core.Path.{sym}
use lib.Seq.{length-take-le}
use Rattle.intake.proofs.Days.{reads_block}
use Rattle.intake.proofs.read_block.Goals as goal

pub slice_bounds-take_in-end-2 : goal.slice_bounds-take_in-end-2
slice_bounds-take_in-end-2 c =
    sym (length-take-le _ _ (omega (arith, c.next-input.ensures.came.least, c.next-input.ensures.came.most, c.total-2.ensures, c.total.ensures)))

pub returns : goal.returns
returns c =
    reads_block _ _ c.args.day _ _ _ c.take_in.result c.next-input.ensures.came c.total.ensures c.total-2.ensures c.take_in.ensures
