-- `work::keep_block` meets its contract: what came is kept, and that put away. Assumes nothing.
use native.Mathlib.Omega.{arith}
use mathlib.Core.Path.{sym}
use lib.Seq.{length-take-le}
use Rattle.intake.proofs.Desks.{came_inside, came_size, came_total}
use Rattle.keeper.proofs.Blocks.{block_roomy, block_piece, block_stored}
use Rattle.keeper.proofs.work.keep_block.Goals as goal

pub slice_bounds-keep_part-end : goal.slice_bounds-keep_part-end
slice_bounds-keep_part-end c =
    came_inside c.args.work.input c.next-input.new.block c.next-input.result c.next-input.ensures.came c.total.ensures c.total-2.ensures

pub slice_bounds-keep_part-end-2 : goal.slice_bounds-keep_part-end-2
slice_bounds-keep_part-end-2 c =
    sym (came_size c.args.work.input _ c.next-input.result c.next-input.ensures.came c.total.ensures c.total-2.ensures)

pub keep_part-keep-requires : goal.keep_part-keep-requires
keep_part-keep-requires c =
    let e = c.total.ensures in
    let f = c.total-2.ensures in
    let i = c.args.work.input in
    let b = c.next-input.new.block in
    block_roomy _ _ c.args.work c.requires.stored c.requires.work_value _ _
    (omega (arith, came_total i b c.next-input.result c.next-input.ensures.came e f, e))
    (omega (arith, came_size i b c.next-input.result c.next-input.ensures.came e f, came_inside i b c.next-input.result c.next-input.ensures.came e f, c.next-input.auto.block, c.requires.block_in_bounds))
    c.requires.offsets_len

pub slice_bounds-put_day-end-2 : goal.slice_bounds-put_day-end-2
slice_bounds-put_day-end-2 c = sym (length-take-le _ _ c.keep_part-keep.ensures.at_le_at.1)

pub put_day-shelf-requires : goal.put_day-shelf-requires
put_day-shelf-requires c =
    block_piece _ _ c.args.work c.requires.stored c.requires.work_value _ _ _ _ _ c.keep_part-keep.result c.keep_part-keep.ensures.goes_on _
    (came_total c.args.work.input _ c.next-input.result c.next-input.ensures.came c.total.ensures c.total-2.ensures)

pub returns : goal.returns
returns c =
    record {
      came = c.next-input.ensures.came;
      kept =
          block_stored _ _ c.args.work c.requires.stored c.requires.work_value _ _ _ _ _ c.keep_part-keep.result c.keep_part-keep.ensures.goes_on c.next-input.result
          (came_total c.args.work.input _ c.next-input.result c.next-input.ensures.came c.total.ensures c.total-2.ensures)
          c.keep_part-keep.ensures.at_le_at.1 c.put_day-shelf.result c.put_day-shelf.ensures;
    }
