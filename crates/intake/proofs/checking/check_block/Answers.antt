-- `checking::check_block` meets its contract: what came is checked, and what is said of it handed over. Assumes nothing.
use native.Mathlib.Omega.{arith}
use mathlib.Core.Path.{sym}
use lib.Seq.{length-take-le}
use Rattle.intake.proofs.Desks.{block_ready, block_next, block_kept, came_inside, came_size, came_total}
use Rattle.intake.proofs.checking.check_block.Goals as goal

pub slice_bounds-check-end : goal.slice_bounds-check-end
slice_bounds-check-end c =
    came_inside c.args.work.input c.next-input.new.block c.next-input.result c.next-input.ensures.came c.total.ensures c.total-2.ensures

pub slice_bounds-check-end-2 : goal.slice_bounds-check-end-2
slice_bounds-check-end-2 c =
    sym (came_size c.args.work.input _ c.next-input.result c.next-input.ensures.came c.total.ensures c.total-2.ensures)

pub check-said-requires : goal.check-said-requires
check-said-requires c =
    let e = c.total.ensures in
    let f = c.total-2.ensures in
    let i = c.args.work.input in
    let b = c.next-input.new.block in
    block_ready c.args.asked _ c.args.work c.requires.kept _ _
    (omega (arith, came_total i b c.next-input.result c.next-input.ensures.came e f, e))
    (omega (arith, came_size i b c.next-input.result c.next-input.ensures.came e f, came_inside i b c.next-input.result c.next-input.ensures.came e f, c.next-input.auto.block, c.requires.block_in_bounds))

pub slice_bounds-hand_over-end-2 : goal.slice_bounds-hand_over-end-2
slice_bounds-hand_over-end-2 c = sym (length-take-le _ _ c.check-said.ensures.size_in_bounds)

pub hand_over-output-requires : goal.hand_over-output-requires
hand_over-output-requires c =
    block_next c.args.asked _ c.args.work c.requires.kept c.requires.work_value _ _ c.check-said.result.sums _ c.check-said.ensures.continues _
    (came_total c.args.work.input _ c.next-input.result c.next-input.ensures.came c.total.ensures c.total-2.ensures)

pub returns : goal.returns
returns c =
    record {
      came = c.next-input.ensures.came;
      kept =
          block_kept c.args.asked _ c.args.work c.requires.kept c.requires.work_value _ _ c.check-said.result.sums _ c.check-said.ensures.continues c.next-input.result
          (came_total c.args.work.input _ c.next-input.result c.next-input.ensures.came c.total.ensures c.total-2.ensures)
          c.hand_over-output.result c.hand_over-output.ensures;
    }
