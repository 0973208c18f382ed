-- `printer::board_size` meets its contract: what is counted and what is left make the whole, and that is short. Assumes nothing.
use mathlib.Core.Path.{ap}
use native.Mathlib.Omega.{arith}
use lib.ListN.{length, get_or}
use Rattle.text.proofs.Decimal.{decimal_short}
use Rattle.printer.proofs.Boards.{board_long, flights_few, text_size, text_short, row_whole, row_good, left_size, left_end}
use Rattle.printer.proofs.board_size.Goals as goal

pub bounds-board-0 : goal.bounds-board-0
bounds-board-0 c = omega (arith, board_long c.args.board.now c.requires)

pub overflow_add-total : goal.overflow_add-total
overflow_add-total c = omega (arith, c.size-total.ensures, decimal_short (get_or c.args.board.now 0 0))

pub loop-i-init : goal.loop-i-init
loop-i-init c = omega (arith, text_size c.args.board.now c.requires, c.size-total.ensures)

pub overflow_mul-i : goal.overflow_mul-i
overflow_mul-i c = omega (arith, flights_few c.args.board.now c.requires)

pub overflow_add-i : goal.overflow_add-i
overflow_add-i c = omega (arith, flights_few c.args.board.now c.requires)

pub size-total-requires-in-loop-i : goal.size-total-requires-in-loop-i
size-total-requires-in-loop-i c =
    let l = c.args.board.now in
    record { p_in_bounds = row_whole l c.requires c.loop-i.i c.loop-i-test.true; board_value = row_good l c.requires c.loop-i.i c.loop-i-test.true }

pub overflow_add-total-in-loop-i : goal.overflow_add-total-in-loop-i
overflow_add-total-in-loop-i c =
    let l = c.args.board.now in
    omega (arith, c.loop-i.invariant, c.size-total-in-loop-i.ensures, left_size l c.requires c.loop-i.i c.loop-i-test.true, text_short l c.requires)

pub loop-i-preserved : goal.loop-i-preserved
loop-i-preserved c =
    let l = c.args.board.now in
    omega (arith, c.loop-i.invariant, c.size-total-in-loop-i.ensures, left_size l c.requires c.loop-i.i c.loop-i-test.true)

pub returns : goal.returns
returns c = omega (arith, c.loop-i.invariant, ap length (left_end c.args.board.now c.loop-i.i c.loop-i-test.false))
