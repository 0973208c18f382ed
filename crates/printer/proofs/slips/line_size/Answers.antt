-- `printer::slips::line_size` meets its contract: what is counted and what is left make the whole, and that is short. Assumes nothing.
use native.Mathlib.Omega.{arith}
use Rattle.printer.proofs.Lines.{left_whole, left_next, left_end, part_packed, counted_short}
use Rattle.printer.proofs.slips.line_size.Goals as goal

pub loop-word-init : goal.loop-word-init
loop-word-init c = left_whole c.args.words.now c.requires

pub part_size-requires : goal.part_size-requires
part_size-requires c = part_packed c.args.words.now c.loop-word.word-index c.requires.good c.loop-word-test.true

pub overflow_add-n : goal.overflow_add-n
overflow_add-n c =
    let ws = c.args.words.now in
    omega (arith, c.part_size.ensures, c.loop-word.invariant, left_next ws c.loop-word.word-index c.loop-word-test.true, counted_short ws c.requires)

pub overflow_add-n-in-loop-word : goal.overflow_add-n-in-loop-word
overflow_add-n-in-loop-word c =
    let ws = c.args.words.now in
    omega (arith, c.part_size.ensures, c.loop-word.invariant, left_next ws c.loop-word.word-index c.loop-word-test.true, counted_short ws c.requires)

pub loop-word-preserved : goal.loop-word-preserved
loop-word-preserved c =
    omega (arith, c.part_size.ensures, c.loop-word.invariant, left_next c.args.words.now c.loop-word.word-index c.loop-word-test.true)

pub returns : goal.returns
returns c = omega (arith, c.loop-word.invariant, left_end c.args.words.now c.loop-word.word-index c.loop-word-test.false)
