-- `walking::line_size` meets its contract. Assumes nothing.
use mathlib.Core.Path.{sym}
use native.Mathlib.Omega.{arith}
use lib.Seq.{length-take-le}
use Rattle.dayfile.proofs.Walks.{near, no_line, one_line}
use Rattle.dayfile.proofs.walking.line_size.Goals as goal

pub slice_bounds-find_far-end : goal.slice_bounds-find_far-end
slice_bounds-find_far-end c = sym (length-take-le _ _ (omega (arith, c.least-most.ensures)))

pub returns-then-n-most : goal.returns-then-n-most
returns-then-n-most c = no_line _ _ _ c.least-most.ensures c.find_far-n.ensures c.if-n-most.true

pub overflow_add-result : goal.overflow_add-result
overflow_add-result c = omega (arith, near _ _ _ c.least-most.ensures c.find_far-n.ensures)

pub returns : goal.returns
returns c = one_line _ _ _ c.least-most.ensures c.find_far-n.ensures c.if-n-most.false
