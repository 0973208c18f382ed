-- `cut` meets its contract. Assumes nothing.
use mathlib.Core.Path.{sym, ◌∙◌}
use native.Mathlib.Omega.{arith}
use lib.Seq.{length-take-le}
use borrow.Author.Tests.{not-true, not-false}
use Rattle.cutter.proofs.Ways.{found_le, cut_refused, cut_taken, cut_ended}
use Rattle.cutter.proofs.Cases.{in_cut_case}
use Rattle.cutter.proofs.cut.Goals as goal

pub returns-then-not-is_allowed : goal.returns-then-not-is_allowed
returns-then-not-is_allowed c =
    let both = in_cut_case _ _ _ (cut_refused _ _ _ (sym c.is_allowed.ensures ∙ not-true _ c.if-not-is_allowed.true-raw)) in
    record { value = both.0; held_after = both.1.0; cut_is = both.1.1 }

pub returns-then-n-part : goal.returns-then-n-part
returns-then-n-part c =
    let both = in_cut_case _ _ _ (cut_taken _ _ _ (sym c.is_allowed.ensures ∙ not-false _ c.if-not-is_allowed.false-raw) _ c.find_far-n.ensures _ c.if-n-part.true _ c.hold-begun.ensures.value c.hold-begun.ensures.held_after) in
    record { value = both.0; held_after = both.1.0; cut_is = both.1.1 }

pub slice_bounds-close-end : goal.slice_bounds-close-end
slice_bounds-close-end c = sym (length-take-le _ _ (found_le _ _ c.find_far-n.ensures))

pub overflow_add-result : goal.overflow_add-result
overflow_add-result c = omega (arith, found_le _ _ c.find_far-n.ensures, c.if-n-part.false)

pub returns : goal.returns
returns c =
    let both = in_cut_case _ _ _ (cut_ended _ _ _ (sym c.is_allowed.ensures ∙ not-false _ c.if-not-is_allowed.false-raw) _ c.find_far-n.ensures _ c.if-n-part.false _ c.close-answer.ensures.value c.close-answer.ensures.held_after) in
    record { value = both.0; held_after = both.1.0; cut_is = both.1.1 }
