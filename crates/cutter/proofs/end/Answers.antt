-- `end` meets its contract. Assumes nothing.
use mathlib.Core.Path.{sym, ◌∙◌}
use borrow.Author.Tests.{not-true, not-false}
use Rattle.cutter.proofs.Ways.{end_refused, end_start, end_inside}
use Rattle.cutter.proofs.Cases.{in_end_case}
use Rattle.cutter.proofs.end.Goals as goal

pub returns-then-not-is_allowed : goal.returns-then-not-is_allowed
returns-then-not-is_allowed c =
    let both = in_end_case _ _ (end_refused _ _ (sym c.is_allowed.ensures ∙ not-true _ c.if-not-is_allowed.true-raw)) in
    record { value = both.0; end_is = both.1 }

pub returns-then-at_start : goal.returns-then-at_start
returns-then-at_start c =
    let both = in_end_case _ _ (end_start _ _ (sym c.is_allowed.ensures ∙ not-false _ c.if-not-is_allowed.false-raw) (sym c.at_start.ensures ∙ c.if-at_start.true)) in
    record { value = both.0; end_is = both.1 }

pub returns : goal.returns
returns c =
    let both = in_end_case _ _ (end_inside _ _ (sym c.is_allowed.ensures ∙ not-false _ c.if-not-is_allowed.false-raw) (sym c.at_start.ensures ∙ c.if-at_start.false)) in
    record { value = both.0; end_is = both.1 }
