-- `apply` meets its contract. Assumes nothing.
use Rattle.std.specs.Prelude.{Err}
use mathlib.Core.Path.{sym, ap, ◌∙◌}
use borrow.Author.Tests.{not-true, not-false}
use Rattle.planner.proofs.Ways.{line_event_lem, handed_err, asked_ok, asked_err, apply_refused, apply_damaged, apply_entered}
use Rattle.planner.proofs.Cases.{in_apply_case}
use Rattle.planner.proofs.apply.Goals as goal

pub returns-in_err-asked : goal.returns-in_err-asked
returns-in_err-asked c =
    let (x, e, n) = asked_err _ _ _ c.read.ensures c.in_err-asked.ensures.cases in
    let told = apply_refused _ _ _ _ c.read.ensures (c.read.ensures ∙ e) in
    let both = in_apply_case _ _ (handed_err _ _ c.from_residual.ensures.1 ∙ ap Err n ∙ told.0, told.1) in
    record { value = both.0; board_after = both.1.0; apply_case = both.1.1 }

pub returns-then-not-is_allowed : goal.returns-then-not-is_allowed
returns-then-not-is_allowed c =
    let both = in_apply_case _ _ (apply_damaged _ _ _ (asked_ok _ _ _ c.read.ensures c.in_ok-asked.ensures.cases) (sym c.is_allowed.ensures ∙ not-true _ c.if-not-is_allowed.true-raw)) in
    record { value = both.0; board_after = both.1.0; apply_case = both.1.1 }

pub enter-requires : goal.enter-requires
enter-requires c =
    record {
      board_value = sym c.is_allowed.ensures ∙ not-false _ c.if-not-is_allowed.false-raw;
      asked_value = line_event_lem _ _ (asked_ok _ _ _ c.read.ensures c.in_ok-asked.ensures.cases);
    }

pub returns : goal.returns
returns c =
    let both = in_apply_case _ _ (apply_entered _ _ _ (asked_ok _ _ _ c.read.ensures c.in_ok-asked.ensures.cases) (sym c.is_allowed.ensures ∙ not-false _ c.if-not-is_allowed.false-raw) _ _ c.enter.ensures) in
    record { value = both.0; board_after = both.1.0; apply_case = both.1.1 }
