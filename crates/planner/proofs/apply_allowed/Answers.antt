-- `apply_allowed` meets its contract. Assumes nothing.
use Rattle.std.specs.Prelude.{Err}
use mathlib.Core.Path.{sym, ap, ◌∙◌}
use Rattle.planner.proofs.Ways.{line_event_lem, entered_as, handed_err, asked_ok, asked_err, refused_entered}
use Rattle.planner.proofs.apply_allowed.Goals as goal

pub returns-in_err-asked : goal.returns-in_err-asked
returns-in_err-asked c =
    let (x, e, n) = asked_err _ _ _ c.read.ensures c.in_err-asked.ensures.cases in
    let r = handed_err _ _ c.from_residual.ensures.1 ∙ ap Err n in
    rw (e, r) (refused_entered _ c.requires x)

pub enter-requires-clause-asked_value : goal.enter-requires-clause-asked_value
enter-requires-clause-asked_value c = line_event_lem _ _ (asked_ok _ _ _ c.read.ensures c.in_ok-asked.ensures.cases)

pub returns : goal.returns
returns c = entered_as _ _ _ _ _ (sym (asked_ok _ _ _ c.read.ensures c.in_ok-asked.ensures.cases)) c.enter.ensures
