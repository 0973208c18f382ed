-- `line::read_rest` meets its contract. Assumes nothing.
use Rattle.std.specs.Prelude.{Err}
use mathlib.Core.Path.{sym, ap, ◌∙◌}
use Rattle.line.proofs.Handed.{handed_err, bodied_ok, bodied_err}
use Rattle.line.proofs.Ways.{rest_long, rest_body}
use Rattle.line.proofs.read_rest.Goals as goal

pub returns-then-is_long_plan : goal.returns-then-is_long_plan
returns-then-is_long_plan c = rest_long _ _ _ (sym c.is_long_plan.ensures ∙ c.if-is_long_plan.true)

pub returns-in_err-body : goal.returns-in_err-body
returns-in_err-body c =
    let (f, is, n) = bodied_err _ _ c.in_err-body.ensures.cases in
    handed_err _ _ c.from_residual.ensures.1 ∙ ap Err n ∙ rest_body _ _ _ (sym c.is_long_plan.ensures ∙ c.if-is_long_plan.false) (sym (rw c.body_at-at.ensures at c.read_body.ensures) ∙ is)

pub returns : goal.returns
returns c =
    rest_body _ _ _ (sym c.is_long_plan.ensures ∙ c.if-is_long_plan.false) (sym (rw c.body_at-at.ensures at c.read_body.ensures) ∙ bodied_ok _ _ c.in_ok-body.ensures.cases)
