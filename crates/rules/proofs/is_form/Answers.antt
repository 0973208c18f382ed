-- `rules::is_form` meets its contract: each arm is a case of the definition, and what is left is drawn. Assumes nothing.
use mathlib.Core.Path.{◌∙◌}
use borrow.Author.Tests.{ne_eqb}
use Rattle.rules.specs.Kind.{is_form}
use Rattle.rules.specs.Drawn.{is_drawn}
use Rattle.rules.proofs.is_form.Goals as goal

pub returns-in-68 : goal.returns-in-68
unfolding is_form is_drawn
returns-in-68 c = c.is_stamp.ensures ∙ rw c.in-68.is

pub returns-in-100 : goal.returns-in-100
unfolding is_form is_drawn
returns-in-100 c = c.is_old_stamp.ensures ∙ rw c.in-100.is

pub returns-in-75 : goal.returns-in-75
unfolding is_form is_drawn
returns-in-75 c = c.is_key.ensures ∙ rw c.in-75.is

pub returns-in-86 : goal.returns-in-86
unfolding is_form is_drawn
returns-in-86 c = c.run.ensures ∙ rw c.in-86.is

pub returns-in-80 : goal.returns-in-80
unfolding is_form is_drawn
returns-in-80 c = c.run-in-80.ensures ∙ rw c.in-80.is

pub returns-in-70 : goal.returns-in-70
unfolding is_form is_drawn
returns-in-70 c = c.is_fix.ensures ∙ rw c.in-70.is

pub returns-in-84 : goal.returns-in-84
unfolding is_form is_drawn
returns-in-84 c = c.is_time.ensures ∙ rw c.in-84.is

pub returns-in-67 : goal.returns-in-67
unfolding is_form is_drawn
returns-in-67 c = c.is_clock.ensures ∙ rw c.in-67.is

pub returns-in-65 : goal.returns-in-65
unfolding is_form is_drawn
returns-in-65 c = c.is_arrival.ensures ∙ rw c.in-65.is

pub returns-in-76 : goal.returns-in-76
unfolding is_form is_drawn
returns-in-76 c = c.is_level.ensures ∙ rw c.in-76.is

pub returns-in-79 : goal.returns-in-79
unfolding is_form is_drawn
returns-in-79 c = c.is_position.ensures ∙ rw c.in-79.is

pub returns-in_default : goal.returns-in_default
unfolding is_form is_drawn
returns-in_default c = let n = c.in_default.in_default-own.rest in
    c.is_drawn.ensures ∙ rw (ne_eqb _ _ n.0.0.0.0.0.0.0.0.0.0.1, ne_eqb _ _ n.0.0.0.0.0.0.0.0.0.1, ne_eqb _ _ n.0.0.0.0.0.0.0.0.1, ne_eqb _ _ n.0.0.0.0.0.0.0.1, ne_eqb _ _ n.0.0.0.0.0.0.1, ne_eqb _ _ n.0.0.0.0.0.1, ne_eqb _ _ n.0.0.0.0.1, ne_eqb _ _ n.0.0.0.1, ne_eqb _ _ n.0.0.1, ne_eqb _ _ n.0.1, ne_eqb _ _ n.1)
