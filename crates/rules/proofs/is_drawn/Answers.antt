-- `rules::is_drawn` meets its contract: each arm is a case of the definition. Assumes nothing.
use mathlib.Core.Path.{sym, ◌∙◌}
use Prim.Native.Char.{code}
use borrow.Author.Tests.{ne_eqb}
use Rattle.shapes.proofs.Same.{fits_same}
use Rattle.rules.specs.Drawn.{is_drawn}
use Rattle.rules.proofs.Runs.{speed_runs}
use Rattle.rules.proofs.is_drawn.Goals as goal

pub returns-in-81 : goal.returns-in-81
unfolding is_drawn
returns-in-81 c = c.run.ensures ∙ rw c.in-81.is (sym (fits_same (code "h") 4 _))

pub returns-in-78 : goal.returns-in-78
unfolding is_drawn
returns-in-78 c = c.is_number.ensures ∙ rw c.in-78.is

pub returns-in-88 : goal.returns-in-88
unfolding is_drawn
returns-in-88 c = c.one_of.ensures ∙ rw c.in-88.is

pub returns-in-69 : goal.returns-in-69
unfolding is_drawn
returns-in-69 c = c.run-in-69.ensures ∙ rw c.in-69.is (sym (fits_same (code "l") 1 _))

pub returns-then-run : goal.returns-then-run
unfolding is_drawn
returns-then-run c = c.if-run.true ∙ rw (c.in-83.is, speed_runs, sym c.run-in-83.ensures ∙ c.if-run.true)

pub returns-else-run : goal.returns-else-run
unfolding is_drawn
returns-else-run c = c.one_of-else-run.ensures ∙ rw (c.in-83.is, speed_runs, sym c.run-in-83.ensures ∙ c.if-run.false)

pub returns-in-71 : goal.returns-in-71
unfolding is_drawn
returns-in-71 c = c.run-in-71.ensures ∙ rw c.in-71.is (sym (fits_same (code "d") 3 _))

pub returns-in-77 : goal.returns-in-77
unfolding is_drawn
returns-in-77 c = c.is_track_level.ensures ∙ rw c.in-77.is

pub returns-in_default : goal.returns-in_default
unfolding is_drawn
returns-in_default c = let n = c.in_default.in_default-own.rest in
    rw (ne_eqb _ _ n.0.0.0.0.0.0.1, ne_eqb _ _ n.0.0.0.0.0.1, ne_eqb _ _ n.0.0.0.0.1, ne_eqb _ _ n.0.0.0.1, ne_eqb _ _ n.0.0.1, ne_eqb _ _ n.0.1, ne_eqb _ _ n.1)
