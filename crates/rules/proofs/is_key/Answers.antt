-- `rules::is_key` meets its contract: each way out is a case of the definition. Assumes nothing.
use mathlib.Core.Path.{sym, ◌∙◌}
use native.Mathlib.Omega.{arith}
use Rattle.shapes.proofs.Laws.{run_least}
use Rattle.rules.specs.Form.{is_key}
use Rattle.rules.proofs.is_key.Goals as goal

pub bounds-s-0 : goal.bounds-s-0
bounds-s-0 c = omega (arith, run_least _ 2 7 _ (sym c.run.ensures ∙ c.if-run.true))

pub returns-then-run : goal.returns-then-run
unfolding is_key
returns-then-run c = c.is_of.ensures ∙ rw (sym c.run.ensures ∙ c.if-run.true)

pub returns-else-run : goal.returns-else-run
unfolding is_key
returns-else-run c = c.if-run.false ∙ rw (sym c.run.ensures ∙ c.if-run.false)
