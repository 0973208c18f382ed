-- `rules::is_fix` meets its contract: each way out is a case of the definition. Assumes nothing.
use mathlib.Core.Path.{sym, ◌∙◌}
use native.Mathlib.Nat.{le_of_lt}
use lib.Seq.{length-take-le}
use Rattle.shapes.proofs.Laws.{joins_not, joins_is}
use Rattle.rules.specs.Form.{is_fix}
use Rattle.rules.proofs.is_fix.Goals as goal

pub returns-then-run : goal.returns-then-run
unfolding is_fix
returns-then-run c = rw (sym c.run.ensures ∙ c.if-run.true)

pub returns-then-i-s : goal.returns-then-i-s
unfolding is_fix
returns-then-i-s c = rw (sym c.run.ensures ∙ c.if-run.false, joins_not _ _ _ c.find-i.ensures _ _ c.if-i-s.true)

pub slice_bounds-run-end : goal.slice_bounds-run-end
slice_bounds-run-end c = sym (length-take-le _ _ (le_of_lt c.if-i-s.false))

pub returns-then-run-2 : goal.returns-then-run-2
unfolding is_fix
returns-then-run-2 c =
    c.run-then-run-2.ensures ∙ rw (sym c.run.ensures ∙ c.if-run.false, joins_is _ _ _ c.find-i.ensures _ _ c.if-i-s.false, sym c.run-2.ensures ∙ c.if-run-2.true)

pub returns-else-run-2 : goal.returns-else-run-2
unfolding is_fix
returns-else-run-2 c =
    c.if-run-2.false ∙ rw (sym c.run.ensures ∙ c.if-run.false, joins_is _ _ _ c.find-i.ensures _ _ c.if-i-s.false, sym c.run-2.ensures ∙ c.if-run-2.false)
