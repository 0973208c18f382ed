-- `rules::is_number` meets its contract: three bytes and any other number of them are the two cases. Assumes nothing.
use mathlib.Core.Path.{sym, ◌∙◌}
use borrow.Author.Tests.{ne_eqb}
use Rattle.shapes.proofs.Laws.{fits_apart}
use Rattle.text.proofs.Logic.{true_false}
use Rattle.rules.proofs.Runs.{number_runs}
use Rattle.rules.proofs.is_number.Goals.{then-s-eq3, else-s-eq3}
use Rattle.rules.proofs.is_number.Goals as goal

pub returns-then-run : goal.returns-then-run
returns-then-run c = elim c.if-s-eq3.branch [
  | then-s-eq3 w ↦ c.is_of.ensures ∙ rw (number_runs _ w.if-s-eq3.true, sym w.run.ensures ∙ sym w.value-is ∙ c.if-run.true)
  | else-s-eq3 w ↦ true_false c.if-run.true (w.value-is ∙ ne_eqb _ _ w.if-s-eq3.false)
]

pub returns-else-run : goal.returns-else-run
returns-else-run c = elim c.if-s-eq3.branch [
  | then-s-eq3 w ↦ c.if-run.false ∙ rw (number_runs _ w.if-s-eq3.true, sym w.run.ensures ∙ sym w.value-is ∙ c.if-run.false)
  | else-s-eq3 w ↦ c.if-run.false ∙ sym (fits_apart _ _ (λ e. w.if-s-eq3.false (sym e)))
]
