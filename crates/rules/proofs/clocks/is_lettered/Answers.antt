-- `rules::clocks::is_lettered` meets its contract: the digits after the letter are asked by the clock. Assumes nothing.
use mathlib.Core.Path.{sym, ◌∙◌}
use mathlib.Core.List.{◌∷◌}
use native.Mathlib.Omega.{arith}
use borrow.Author.Tests.{ne_eqb}
use Rattle.text.specs.Bytes.{bytes}
use Rattle.text.proofs.Logic.{true_false}
use Rattle.shapes.proofs.Laws.{fits_apart}
use Rattle.rules.proofs.ClockNumbers.{lettered}
use Rattle.rules.proofs.clocks.is_lettered.Goals.{then-s-eq5, else-s-eq5}
use Rattle.rules.proofs.clocks.is_lettered.Goals as goal

pub returns-then-is_of : goal.returns-then-is_of
returns-then-is_of c = elim c.if-s-eq5.branch [
  | then-s-eq5 w ↦ c.is_clock.ensures ∙ rw (lettered _ _ w.if-s-eq5.true, sym w.is_of.ensures ∙ sym w.value-is ∙ c.if-is_of.true)
  | else-s-eq5 w ↦ true_false c.if-is_of.true (w.value-is ∙ ne_eqb _ _ w.if-s-eq5.false)
]

pub returns-else-is_of : goal.returns-else-is_of
returns-else-is_of c = elim c.if-s-eq5.branch [
  | then-s-eq5 w ↦ c.if-is_of.false ∙ rw (lettered _ _ w.if-s-eq5.true, sym w.is_of.ensures ∙ sym w.value-is ∙ c.if-is_of.false)
  | else-s-eq5 w ↦ c.if-is_of.false ∙ rw (fits_apart (c.args.k ∷ bytes "dddd") c.args.s.now (λ e. w.if-s-eq5.false (omega (arith, e))))
]
