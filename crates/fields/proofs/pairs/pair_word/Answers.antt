-- `fields::pairs::pair_word` meets its contract. Assumes nothing.
use mathlib.Core.Path.{◌∙◌}
use borrow.Author.Tests.{eq-eqb, ne_eqb}
use Rattle.fields.specs.Pair.{pair_word}
use Rattle.fields.proofs.pairs.pair_word.Goals as goal

pub returns-then-b-eq0 : goal.returns-then-b-eq0
unfolding pair_word
returns-then-b-eq0 c = rw (eq-eqb _ _ c.if-b-eq0.true)

pub returns-else-b-eq0 : goal.returns-else-b-eq0
unfolding pair_word
returns-else-b-eq0 c = c.join.ensures ∙ rw (ne_eqb _ _ c.if-b-eq0.false)
