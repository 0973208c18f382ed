-- `shapes::is_alnum` meets its contract. Assumes nothing.
use mathlib.Core.Path.{sym, ◌∙◌}
use Rattle.text.specs.Class.{is_alnum, is_digit, is_letter}
use Rattle.shapes.proofs.is_alnum.Goals as goal

pub returns-then-between : goal.returns-then-between
unfolding is_alnum is_digit is_letter
returns-then-between c = c.if-between.true ∙ rw (sym c.between.ensures ∙ c.if-between.true)

pub returns-else-between : goal.returns-else-between
unfolding is_alnum is_digit is_letter
returns-else-between c = c.between-else-between.ensures ∙ rw (sym c.between.ensures ∙ c.if-between.false)
