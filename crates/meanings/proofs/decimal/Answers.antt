-- `meanings::decimal` meets its contract. Assumes nothing.
use mathlib.Core.Path.{sym, ap, ◌∙◌}
use Rattle.meanings.specs.Meaning.{or_none, decimal_of}
use Rattle.meanings.proofs.decimal.Goals as goal

pub returns-in-Some : goal.returns-in-Some
unfolding decimal_of
returns-in-Some c = ap or_none (sym c.in-Some.is ∙ c.number-number.ensures)

pub returns-in-None : goal.returns-in-None
unfolding decimal_of
returns-in-None c = ap or_none (sym c.in-None.is ∙ c.number-number.ensures)
