-- `rules::height` meets its contract: so few digits are a number. Assumes nothing.
use mathlib.Core.Path.{◌∙◌}
use Rattle.text.proofs.Logic.{so, not_so}
use Rattle.rules.proofs.Levels.{height_told}
use Rattle.rules.proofs.height.Goals as goal

pub returns-then-not-is_height : goal.returns-then-not-is_height
returns-then-not-is_height c = rw (not_so c.is_height.ensures c.if-not-is_height.true-raw)

pub returns : goal.returns
returns c = c.number.ensures ∙ height_told _ (so c.is_height.ensures c.if-not-is_height.false-raw)
