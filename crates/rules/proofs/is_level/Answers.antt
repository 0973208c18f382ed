-- `rules::is_level` meets its contract: each way out is a case of the definition. Assumes nothing.
use mathlib.Core.Path.{sym, ◌∙◌}
use Rattle.rules.specs.Form.{is_level}
use Rattle.rules.proofs.is_level.Goals as goal

pub returns-then-is_height : goal.returns-then-is_height
unfolding is_level
returns-then-is_height c = c.if-is_height.true ∙ rw (sym c.is_height.ensures ∙ c.if-is_height.true)

pub returns-else-is_height : goal.returns-else-is_height
unfolding is_level
returns-else-is_height c = c.is_block.ensures ∙ rw (sym c.is_height.ensures ∙ c.if-is_height.false)
