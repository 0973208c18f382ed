-- `rules::is_block` meets its contract: each way out is a case of the definition. Assumes nothing.
use mathlib.Core.Path.{sym, ◌∙◌}
use native.Mathlib.Nat.{le_of_lt}
use lib.Seq.{length-take-le}
use Rattle.rules.proofs.Levels.{block_uncut, block_first, block_second, block_told}
use Rattle.rules.proofs.is_block.Goals as goal

pub returns-then-i-s : goal.returns-then-i-s
returns-then-i-s c = block_uncut _ _ c.find-i.ensures c.if-i-s.true

pub slice_bounds-height-end : goal.slice_bounds-height-end
slice_bounds-height-end c = sym (length-take-le _ _ (le_of_lt c.if-i-s.false))

pub returns-in_default : goal.returns-in_default
returns-in_default c = block_first _ _ c.find-i.ensures c.if-i-s.false (sym c.height.ensures ∙ c.in_default.is)

pub returns-in_default-height : goal.returns-in_default-height
returns-in_default-height c =
    block_second _ _ c.find-i.ensures c.if-i-s.false _ (sym c.height.ensures ∙ c.in-Some.is) (sym c.height-2.ensures ∙ c.in_default-height.is)

pub returns : goal.returns
returns c =
    block_told _ _ c.find-i.ensures c.if-i-s.false _ (sym c.height.ensures ∙ c.in-Some.is) _ (sym c.height-2.ensures ∙ c.in-Some-height.is)
