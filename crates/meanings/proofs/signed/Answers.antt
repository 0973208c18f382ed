-- `meanings::signed` meets its contract. Assumes nothing.
use mathlib.Core.Path.{◌∙◌}
use Rattle.meanings.proofs.Laws.{as_signed, negative_fits, as_negative}
use Rattle.meanings.proofs.signed.Goals as goal

pub returns-then-positive : goal.returns-then-positive
returns-then-positive c = as_signed _ c.requires ∙ rw c.if-positive.true

pub overflow_sub-result : goal.overflow_sub-result
overflow_sub-result c = negative_fits _ c.requires

pub returns : goal.returns
returns c = as_negative _ c.requires ∙ rw c.if-positive.false
