-- `shapes::sweeps::each_within` meets its contract: a pass to the end is a pass over each byte. Assumes nothing.
use Rattle.std.proofs.Common.{◌∙◌, true, ◌&&◌, leb, rules}
use borrow.Author.Tests.{tests}
use Rattle.std.proofs.lemmas.Iterator.{YieldsList-from_slice}
use Rattle.std.proofs.lemmas.Iterator.Consumers.{fold_from_yields_List}
use Rattle.shapes.proofs.Chains.{each_and_within}
use Rattle.shapes.proofs.sweeps.each_within.Goals as goal

pub returns : goal.returns
returns c =
    let a = c.args in
    fold_from_yields_List _ (λ t b. t && leb a.lo b && leb b a.hi) _ _ c.fold.ensures.ran (YieldsList-from_slice a.s.now cc) (λ t x b q k. search (rules, tests))
    ∙ each_and_within a.lo a.hi true a.s.now
