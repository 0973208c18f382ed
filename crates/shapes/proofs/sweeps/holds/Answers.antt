-- `shapes::sweeps::holds` meets its contract: a pass to the end is a pass over each byte. Assumes nothing.
use Rattle.std.proofs.Common.{◌∙◌, false, ◌||◌, eqb, rules}
use borrow.Author.Tests.{tests}
use Rattle.std.proofs.lemmas.Iterator.{YieldsList-from_slice}
use Rattle.std.proofs.lemmas.Iterator.Consumers.{fold_from_yields_List}
use Rattle.shapes.proofs.Chains.{some_or_has}
use Rattle.shapes.proofs.sweeps.holds.Goals as goal

pub returns : goal.returns
returns c =
    let a = c.args in
    fold_from_yields_List _ (λ t x. t || eqb x a.b) _ _ c.fold.ensures.ran (YieldsList-from_slice a.s.now cc) (λ t x b q k. search (rules, tests))
    ∙ some_or_has a.b false a.s.now
