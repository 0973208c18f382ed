-- `shapes::find` meets its contract: the place that the chain finds, or the end. Assumes nothing.
use Rattle.std.proofs.Common.{◌∙◌, eqb, rules}
use borrow.Author.Tests.{tests}
use Rattle.std.proofs.lemmas.Iterator.{YieldsList-from_slice}
use Rattle.std.proofs.lemmas.Iterator.Search.{position_from_yields_List}
use Rattle.shapes.proofs.Chains.{place_or_end}
use Rattle.shapes.proofs.find.Goals as goal

pub returns : goal.returns
returns c =
    let a = c.args in
    c.unwrap_or.ensures
    ∙ place_or_end a.b a.s.now (position_from_yields_List (λ x. eqb x a.b) _ _ _ c.position.ensures.ran (YieldsList-from_slice a.s.now cc) (λ x b q k. search (rules, tests)))
