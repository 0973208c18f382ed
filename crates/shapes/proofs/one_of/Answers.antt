-- `shapes::one_of` meets its contract: one of the pieces fits. Assumes nothing.
use Rattle.std.proofs.Common.{◌∙◌, eqb, rules}
use borrow.Author.Tests.{tests}
use Rattle.std.proofs.lemmas.Iterator.Search.{any_from_yields_List}
use Rattle.std.proofs.lemmas.Iterator.Splits.{YieldsList-from_slice_split}
use Rattle.shapes.specs.Picture.{fits as fitting, one_of}
use Rattle.shapes.proofs.Chains.{any_fits, split_is}
use Rattle.shapes.proofs.Laws.{bar}
use Rattle.shapes.proofs.one_of.Goals as goal

pub returns : goal.returns
unfolding one_of
returns c =
    any_from_yields_List (λ p. fitting p c.args.s.now) _ _ _ c.any.ensures.ran (YieldsList-from_slice_split _ (λ x. eqb x bar) c.args.pictures.now c.split.ensures.rest c.split.ensures.done c.split.ensures.closure (λ x b q k. search (rules, tests))) (λ x b q k. search (rules, tests))
    ∙ rw (split_is bar c.args.pictures.now) (any_fits _ c.args.s.now)
