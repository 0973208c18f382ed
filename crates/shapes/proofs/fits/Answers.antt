-- `shapes::fits` meets its contract: of one length, each byte what its letter stands for. Assumes nothing.
use Rattle.std.proofs.Common.{◌∙◌, sym, rules}
use borrow.Author.Tests.{tests, ne_eqb}
use Rattle.std.proofs.lemmas.Iterator.{YieldsList-from_slice, YieldsList-from_zip}
use Rattle.std.proofs.lemmas.Iterator.Search.{all_from_yields_List}
use Rattle.shapes.specs.Picture.{is_of}
use Rattle.shapes.proofs.Chains.{pairs_fit}
use Rattle.shapes.proofs.Laws.{fits_apart}
use Rattle.shapes.proofs.fits.Goals as goal

pub returns-then-picture-s : goal.returns-then-picture-s
returns-then-picture-s c =
    let a = c.args in
    all_from_yields_List (λ x. is_of x.0 x.1) c.all.new.self _ _ c.all.ensures.ran (YieldsList-from_zip (YieldsList-from_slice a.picture.now cc) (YieldsList-from_slice a.s.now (search rules))) (λ x b q k. search (rules, tests))
    ∙ pairs_fit a.picture.now a.s.now c.if-picture-s.true

pub returns-else-picture-s : goal.returns-else-picture-s
returns-else-picture-s c = ne_eqb _ _ c.if-picture-s.false ∙ sym (fits_apart _ _ c.if-picture-s.false)
