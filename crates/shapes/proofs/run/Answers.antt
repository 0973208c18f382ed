-- `shapes::run` meets its contract: within the limits, each byte of the class. Assumes nothing.
use Rattle.std.proofs.Common.{◌≡◌, ◌∙◌, false, ◌⊎◌, inl, inr, length, List, ℕ, ◌≤◌, ◌<◌, rules}
use borrow.Author.Tests.{tests, le-leb, lt-leb}
use Rattle.std.proofs.lemmas.Iterator.{YieldsList-from_slice}
use Rattle.std.proofs.lemmas.Iterator.Search.{all_from_yields_List}
use Rattle.shapes.specs.Picture.{is_of, run as running}
use Rattle.shapes.proofs.Chains.{each_is}
use Rattle.shapes.proofs.run.Goals as goal

outside : (k least most : ℕ) (s : List ℕ) → (least ≤ length s × most < length s) ⊎ (length s < least) → running k least most s ≡ false
unfolding running
outside k least most s (inl p) = rw (le-leb least (length s) p.0, lt-leb (length s) most p.1)
outside k least most s (inr h) = rw (lt-leb least (length s) h)

pub returns-then-s-most : goal.returns-then-s-most
unfolding running
returns-then-s-most c =
    let a = c.args in
    let room = c.if-s-most.true in
    all_from_yields_List (is_of a.k) _ _ _ c.all.ensures.ran (YieldsList-from_slice a.s.now cc) (λ x b q k. search (rules, tests))
    ∙ each_is (is_of a.k) a.s.now
    ∙ rw (le-leb _ _ room.0, le-leb _ _ room.1)

pub returns-else-s-most : goal.returns-else-s-most
returns-else-s-most c = let a = c.args in rw (outside a.k a.least a.most a.s.now c.if-s-most.either) (search rules)
