-- Two answers that the promise of a public function of `shapes` allows are equal: of each, `Post` is its `ensures` as it stands in the source,
-- r and r' are two results, s and s' two states at exit. Assumes nothing.
use mathlib.Core.Path.{◌≡◌, sym, ◌∙◌}
use Rattle.shapes.proofs.find.Reads as find
use Rattle.shapes.proofs.is_of.Reads as is-of
use Rattle.shapes.proofs.one_of.Reads as one_of_lem
use Rattle.shapes.proofs.run.Reads as run
use Rattle.shapes.proofs.sweeps.each_within.Reads as each_within
use Rattle.shapes.proofs.sweeps.find_far.Reads as find-far
use Rattle.shapes.proofs.sweeps.has_twice.Reads as has-twice
use Rattle.shapes.proofs.sweeps.how_many.Reads as how_many_lem

pub is_of_one : (κs : _) (a : _) (r r' : _) (s s' : _) → is-of.Post κs a r s → is-of.Post κs a r' s' → r ≡ r'
is_of_one κs a r r' s s' p q = p ∙ sym q

pub find_one : (κs : _) (a : _) (r r' : _) (s s' : _) → find.Post κs a r s → find.Post κs a r' s' → r ≡ r'
find_one κs a r r' s s' p q = p ∙ sym q

pub one_of_one : (κs : _) (a : _) (r r' : _) (s s' : _) → one_of_lem.Post κs a r s → one_of_lem.Post κs a r' s' → r ≡ r'
one_of_one κs a r r' s s' p q = p ∙ sym q

pub run_one : (κs : _) (a : _) (r r' : _) (s s' : _) → run.Post κs a r s → run.Post κs a r' s' → r ≡ r'
run_one κs a r r' s s' p q = p ∙ sym q

-- ---- sweeps

pub each_within_one : (κs : _) (a : _) (r r' : _) (s s' : _) → each_within.Post κs a r s → each_within.Post κs a r' s' → r ≡ r'
each_within_one κs a r r' s s' p q = p ∙ sym q

pub find_far_one : (κs : _) (a : _) (r r' : _) (s s' : _) → find-far.Post κs a r s → find-far.Post κs a r' s' → r ≡ r'
find_far_one κs a r r' s s' p q = p ∙ sym q

pub how_many_one : (κs : _) (a : _) (r r' : _) (s s' : _) → how_many_lem.Post κs a r s → how_many_lem.Post κs a r' s' → r ≡ r'
how_many_one κs a r r' s s' p q = p ∙ sym q

pub has_twice_one : (κs : _) (a : _) (r r' : _) (s s' : _) → has-twice.Post κs a r s → has-twice.Post κs a r' s' → r ≡ r'
has_twice_one κs a r r' s s' p q = p ∙ sym q
