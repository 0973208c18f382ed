-- Two answers that the promise of a public function of `line` allows are equal: of each, `Post` is its `ensures` as it stands in the source, r
-- and r' are two results, s and s' two states at exit. Assumes nothing.
use mathlib.Core.Path.{◌≡◌, sym, ◌∙◌}
use Rattle.line.proofs.Refusal.number.Reads as number
use Rattle.line.proofs.Refusal.place.Reads as place
use Rattle.line.proofs.free.Reads as free
use Rattle.line.proofs.read.Reads as read
use Rattle.line.proofs.read_old.Reads as read-old

pub read_one : (κs : _) (a : _) (r r' : _) (s s' : _) → read.Post κs a r s → read.Post κs a r' s' → r ≡ r'
read_one κs a r r' s s' p q = p.0 ∙ sym q.0

pub read_old_one : (κs : _) (a : _) (r r' : _) (s s' : _) → read-old.Post κs a r s → read-old.Post κs a r' s' → r ≡ r'
read_old_one κs a r r' s s' p q = p.0 ∙ sym q.0

pub number_one : (κs : _) (a : _) (r r' : _) (s s' : _) → number.Post κs a r s → number.Post κs a r' s' → r ≡ r'
number_one κs a r r' s s' p q = p ∙ sym q

pub place_one : (κs : _) (a : _) (r r' : _) (s s' : _) → place.Post κs a r s → place.Post κs a r' s' → r ≡ r'
place_one κs a r r' s s' p q = p ∙ sym q

-- the free text is a part of the line: where it lies, and its bytes
pub free_one : (κs : _) (a : _) (r r' : _) (s s' : _) → free.Post κs a r s → free.Post κs a r' s' → (r.ref_ptr ≡ r'.ref_ptr) × (r.now ≡ r'.now)
free_one κs a r r' s s' p q = (p.1 ∙ sym q.1, p.0 ∙ sym q.0)
