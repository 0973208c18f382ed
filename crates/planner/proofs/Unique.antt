-- Two answers that the promise of a public function of `planner` allows are equal: of each, `Post` is its `ensures` as it stands in the source,
-- r and r' are two results, s and s' two states at exit. Assumes nothing.
use mathlib.Core.Path.{◌≡◌, sym, ◌∙◌}
use Rattle.planner.proofs.apply.Reads as apply
use Rattle.planner.proofs.apply_allowed.Reads as apply-allowed
use Rattle.planner.proofs.strike.Reads as strike

-- the answer, and every word of the board
pub apply_one : (κs : _) (a : _) (r r' : _) (s s' : _) → apply.Post κs a r s → apply.Post κs a r' s' → (r ≡ r') × (s.0.now ≡ s'.0.now)
apply_one κs a r r' s s' p q = (p.0 ∙ sym q.0, p.1.0 ∙ sym q.1.0)

pub apply_allowed_one : (κs : _) (a : _) (r r' : _) (s s' : _) → apply-allowed.Post κs a r s → apply-allowed.Post κs a r' s' → (r ≡ r') × (s.0.now ≡ s'.0.now)
apply_allowed_one κs a r r' s s' p q = (p.answered ∙ sym q.answered, p.words ∙ sym q.words)

pub strike_one : (κs : _) (a : _) (r r' : _) (s s' : _) → strike.Post κs a r s → strike.Post κs a r' s' → (r ≡ r') × (s.0.now ≡ s'.0.now)
strike_one κs a r r' s s' p q = (p.0 ∙ sym q.0, p.1.0 ∙ sym q.1.0)
