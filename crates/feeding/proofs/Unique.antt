-- Two answers that the promise of a public function of `feeding` allows are equal: of each, `Post` is its `ensures` as it stands in the source,
-- r and r' are two results, s and s' two states at exit. Assumes nothing.
use mathlib.Core.Path.{◌≡◌, sym, ◌∙◌}
use Rattle.feeding.proofs.feed.Reads as feed
use Rattle.feeding.proofs.feed_allowed.Reads as feed-allowed

-- the answer with its counts, every word of the board and every byte of the buffer
pub feed_one : (κs : _) (a : _) (r r' : _) (s s' : _) → feed.Post κs a r s → feed.Post κs a r' s'
    → (r ≡ r') × ((s.0.now ≡ s'.0.now) × (s.1.0.now ≡ s'.1.0.now))
feed_one κs a r r' s s' p q = (p.0 ∙ sym q.0, (p.1.0 ∙ sym q.1.0, p.1.1.0 ∙ sym q.1.1.0))

pub feed_allowed_one : (κs : _) (a : _) (r r' : _) (s s' : _) → feed-allowed.Post κs a r s → feed-allowed.Post κs a r' s'
    → (r ≡ r') × ((s.0.now ≡ s'.0.now) × (s.1.0.now ≡ s'.1.0.now))
feed_allowed_one κs a r r' s s' p q = (p.0 ∙ sym q.0, (p.1.0 ∙ sym q.1.0, p.1.1 ∙ sym q.1.1))
