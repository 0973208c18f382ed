-- Two answers that the promise of a public function of `writer` allows are equal: of each, `Post` is its `ensures` as it stands in the source,
-- r and r' are two results, s and s' two states at exit. Assumes nothing.
use mathlib.Core.Path.{◌≡◌, sym, ◌∙◌}
use Rattle.writer.proofs.write.Reads as write
use Rattle.writer.proofs.write_old.Reads as write-old

-- the answer, and every byte of the buffer
pub write_one : (κs : _) (a : _) (r r' : _) (s s' : _) → write.Post κs a r s → write.Post κs a r' s' → (r ≡ r') × (s.1.1.0.now ≡ s'.1.1.0.now)
write_one κs a r r' s s' p q = (p.0 ∙ sym q.0, p.1.0 ∙ sym q.1.0)

pub write_old_one : (κs : _) (a : _) (r r' : _) (s s' : _) → write-old.Post κs a r s → write-old.Post κs a r' s' → (r ≡ r') × (s.1.1.0.now ≡ s'.1.1.0.now)
write_old_one κs a r r' s s' p q = (p.0 ∙ sym q.0, p.1.0 ∙ sym q.1.0)
