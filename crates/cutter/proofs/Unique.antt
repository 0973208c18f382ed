-- Two answers that the promise of a public function of `cutter` allows are equal: of each, `Post` is its `ensures` as it stands in the source,
-- r and r' are two results, s and s' two states at exit. Assumes nothing.
use mathlib.Core.Path.{◌≡◌, sym, ◌∙◌}
use Rattle.cutter.proofs.cut.Reads as cut
use Rattle.cutter.proofs.end.Reads as end
use Rattle.cutter.proofs.is_allowed.Reads as is-allowed
use Rattle.cutter.proofs.line.Reads as line

pub is_allowed_one : (κs : _) (a : _) (r r' : _) (s s' : _) → is-allowed.Post κs a r s → is-allowed.Post κs a r' s' → r ≡ r'
is_allowed_one κs a r r' s s' p q = p ∙ sym q

-- the answer, the bytes used and the state, and every byte of the buffer
pub cut_one : (κs : _) (a : _) (r r' : _) (s s' : _) → cut.Post κs a r s → cut.Post κs a r' s' → (r ≡ r') × (s.0.now ≡ s'.0.now)
cut_one κs a r r' s s' p q = (p.0 ∙ sym q.0, p.1.0 ∙ sym q.1.0)

pub end_one : (κs : _) (a : _) (r r' : _) (s s' : _) → end.Post κs a r s → end.Post κs a r' s' → r ≡ r'
end_one κs a r r' s s' p q = p.0 ∙ sym q.0

-- the line is a part of the buffer or of the part: its bytes are those of one list
pub line_one : (κs : _) (a : _) (r r' : _) (s s' : _) → line.Post κs a r s → line.Post κs a r' s' → r.now ≡ r'.now
line_one κs a r r' s s' p q = p ∙ sym q
