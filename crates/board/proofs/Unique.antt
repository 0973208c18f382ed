-- Two answers that the promise of a public function of `board` allows are equal: of each, `Post` is its `ensures` as it stands in the source, r
-- and r' are two results, s and s' two states at exit. Assumes nothing.
use mathlib.Core.Path.{◌≡◌, sym, ◌∙◌}
use Rattle.board.proofs.empty.Reads as empty
use Rattle.board.proofs.is_allowed.Reads as is-allowed
use Rattle.board.proofs.listing.look.Reads as look
use Rattle.board.proofs.listing.strike.Reads as strike
use Rattle.board.proofs.listing.write.Reads as write

pub is_allowed_one : (κs : _) (a : _) (r r' : _) (s s' : _) → is-allowed.Post κs a r s → is-allowed.Post κs a r' s' → r ≡ r'
is_allowed_one κs a r r' s s' p q = p ∙ sym q

-- every word of the board
pub empty_one : (κs : _) (a : _) (r r' : _) (s s' : _) → empty.Post κs a r s → empty.Post κs a r' s' → s.0.now ≡ s'.0.now
empty_one κs a r r' s s' p q = p ∙ sym q

-- ---- listing

pub look_one : (κs : _) (a : _) (r r' : _) (s s' : _) → look.Post κs a r s → look.Post κs a r' s' → r ≡ r'
look_one κs a r r' s s' p q = p ∙ sym q

-- the answer, and every word of the board
pub write_one : (κs : _) (a : _) (r r' : _) (s s' : _) → write.Post κs a r s → write.Post κs a r' s' → (r ≡ r') × (s.0.now ≡ s'.0.now)
write_one κs a r r' s s' p q = (p.done ∙ sym q.done, p.words ∙ sym q.words)

pub strike_one : (κs : _) (a : _) (r r' : _) (s s' : _) → strike.Post κs a r s → strike.Post κs a r' s' → (r ≡ r') × (s.0.now ≡ s'.0.now)
strike_one κs a r r' s s' p q = (p.done ∙ sym q.done, p.words ∙ sym q.words)
