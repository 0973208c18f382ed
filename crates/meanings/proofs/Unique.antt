-- Two answers that the promise of a public function of `meanings` allows are equal: of each, `Post` is its `ensures` as it stands in the
-- source, r and r' are two results, s and s' two states at exit. Assumes nothing.
use mathlib.Core.Path.{◌≡◌, sym, ◌∙◌}
use Rattle.meanings.proofs.ages.age.Reads as age
use Rattle.meanings.proofs.level_numbers.Reads as level-numbers
use Rattle.meanings.proofs.position_minutes.Reads as position-minutes
use Rattle.meanings.proofs.stamp_moment.Reads as stamp-moment

pub stamp_moment_one : (κs : _) (a : _) (r r' : _) (s s' : _) → stamp-moment.Post κs a r s → stamp-moment.Post κs a r' s' → r ≡ r'
stamp_moment_one κs a r r' s s' p q = p ∙ sym q

pub position_minutes_one : (κs : _) (a : _) (r r' : _) (s s' : _) → position-minutes.Post κs a r s → position-minutes.Post κs a r' s' → r ≡ r'
position_minutes_one κs a r r' s s' p q = p ∙ sym q

pub level_numbers_one : (κs : _) (a : _) (r r' : _) (s s' : _) → level-numbers.Post κs a r s → level-numbers.Post κs a r' s' → r ≡ r'
level_numbers_one κs a r r' s s' p q = p.0 ∙ sym q.0

-- ---- ages

pub age_one : (κs : _) (a : _) (r r' : _) (s s' : _) → age.Post κs a r s → age.Post κs a r' s' → r ≡ r'
age_one κs a r r' s s' p q = p.0 ∙ sym q.0
