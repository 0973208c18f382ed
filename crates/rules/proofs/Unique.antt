-- Two answers that the promise of a public function of `rules` allows are equal: of each, `Post` is its `ensures` as it stands in the source, r
-- and r' are two results, s and s' two states at exit. Assumes nothing.
use mathlib.Core.Path.{◌≡◌, sym, ◌∙◌}
use Rattle.rules.proofs.clocks.is_stamp.Reads as is-stamp
use Rattle.rules.proofs.is_facility.Reads as is-facility
use Rattle.rules.proofs.is_form.Reads as is-form
use Rattle.rules.proofs.is_position.Reads as is-position
use Rattle.rules.proofs.is_route.Reads as is-route

pub is_facility_one : (κs : _) (a : _) (r r' : _) (s s' : _) → is-facility.Post κs a r s → is-facility.Post κs a r' s' → r ≡ r'
is_facility_one κs a r r' s s' p q = p ∙ sym q

pub is_position_one : (κs : _) (a : _) (r r' : _) (s s' : _) → is-position.Post κs a r s → is-position.Post κs a r' s' → r ≡ r'
is_position_one κs a r r' s s' p q = p ∙ sym q

pub is_route_one : (κs : _) (a : _) (r r' : _) (s s' : _) → is-route.Post κs a r s → is-route.Post κs a r' s' → r ≡ r'
is_route_one κs a r r' s s' p q = p ∙ sym q

-- ---- clocks

pub is_stamp_one : (κs : _) (a : _) (r r' : _) (s s' : _) → is-stamp.Post κs a r s → is-stamp.Post κs a r' s' → r ≡ r'
is_stamp_one κs a r r' s s' p q = p ∙ sym q

-- ---- rules

pub is_form_one : (κs : _) (a : _) (r r' : _) (s s' : _) → is-form.Post κs a r s → is-form.Post κs a r' s' → r ≡ r'
is_form_one κs a r r' s s' p q = p ∙ sym q
