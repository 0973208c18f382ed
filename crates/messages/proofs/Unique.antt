-- Two answers that the promise of a public function of `messages` allows are equal: of each, `Post` is its `ensures` as it stands in the
-- source, r and r' are two results, s and s' two states at exit. Assumes nothing.
use mathlib.Core.Path.{◌≡◌, sym, ◌∙◌}
use Rattle.messages.proofs.Amended.amendment.Reads as held
use Rattle.messages.proofs.Amendment.amended.Reads as content
use Rattle.messages.proofs.Plan.filed_level.Reads as filed-level
use Rattle.messages.proofs.key_in.Reads as key_in
use Rattle.messages.proofs.marks_in.Reads as marks-in
use Rattle.messages.proofs.type_in.Reads as type-in
use Rattle.messages.proofs.typed.read_body.Reads as read-body
use Rattle.messages.proofs.values.values_in.Reads as values-in

pub filed_level_one : (κs : _) (a : _) (r r' : _) (s s' : _) → filed-level.Post κs a r s → filed-level.Post κs a r' s' → r ≡ r'
filed_level_one κs a r r' s s' p q = p ∙ sym q

pub amended_one : (κs : _) (a : _) (r r' : _) (s s' : _) → content.Post κs a r s → content.Post κs a r' s' → r ≡ r'
amended_one κs a r r' s s' p q = p ∙ sym q

pub amendment_one : (κs : _) (a : _) (r r' : _) (s s' : _) → held.Post κs a r s → held.Post κs a r' s' → r ≡ r'
amendment_one κs a r r' s s' p q = p ∙ sym q

pub type_in_one : (κs : _) (a : _) (r r' : _) (s s' : _) → type-in.Post κs a r s → type-in.Post κs a r' s' → r ≡ r'
type_in_one κs a r r' s s' p q = p ∙ sym q

pub key_in_one : (κs : _) (a : _) (r r' : _) (s s' : _) → key_in.Post κs a r s → key_in.Post κs a r' s' → r ≡ r'
key_in_one κs a r r' s s' p q = p ∙ sym q

pub marks_in_one : (κs : _) (a : _) (r r' : _) (s s' : _) → marks-in.Post κs a r s → marks-in.Post κs a r' s' → r ≡ r'
marks_in_one κs a r r' s s' p q = p ∙ sym q

-- ---- typed

pub read_body_one : (κs : _) (a : _) (r r' : _) (s s' : _) → read-body.Post κs a r s → read-body.Post κs a r' s' → r ≡ r'
read_body_one κs a r r' s s' p q = p ∙ sym q

-- ---- values

pub values_in_one : (κs : _) (a : _) (r r' : _) (s s' : _) → values-in.Post κs a r s → values-in.Post κs a r' s' → r ≡ r'
values_in_one κs a r r' s s' p q = p ∙ sym q
