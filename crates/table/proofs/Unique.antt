-- Two answers that the promise of a public function of `table` allows are equal: of each, `Post` is its `ensures` as it stands in the source, r
-- and r' are two results, s and s' two states at exit. Assumes nothing.
use mathlib.Core.Path.{◌≡◌, sym, ◌∙◌}
use Rattle.table.proofs.field.put_field.Reads as put-field
use Rattle.table.proofs.field_count.Reads as field-count
use Rattle.table.proofs.has_fields.Reads as has-fields
use Rattle.table.proofs.has_type.Reads as has-type
use Rattle.table.proofs.has_route.Reads as has_route_lem
use Rattle.table.proofs.is_count.Reads as is-count
use Rattle.table.proofs.is_long_plan.Reads as is-long-plan
use Rattle.table.proofs.kinds.follows.Reads as follows
use Rattle.table.proofs.kinds.trace.Reads as trace
use Rattle.table.proofs.kinds.marks_after.Reads as marks_after
use Rattle.table.proofs.kinds.plain.Reads as plain
use Rattle.table.proofs.kinds.Value.is_one.Reads as value-is-one
use Rattle.table.proofs.kinds.Value.word.Reads as value-word
use Rattle.table.proofs.kinds_of.Reads as kinds-of
use Rattle.table.proofs.read.Reads as read
use Rattle.table.proofs.route.Reads as route

pub kinds_of_one : (κs : _) (a : _) (r r' : _) (s s' : _) → kinds-of.Post κs a r s → kinds-of.Post κs a r' s' → r ≡ r'
kinds_of_one κs a r r' s s' p q = p ∙ sym q

pub read_one : (κs : _) (a : _) (r r' : _) (s s' : _) → read.Post κs a r s → read.Post κs a r' s' → (r.answer ≡ r'.answer) × (r.values ≡ r'.values)
read_one κs a r r' s s' p q = (p.0 ∙ sym q.0, p.1 ∙ sym q.1)

-- the route is a part of the body: where it lies, and its bytes
pub route_one : (κs : _) (a : _) (r r' : _) (s s' : _) → route.Post κs a r s → route.Post κs a r' s' → (r.ref_ptr ≡ r'.ref_ptr) × (r.now ≡ r'.now)
route_one κs a r r' s s' p q = (p.1 ∙ sym q.1, p.0 ∙ sym q.0)

-- ---- counts

pub field_count_one : (κs : _) (a : _) (r r' : _) (s s' : _) → field-count.Post κs a r s → field-count.Post κs a r' s' → r ≡ r'
field_count_one κs a r r' s s' p q = p ∙ sym q

pub has_fields_one : (κs : _) (a : _) (r r' : _) (s s' : _) → has-fields.Post κs a r s → has-fields.Post κs a r' s' → r ≡ r'
has_fields_one κs a r r' s s' p q = p ∙ sym q

pub has_type_one : (κs : _) (a : _) (r r' : _) (s s' : _) → has-type.Post κs a r s → has-type.Post κs a r' s' → r ≡ r'
has_type_one κs a r r' s s' p q = p ∙ sym q

pub has_route_one : (κs : _) (a : _) (r r' : _) (s s' : _) → has_route_lem.Post κs a r s → has_route_lem.Post κs a r' s' → r ≡ r'
has_route_one κs a r r' s s' p q = p ∙ sym q

pub is_count_one : (κs : _) (a : _) (r r' : _) (s s' : _) → is-count.Post κs a r s → is-count.Post κs a r' s' → r ≡ r'
is_count_one κs a r r' s s' p q = p ∙ sym q

pub is_long_plan_one : (κs : _) (a : _) (r r' : _) (s s' : _) → is-long-plan.Post κs a r s → is-long-plan.Post κs a r' s' → r ≡ r'
is_long_plan_one κs a r r' s s' p q = p ∙ sym q

-- ---- kinds

pub plain_one : (κs : _) (a : _) (r r' : _) (s s' : _) → plain.Post κs a r s → plain.Post κs a r' s' → r ≡ r'
plain_one κs a r r' s s' p q = p ∙ sym q

pub trace_one : (κs : _) (a : _) (r r' : _) (s s' : _) → trace.Post κs a r s → trace.Post κs a r' s' → r ≡ r'
trace_one κs a r r' s s' p q = p ∙ sym q

pub marks_after_one : (κs : _) (a : _) (r r' : _) (s s' : _) → marks_after.Post κs a r s → marks_after.Post κs a r' s' → r ≡ r'
marks_after_one κs a r r' s s' p q = p ∙ sym q

pub follows_one : (κs : _) (a : _) (r r' : _) (s s' : _) → follows.Post κs a r s → follows.Post κs a r' s' → r ≡ r'
follows_one κs a r r' s s' p q = p ∙ sym q

-- ---- showing

-- the answer, and every byte of the buffer
pub put_field_one : (κs : _) (a : _) (r r' : _) (s s' : _) → put-field.Post κs a r s → put-field.Post κs a r' s' → (r ≡ r') × (s.1.1.1.1.0.now ≡ s'.1.1.1.1.0.now)
put_field_one κs a r r' s s' p q = (p.0 ∙ sym q.0, p.1 ∙ sym q.1)

-- ---- values

pub value_word_one : (κs : _) (a : _) (r r' : _) (s s' : _) → value-word.Post κs a r s → value-word.Post κs a r' s' → r ≡ r'
value_word_one κs a r r' s s' p q = p ∙ sym q

pub value_is_one_one : (κs : _) (a : _) (r r' : _) (s s' : _) → value-is-one.Post κs a r s → value-is-one.Post κs a r' s' → r ≡ r'
value_is_one_one κs a r r' s s' p q = p ∙ sym q
