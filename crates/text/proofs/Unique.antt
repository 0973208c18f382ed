-- Two answers that the promise of a public function of `text` allows are equal: of each, `Post` is its `ensures` as it stands in the source, r
-- and r' are two results, s and s' two states at exit. Assumes nothing.
use mathlib.Core.Path.{◌≡◌, sym, ◌∙◌}
use Rattle.text.proofs.decimals.put.Reads as put
use Rattle.text.proofs.decimals.size.Reads as size
use Rattle.text.proofs.number.Reads as number
use Rattle.text.proofs.pack_known.Reads as pack-known
use Rattle.text.proofs.writing.has_room.Reads as has_room
use Rattle.text.proofs.writing.join.Reads as join
use Rattle.text.proofs.writing.put.Reads as writing-put
use Rattle.text.proofs.writing.put_bytes.Reads as put-bytes
use Rattle.text.proofs.writing.size.Reads as writing-size

pub pack_known_one : (κs : _) (a : _) (r r' : _) (s s' : _) → pack-known.Post κs a r s → pack-known.Post κs a r' s' → r ≡ r'
pack_known_one κs a r r' s s' p q = p ∙ sym q

pub number_one : (κs : _) (a : _) (r r' : _) (s s' : _) → number.Post κs a r s → number.Post κs a r' s' → r ≡ r'
number_one κs a r r' s s' p q = p ∙ sym q

-- ---- decimals

pub decimals_size_one : (κs : _) (a : _) (r r' : _) (s s' : _) → size.Post κs a r s → size.Post κs a r' s' → r ≡ r'
decimals_size_one κs a r r' s s' p q = p ∙ sym q

pub decimals_put_one : (κs : _) (a : _) (r r' : _) (s s' : _) → put.Post κs a r s → put.Post κs a r' s' → (r ≡ r') × (s.1.0.now ≡ s'.1.0.now)
decimals_put_one κs a r r' s s' p q = (p.0 ∙ sym q.0, p.1 ∙ sym q.1)

-- ---- writing

pub writing_size_one : (κs : _) (a : _) (r r' : _) (s s' : _) → writing-size.Post κs a r s → writing-size.Post κs a r' s' → r ≡ r'
writing_size_one κs a r r' s s' p q = p ∙ sym q

pub has_room_one : (κs : _) (a : _) (r r' : _) (s s' : _) → has_room.Post κs a r s → has_room.Post κs a r' s' → r ≡ r'
has_room_one κs a r r' s s' p q = p ∙ sym q

pub writing_put_one : (κs : _) (a : _) (r r' : _) (s s' : _) → writing-put.Post κs a r s → writing-put.Post κs a r' s' → (r ≡ r') × (s.1.0.now ≡ s'.1.0.now)
writing_put_one κs a r r' s s' p q = (p.0 ∙ sym q.0, p.1 ∙ sym q.1)

pub put_bytes_one : (κs : _) (a : _) (r r' : _) (s s' : _) → put-bytes.Post κs a r s → put-bytes.Post κs a r' s' → (r ≡ r') × (s.1.0.now ≡ s'.1.0.now)
put_bytes_one κs a r r' s s' p q = (p.0 ∙ sym q.0, p.1 ∙ sym q.1)

pub join_one : (κs : _) (a : _) (r r' : _) (s s' : _) → join.Post κs a r s → join.Post κs a r' s' → r ≡ r'
join_one κs a r r' s s' p q = p ∙ sym q
