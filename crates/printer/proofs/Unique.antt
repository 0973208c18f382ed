-- Two answers that the promise of a public function of `printer` allows are equal: of each, `Post` is its `ensures` as it stands in the source,
-- r and r' are two results, s and s' two states at exit. Assumes nothing.
use mathlib.Core.Path.{◌≡◌, sym, ◌∙◌}
use Rattle.printer.proofs.print.Reads as print
use Rattle.printer.proofs.print_counts.Reads as print-counts
use Rattle.printer.proofs.put_count.Reads as put_count
use Rattle.printer.proofs.slips.put_part.Reads as put-part

-- the answer, and every byte of the buffer
pub print_one : (κs : _) (a : _) (r r' : _) (s s' : _) → print.Post κs a r s → print.Post κs a r' s' → (r ≡ r') × (s.1.0.now ≡ s'.1.0.now)
print_one κs a r r' s s' p q = (p.0 ∙ sym q.0, p.1.0 ∙ sym q.1.0)

pub print_counts_one : (κs : _) (a : _) (r r' : _) (s s' : _) → print-counts.Post κs a r s → print-counts.Post κs a r' s' → (r ≡ r') × (s.1.1.0.now ≡ s'.1.1.0.now)
print_counts_one κs a r r' s s' p q = (p.0 ∙ sym q.0, p.1.0 ∙ sym q.1.0)

pub put_count_one : (κs : _) (a : _) (r r' : _) (s s' : _) → put_count.Post κs a r s → put_count.Post κs a r' s' → (r ≡ r') × (s.1.1.1.0.now ≡ s'.1.1.1.0.now)
put_count_one κs a r r' s s' p q = (p.0 ∙ sym q.0, p.1 ∙ sym q.1)

pub put_part_one : (κs : _) (a : _) (r r' : _) (s s' : _) → put-part.Post κs a r s → put-part.Post κs a r' s' → (r ≡ r') × (s.1.1.0.now ≡ s'.1.1.0.now)
put_part_one κs a r r' s s' p q = (p.0 ∙ sym q.0, p.1 ∙ sym q.1)
