-- Two answers that the promise of a public function of `dayfile` allows are equal: of each, `Post` is its `ensures` as it stands in the source,
-- r and r' are two results, s and s' two states at exit. Assumes nothing.
use mathlib.Core.Path.{◌≡◌, sym, ◌∙◌}
use Rattle.dayfile.proofs.version_1.Reads as version-1
use Rattle.dayfile.proofs.walking.least.Reads as least
use Rattle.dayfile.proofs.«open».Reads as opening
use Rattle.dayfile.proofs.line.Reads as line
use Rattle.dayfile.proofs.keep_line.Reads as keep-line
use Rattle.dayfile.proofs.ending.end_file.Reads as end-file

pub version_1_one : (κs : _) (a : _) (r r' : _) (s s' : _) → version-1.Post κs a r s → version-1.Post κs a r' s' → r ≡ r'
version_1_one κs a r r' s s' p q = p ∙ sym q

pub open_one : (κs : _) (a : _) (r r' : _) (s s' : _) → opening.Post κs a r s → opening.Post κs a r' s' → r ≡ r'
open_one κs a r r' s s' p q = p ∙ sym q

-- the line's bytes, and where it lies in the file
pub line_one : (κs : _) (a : _) (r r' : _) (s s' : _) → line.Post κs a r s → line.Post κs a r' s' → (r.ref_ptr ≡ r'.ref_ptr) × (r.now ≡ r'.now)
line_one κs a r r' s s' p q = (p.1 ∙ sym q.1, p.0 ∙ sym q.0)

-- the answer, every byte of the buffer and every number of the run
pub keep_line_one : (κs : _) (a : _) (r r' : _) (s s' : _) → keep-line.Post κs a r s → keep-line.Post κs a r' s'
    → (r ≡ r') × (s.1.0.now ≡ s'.1.0.now) × (s.1.1.0.now ≡ s'.1.1.0.now)
keep_line_one κs a r r' s s' p q =
    let e : r ≡ r' = p.0 ∙ sym q.0 in
    (e, p.1.0 ∙ rw e (sym q.1.0), p.1.1 ∙ rw e (sym q.1.1))

pub end_file_one : (κs : _) (a : _) (r r' : _) (s s' : _) → end-file.Post κs a r s → end-file.Post κs a r' s' → (r ≡ r') × (s.0.now ≡ s'.0.now)
end_file_one κs a r r' s s' p q =
    let e : r ≡ r' = p.0 ∙ sym q.0 in
    (e, p.1 ∙ rw e (sym q.1))

pub least_one : (κs : _) (a : _) (r r' : _) (s s' : _) → least.Post κs a r s → least.Post κs a r' s' → r ≡ r'
least_one κs a r r' s s' p q = p ∙ sym q
