-- Two answers that the promise of a public function of `checks` allows are equal: of each, `Post` is its `ensures` as it stands in the source, r and
-- r' are two results, s and s' two states at exit. Of the cutter's buffer that is the state that it holds. Assumes nothing.
use mathlib.Core.Path.{◌≡◌, sym, ◌∙◌}
use Rattle.cutter.specs.State.{state_in}
use Rattle.checks.proofs.check.Reads as check
use Rattle.checks.proofs.end.Reads as end

-- the counts, how many bytes were written, the cutter's state, and every byte of the output buffer
pub check_one : (κs : _) (a : _) (r r' : _) (s s' : _) → check.Post κs a r s → check.Post κs a r' s'
    → (r.sums.lines ≡ r'.sums.lines) × (r.sums.read ≡ r'.sums.read) × (r.size ≡ r'.size) × (state_in s.0.now r.sums.begun ≡ state_in s'.0.now r'.sums.begun)
    × (s.1.1.1.1.0.now ≡ s'.1.1.1.1.0.now)
check_one κs a r r' s s' p q =
    let x = p.0 in
    let y = q.0 in
    (x.lines ∙ sym y.lines, x.read ∙ sym y.read, x.place ∙ sym y.place, x.state ∙ sym y.state, x.bytes ∙ sym y.bytes)

pub end_one : (κs : _) (a : _) (r r' : _) (s s' : _) → end.Post κs a r s → end.Post κs a r' s' → (r ≡ r') × (s.1.1.0.now ≡ s'.1.1.0.now)
end_one κs a r r' s s' p q = (p.0 ∙ sym q.0, p.1.0 ∙ sym q.1.0)
