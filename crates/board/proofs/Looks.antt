-- How many looks a search takes, over the width: half of the rows is left after each, so 2 ^ m rows take one more than m. Assumes nothing.
use Prim.Native.Nat.{ℕ, zero, suc, ◌≤◌, ◌<◌}
use native.Mathlib.Nat.{not-suc-le-zero}
use native.Mathlib.Omega.{arith}
use mathlib.Core.Path.{◌≡◌, refl, sym, ap, ◌∙◌}
use mathlib.Core.Bool.{Bool, true, false, cond}
use borrow.Author.Tests.{leb-false, le-leb, lt-leb}
use lib.Dec.{leb}
use Rattle.board.specs.Halving.{half, looks_in, looks}

-- as many halvings counted as there are rows are enough
enough : (n m width : ℕ) → width ≤ n → width ≤ m → looks_in n width ≡ looks_in m width
enough zero zero width h h' = refl
enough zero (suc m) width h h' = sym (ap (λ (b : Bool). cond b 1 (suc (looks_in m (half width)))) (le-leb width 1 (omega arith)))
enough (suc n) zero width h h' = ap (λ (b : Bool). cond b 1 (suc (looks_in n (half width)))) (le-leb width 1 (omega arith))
enough (suc n) (suc m) width h h' = go (leb width 1) refl (λ p q. enough n m (half width) p q)
  where
    go : (b : Bool) → leb width 1 ≡ b → (half width ≤ n → half width ≤ m → looks_in n (half width) ≡ looks_in m (half width))
        → cond b 1 (suc (looks_in n (half width))) ≡ cond b 1 (suc (looks_in m (half width)))
    go true e ih = refl
    go false e ih = let more : 1 < width = leb-false width 1 e in ap suc (ih (omega arith) (omega arith))

-- one look tells of one row
pub looks_one : looks 1 ≡ 1
unfolding looks
looks_one = refl

-- of more rows one look leaves half
pub looks_half : (width : ℕ) → 1 < width → looks width ≡ suc (looks (half width))
unfolding looks
looks_half zero h = absurd (not-suc-le-zero h)
looks_half (suc n) h =
    ap (λ (b : Bool). cond b 1 (suc (looks_in n (half (suc n))))) (lt-leb (suc n) 1 h)
    ∙ ap suc (enough n (half (suc n)) (half (suc n)) (omega arith) (omega arith))
