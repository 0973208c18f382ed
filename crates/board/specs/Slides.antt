-- Words that move within a list: the words from p up to e move w to the right, or the n words from p + w move w to
-- the left. Assumes nothing.
use Rattle.std.specs.Prelude.{List, ◌++◌, ℕ, ◌+◌, ◌-◌, take, drop, replicate}
use Rattle.std.proofs.Math.Seq.{paste}

unfoldable pub slid_right : List ℕ → ℕ → ℕ → ℕ → List ℕ
slid_right l p e w = take (p + w) l ++ (take (e - p) (drop p l) ++ drop (e + w) l)

unfoldable pub slid_left : List ℕ → ℕ → ℕ → ℕ → List ℕ
slid_left l p n w = paste l p (drop (p + w) l) n

-- the n words from p are 0
unfoldable pub zeroed : List ℕ → ℕ → ℕ → List ℕ
zeroed l p n = take p l ++ replicate n 0 ++ drop (p + n) l
