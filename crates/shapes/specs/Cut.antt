-- A text cut at the first byte b. Assumes nothing.
use Rattle.std.specs.Prelude.{ℕ, suc, ◌+◌, Bool, cond, ◌&&◌, List, [], ◌∷◌, eqb, ltb, length, take, drop}

-- how many bytes come before the first b; all, where there is none
unfoldable pub up_to : ℕ → List ℕ → ℕ
up_to b [] = 0
up_to b (x ∷ s) = cond (eqb x b) 0 (suc (up_to b s))

unfoldable pub has : ℕ → List ℕ → Bool
has b s = ltb (up_to b s) (length s)

unfoldable pub before : ℕ → List ℕ → List ℕ
before b s = take (up_to b s) s

unfoldable pub after : ℕ → List ℕ → List ℕ
after b s = drop (up_to b s + 1) s

-- a text with p, the byte b, and a text with q. `proofs/Joins` shows that it is so of every x with p that has no b.
unfoldable pub joins : ℕ → (List ℕ → Bool) → (List ℕ → Bool) → List ℕ → Bool
joins b p q s = has b s && p (before b s) && q (after b s)
