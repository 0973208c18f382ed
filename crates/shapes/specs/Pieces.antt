-- A text in pieces, parted by the byte b: one more than it has such bytes. Assumes nothing.
use Rattle.std.specs.Prelude.{ℕ, Bool, true, cond, ◌&&◌, not, List, [], ◌∷◌, ◌++◌, eqb}
use Rattle.shapes.specs.Cut.{has}

-- a byte before the first piece
abbrev pub grow : ℕ → List (List ℕ) → List (List ℕ)
grow x [] = (x ∷ []) ∷ []
grow x (p ∷ ps) = (x ∷ p) ∷ ps

unfoldable pub pieces : ℕ → List ℕ → List (List ℕ)
pieces b [] = [] ∷ []
pieces b (x ∷ s) = cond (eqb x b) ([] ∷ pieces b s) (grow x (pieces b s))

-- the text of pieces, each after a b. `proofs/Pieces` shows that these are the pieces of a text, and the only ones without b.
unfoldable pub each_after : ℕ → List (List ℕ) → List ℕ
each_after b [] = []
each_after b (p ∷ ps) = b ∷ (p ++ each_after b ps)

unfoldable pub none_has : ℕ → List (List ℕ) → Bool
none_has b [] = true
none_has b (p ∷ ps) = not (has b p) && none_has b ps
