-- How often a byte stands in a text. Assumes nothing.
use Rattle.std.specs.Prelude.{ℕ, suc, Bool, false, cond, ◌&&◌, ◌||◌, List, [], ◌∷◌, eqb}

unfoldable pub how_many : ℕ → List ℕ → ℕ
how_many b [] = 0
how_many b (x ∷ s) = cond (eqb x b) (suc (how_many b s)) (how_many b s)

-- two b stand side by side
unfoldable pub twice : ℕ → List ℕ → Bool
twice b [] = false
twice b (x ∷ []) = false
twice b (x ∷ (y ∷ s)) = eqb x b && eqb y b || twice b (y ∷ s)
