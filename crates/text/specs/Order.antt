-- The order of texts: byte by byte, and a text that begins another comes first. Assumes nothing.
use Rattle.std.specs.Prelude.{ℕ, Bool, true, false, ◌&&◌, ◌||◌, List, [], ◌∷◌, ltb, eqb}

abbrev pub less : List ℕ → List ℕ → Bool
less [] [] = false
less [] (e ∷ es) = true
less (d ∷ ds) [] = false
less (d ∷ ds) (e ∷ es) = ltb d e || (eqb d e && less ds es)
