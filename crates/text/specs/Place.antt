-- A number by its places: w places to the base B, the first the highest. Assumes nothing.
use Rattle.std.specs.Prelude.{ℕ, zero, suc, ◌+◌, ◌*◌, ◌/◌, ◌%◌, ◌^◌, Bool, true, cond, ◌&&◌, List, [], ◌∷◌, eqb, leb}
use Rattle.text.specs.Class.{all}

-- the digits from the first place on, and 0 in the places after them
unfoldable pub value : ℕ → ℕ → List ℕ → ℕ
value B zero ds = 0
value B (suc w) [] = 0
value B (suc w) (d ∷ ds) = d * B ^ w + value B w ds

-- the digits of n at all w places
unfoldable pub places : ℕ → ℕ → ℕ → List ℕ
places B zero n = []
places B (suc w) n = n / B ^ w ∷ places B w (n % B ^ w)

-- the digits of n, until nothing but 0 is left
unfoldable pub digits : ℕ → ℕ → ℕ → List ℕ
digits B zero n = []
digits B (suc w) n = cond (eqb n 0) [] (n / B ^ w ∷ digits B w (n % B ^ w))

-- after the first 0 place there are only 0 places
unfoldable pub tight : ℕ → ℕ → ℕ → Bool
tight B zero n = true
tight B (suc w) n = cond (eqb n 0) true (leb (B ^ w) n && tight B w (n % B ^ w))

-- each digit is from lo to hi
abbrev pub in_range : ℕ → ℕ → ℕ → Bool
in_range lo hi d = leb lo d && leb d hi

unfoldable pub all_in : ℕ → ℕ → List ℕ → Bool
all_in lo hi ds = all (in_range lo hi) ds
