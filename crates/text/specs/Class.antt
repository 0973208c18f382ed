-- Classes of bytes. Assumes nothing.
use Rattle.std.specs.Prelude.{ℕ, Bool, true, ◌&&◌, ◌||◌, List, [], ◌∷◌, leb, eqb}

-- the test holds of each
unfoldable pub all : (ℕ → Bool) → List ℕ → Bool
all f [] = true
all f (b ∷ s) = f b && all f s

-- 0 to 9
unfoldable pub is_digit : ℕ → Bool
is_digit b = leb 48 b && leb b 57

-- A to Z
unfoldable pub is_letter : ℕ → Bool
is_letter b = leb 65 b && leb b 90

-- a capital or a digit
unfoldable pub is_alnum : ℕ → Bool
is_alnum b = is_digit b || is_letter b

-- a byte of a short text: a capital, a digit or a slash
unfoldable pub is_text_byte : ℕ → Bool
is_text_byte b = is_alnum b || eqb b 47
