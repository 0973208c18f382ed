-- Digits and the number they are, to any base up to 36 and of any width, leading zeros kept. Assumes nothing.
use Rattle.std.specs.Prelude.{ℕ, suc, ◌-◌, Bool, cond, ◌&&◌, List, map, leb, length, None, Option, Some}
use Rattle.text.specs.Class.{all}
use Rattle.text.specs.Code.{code_of, byte_of}
use Rattle.text.specs.Place.{value, places}

-- the byte is a digit to the base B: 0 to 9, then A, B ..
unfoldable pub is_digit_to : ℕ → ℕ → Bool
is_digit_to B b = leb 1 (code_of b) && leb (code_of b) B

unfoldable pub digit_of : ℕ → ℕ
digit_of b = code_of b - 1

-- the number that the digits s are
unfoldable pub number_of : ℕ → List ℕ → ℕ
number_of B s = value B (length s) (map digit_of s)

-- the w digits of n, zeros in front
unfoldable pub padded : ℕ → ℕ → ℕ → List ℕ
padded B w n = map (λ d. byte_of (suc d)) (places B w n)

-- at most 12 digits to the base B, which is at most 36
unfoldable pub is_numeral : ℕ → List ℕ → Bool
is_numeral B s = leb B 36 && leb (length s) 12 && all (is_digit_to B) s

unfoldable pub read_number : ℕ → List ℕ → Option ℕ
read_number B s = cond (is_numeral B s) (Some (number_of B s)) None
