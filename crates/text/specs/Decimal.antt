-- A number as its decimal digits: no zero in front, and for 0 the one digit 0. Assumes nothing.
use Rattle.std.specs.Prelude.{ℕ, zero, suc, ◌/◌, Bool, true, false, cond, not, List, [], ◌∷◌, ltb, eqb}
use Rattle.text.specs.Number.{padded}

-- how many digits n has, if that is at most k and one more
unfoldable pub width_by : ℕ → ℕ → ℕ
width_by zero n = 1
width_by (suc k) n = cond (ltb n 10) 1 (suc (width_by k (n / 10)))

-- no word has more than twenty
abbrev pub width_of : ℕ → ℕ
width_of n = width_by 19 n

-- `proofs/Decimal` shows that these are the only digits of n without a zero in front
unfoldable pub decimal : ℕ → List ℕ
decimal n = padded 10 (width_of n) n

-- one byte, or more of which the first is no zero; 48 is the byte of the digit 0
unfoldable pub no_zero_front : List ℕ → Bool
no_zero_front [] = false
no_zero_front (b ∷ []) = true
no_zero_front (b ∷ c ∷ s) = not (eqb b 48)
