-- A byte's code and a code's byte. Assumes nothing.
use Rattle.std.specs.Prelude.{ℕ, ◌+◌, ◌-◌, cond, leb, eqb}
use Rattle.text.specs.Class.{is_digit, is_letter}

-- '0'..'9' 1..10, 'A'..'Z' 11..36, '/' 37, any other byte 0
unfoldable pub code_of : ℕ → ℕ
code_of b = cond (is_digit b) (b - 47) (cond (is_letter b) (b - 54) (cond (eqb b 47) 37 0))

-- the byte with that code
unfoldable pub byte_of : ℕ → ℕ
byte_of d = cond (leb d 10) (d + 47) (cond (leb d 36) (d + 54) 47)
