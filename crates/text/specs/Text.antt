-- A short text, at most 12 capitals, digits and slashes, as one number: 12 places of base 38, a code in each, and 0 in the
-- places after the text. What `pack`, `size` and `put` answer. Assumes nothing.
use Rattle.std.specs.Prelude.{ℕ, ◌+◌, ◌^◌, Bool, cond, ◌&&◌, List, ◌∷◌, ◌++◌, map, leb, ltb, length, take, drop, Err, None, Ok, Option, Result, Some}
use Rattle.text.specs.Class.{all, is_text_byte}
use Rattle.text.specs.Code.{code_of, byte_of}
use Rattle.text.specs.Place.{value, digits, tight}
use Rattle.text.specs.declared.NotWritten.TheVariants.{NoRoom, NoText}
use Rattle.text.specs.declared.NotWritten.{NotWritten}

unfoldable pub is_text : List ℕ → Bool
is_text s = leb (length s) 12 && all is_text_byte s

-- the number of a text
unfoldable pub packed : List ℕ → ℕ
packed s = value 38 12 (map code_of s)

-- the text of a number
unfoldable pub text_of : ℕ → List ℕ
text_of n = map byte_of (digits 38 12 n)

-- the number is that of some text
unfoldable pub is_packed : ℕ → Bool
is_packed n = ltb n (38 ^ 12) && tight 38 12 n

unfoldable pub pack_of : List ℕ → Option ℕ
pack_of s = cond (is_text s) (Some (packed s)) None

unfoldable pub size_of : ℕ → Option ℕ
size_of t = cond (is_packed t) (Some (length (text_of t))) None

-- two texts with a slash between them
unfoldable pub slashed : List ℕ → List ℕ → List ℕ
slashed x y = x ++ 47 ∷ y

unfoldable pub join_of : ℕ → ℕ → Option ℕ
join_of a b = cond (is_packed a && is_packed b && leb (length (slashed (text_of a) (text_of b))) 12) (Some (packed (slashed (text_of a) (text_of b)))) None

-- vs in the place of as many bytes of l from index i; every other byte as it was
unfoldable pub spliced : List ℕ → ℕ → List ℕ → List ℕ
spliced l i vs = take i l ++ vs ++ drop (i + length vs) l

-- vs has room in out from place `at`; past the end of out nothing has
unfoldable pub has_room : List ℕ → List ℕ → ℕ → Bool
has_room vs out at = leb (at + length vs) (length out)

-- writing vs, where `ok` says that there is such a text to write: the answer, and the buffer after it
unfoldable pub written_next : Bool → List ℕ → List ℕ → ℕ → Result ℕ NotWritten
written_next ok vs out at = cond ok (cond (has_room vs out at) (Ok (at + length vs)) (Err NoRoom)) (Err NoText)

unfoldable pub written_bytes : Bool → List ℕ → List ℕ → ℕ → List ℕ
written_bytes ok vs out at = cond (ok && has_room vs out at) (spliced out at vs) out
