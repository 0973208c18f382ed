-- The words that document 01's field rules are made of: a picture, a run of one class, a number within limits, a part.
-- Assumes nothing.
use Rattle.std.specs.Prelude.{ℕ, ◌+◌, Bool, true, false, cond, ◌&&◌, ◌||◌, List, [], ◌∷◌, leb, eqb, length, take, drop}
use Prim.Native.Char.{code}
use Rattle.text.specs.Class.{all, is_digit, is_letter, is_alnum}
use Rattle.text.specs.Number.{is_numeral, number_of}
use Rattle.shapes.specs.Pieces.{pieces}

-- one of two bytes
abbrev pub either : ℕ → ℕ → ℕ → Bool
either x y b = eqb b x || eqb b y

-- what a letter of a picture stands for: d a digit, l a letter, a an alnum, h 0-9 or A-F, n N or S, e E or W,
-- t D, E or P, m A or E, v a byte 33 to 126; any other byte stands for itself
unfoldable pub is_of : ℕ → ℕ → Bool
is_of k b =
    cond (eqb k (code "d")) (is_digit b)
    (cond (eqb k (code "l")) (is_letter b)
    (cond (eqb k (code "a")) (is_alnum b)
    (cond (eqb k (code "h")) (is_digit b || (leb (code "A") b && leb b (code "F")))
    (cond (eqb k (code "n")) (either (code "N") (code "S") b)
    (cond (eqb k (code "e")) (either (code "E") (code "W") b)
    (cond (eqb k (code "t")) (eqb b (code "D") || either (code "E") (code "P") b)
    (cond (eqb k (code "m")) (either (code "A") (code "E") b)
    (cond (eqb k (code "v")) (leb 33 b && leb b 126) (eqb b k)))))))))

-- as many bytes as the picture, and each what its letter stands for
unfoldable pub fits : List ℕ → List ℕ → Bool
fits [] [] = true
fits [] (b ∷ s) = false
fits (k ∷ p) [] = false
fits (k ∷ p) (b ∷ s) = is_of k b && fits p s

-- pictures written with a bar between them
abbrev pub pictures : List ℕ → List (List ℕ)
pictures p = pieces (code "|") p

unfoldable pub fits_any : List (List ℕ) → List ℕ → Bool
fits_any [] s = false
fits_any (p ∷ ps) s = fits p s || fits_any ps s

-- one of the pictures fits
unfoldable pub one_of : List ℕ → List ℕ → Bool
one_of p s = fits_any (pictures p) s

-- least to most bytes, each of the class k
unfoldable pub run : ℕ → ℕ → ℕ → List ℕ → Bool
run k least most s = leb least (length s) && leb (length s) most && all (is_of k) s

-- digits whose number is from lo to hi
unfoldable pub within : ℕ → ℕ → List ℕ → Bool
within lo hi s = is_numeral 10 s && leb lo (number_of 10 s) && leb (number_of 10 s) hi

-- n bytes from index i
abbrev pub part : ℕ → ℕ → List ℕ → List ℕ
part i n s = take n (drop i s)

-- "that part of the line, not a copy" (document 01, "The line"): where the part of a text lies that begins at its index i. s is where the text
-- lies, a block of memory and a place in it
abbrev pub starts_at : ℕ × ℕ → ℕ → ℕ × ℕ
starts_at s i = (s.0, i + s.1)
