-- What `open` and `line` answer: document 02's 20 to 23, in that order. Assumes nothing.
use Rattle.std.specs.Prelude.{ℕ, ◌+◌, ◌*◌, ◌-◌, Bool, true, false, cond, ◌&&◌, not, List, [], ◌∷◌, eqb, ltb, length, take, drop, get_or, Err, Ok, Result}
use Rattle.text.specs.Place.{value}
use Rattle.cutter.specs.Feed.{texts_of, rest_of}
use Rattle.dayfile.specs.DayFile.{trailer_size, starts_from, each_may_keep}
use Rattle.dayfile.specs.declared.Trailer.{Trailer}
use Rattle.dayfile.specs.declared.Contents.{Contents}
use Rattle.dayfile.specs.declared.NotOpened.TheVariants.{TooShort, UnknownVersion, WrongLength, WrongLines}
use Rattle.dayfile.specs.declared.NotOpened.{NotOpened}

-- ---- the numbers in a file, high byte first

-- in its last bytes: "start of index (4), number of lines, version (2)"
abbrev pub start_by : List ℕ → ℕ
start_by tail = value 256 4 tail

abbrev pub count_by : Trailer → List ℕ → ℕ
count_by t tail = value 256 t.wide (drop 4 tail)

abbrev pub version_by : Trailer → List ℕ → ℕ
version_by t tail = value 256 2 (drop (4 + t.wide) tail)

-- in its index: a number for every four bytes
unfoldable pub offsets_in : List ℕ → List ℕ
offsets_in [] = []
offsets_in (a ∷ []) = []
offsets_in (a ∷ (b ∷ [])) = []
offsets_in (a ∷ (b ∷ (c ∷ []))) = []
offsets_in (a ∷ (b ∷ (c ∷ (d ∷ s)))) = value 256 4 (a ∷ (b ∷ (c ∷ (d ∷ [])))) ∷ offsets_in s

-- ---- 20 to 22, by the size of a file and its last bytes

unfoldable pub open_by : Trailer → ℕ → List ℕ → Result Contents NotOpened
open_by t size tail =
    cond (ltb size (trailer_size t)) (Err TooShort)
    (cond (not (eqb (version_by t tail) t.version)) (Err UnknownVersion)
    (cond (not (eqb (start_by tail + 4 * count_by t tail + trailer_size t) size)) (Err WrongLength)
    (Ok (record { lines = count_by t tail; start = start_by tail }))))

-- ---- 23: lines and offsets

unfoldable pub same_numbers : List ℕ → List ℕ → Bool
same_numbers [] [] = true
same_numbers [] (y ∷ ys) = false
same_numbers (x ∷ xs) [] = false
same_numbers (x ∷ xs) (y ∷ ys) = eqb x y && same_numbers xs ys

unfoldable pub is_empty : List ℕ → Bool
is_empty [] = true
is_empty (x ∷ s) = false

-- the bytes s are "exactly that many lines, each with its line feed, of at most 2,048 bytes, each starting at its offset"
unfoldable pub agree : List ℕ → List ℕ → Bool
agree s offsets = is_empty (rest_of s) && (each_may_keep (texts_of s) && same_numbers offsets (starts_from 0 (texts_of s)))

-- "the bytes before the index", and the index
abbrev pub lines_part : Contents → List ℕ → List ℕ
lines_part c file = take c.start file

abbrev pub index_part : Contents → List ℕ → List ℕ
index_part c file = take (4 * c.lines) (drop c.start file)

abbrev pub or_wrong_lines : Result Contents NotOpened → List ℕ → Result Contents NotOpened
or_wrong_lines (Ok c) file = cond (agree (lines_part c file) (offsets_in (index_part c file))) (Ok c) (Err WrongLines)
or_wrong_lines (Err TooShort) file = Err TooShort
or_wrong_lines (Err UnknownVersion) file = Err UnknownVersion
or_wrong_lines (Err WrongLength) file = Err WrongLength
or_wrong_lines (Err WrongLines) file = Err WrongLines

-- ---- `open`

-- the last bytes of a file, as many as a trailer has
abbrev pub tail_of : Trailer → List ℕ → List ℕ
tail_of t file = drop (length file - trailer_size t) file

unfoldable pub open_of : Trailer → List ℕ → Result Contents NotOpened
open_of t file = or_wrong_lines (open_by t (length file) (tail_of t file)) file

unfoldable pub open_number : Result Contents NotOpened → ℕ
open_number (Ok c) = 0
open_number (Err TooShort) = 20
open_number (Err UnknownVersion) = 21
open_number (Err WrongLength) = 22
open_number (Err WrongLines) = 23

-- ---- `line`

-- the lines of a file that was opened; of one that was not, none
unfoldable pub lines_by : Result Contents NotOpened → List ℕ → List (List ℕ)
lines_by (Ok c) file = texts_of (lines_part c file)
lines_by (Err TooShort) file = []
lines_by (Err UnknownVersion) file = []
lines_by (Err WrongLength) file = []
lines_by (Err WrongLines) file = []

abbrev pub lines_in : Trailer → List ℕ → List (List ℕ)
lines_in t file = lines_by (open_of t file) file

-- the line with this number, the first being 1, and where it begins; an empty part at the start where there is none
unfoldable pub numbered : List (List ℕ) → ℕ → List ℕ
numbered ls n = cond (eqb n 0) [] (get_or ls (n - 1) [])

unfoldable pub place_of : List (List ℕ) → ℕ → ℕ
place_of ls n = get_or (starts_from 0 ls) (n - 1) 0
