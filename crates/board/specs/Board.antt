-- A board as words that the caller lends: word 0 the count of rows, then eleven words for each row, then zeros, 2,817
-- words in all. The rows that words show, the words that show rows, and which words are a board (document 01,
-- "Board"). Assumes nothing.
use Rattle.std.specs.Prelude.{Bool, true, false, ◌&&◌, List, [], ◌∷◌, ◌++◌, ℕ, zero, suc, ◌+◌, ◌*◌, ◌-◌, length, get_or, drop, replicate, eqb, leb, Err, Ok, Result}
use Rattle.board.specs.Row.{row_words, row_of, is_row_words}
use Rattle.board.specs.Rows.{CAP, Place, At, Gap, rises}
use Rattle.board.specs.declared.rows.Row.{Row}
use Rattle.board.specs.declared.Found.{Found}
use Rattle.board.specs.declared.Found.TheVariants as found
use Rattle.board.specs.declared.Full.{Full}
use Rattle.board.specs.declared.NotListed.{NotListed}

-- the words of a row
abbrev pub W : ℕ
W = 11

-- ---- the words of rows, one row after the other, and the rows that n runs of words show

unfoldable pub flat : List Row → List ℕ
flat [] = []
flat (r ∷ rs) = row_words r ++ flat rs

unfoldable pub read_rows : ℕ → List ℕ → List Row
read_rows zero ws = []
read_rows (suc n) ws = row_of ws ∷ read_rows n (drop W ws)

-- ---- the rows that a board shows, and the board that shows rows

unfoldable pub rows_of : List ℕ → List Row
rows_of l = read_rows (get_or l 0 0) (drop 1 l)

unfoldable pub words_of : List Row → List ℕ
words_of rs = length rs ∷ (flat rs ++ replicate (W * CAP - W * length rs) 0)

-- ---- which words are a board

-- each of the first n rows is one that the board allows
unfoldable pub rows_hold : ℕ → List ℕ → Bool
rows_hold zero ws = true
rows_hold (suc n) ws = is_row_words ws && rows_hold n (drop W ws)

unfoldable pub all_zero : List ℕ → Bool
all_zero [] = true
all_zero (x ∷ xs) = eqb x 0 && all_zero xs

-- what stands after the size and the count: allowed rows, keys that rise strictly, zeros after the rows
unfoldable pub body_holds : ℕ → List ℕ → Bool
body_holds n l = rows_hold n (drop 1 l) && (rises (read_rows n (drop 1 l)) && all_zero (drop (1 + W * n) l))

-- "at most 256 rows, keys of ident form without slash or computer number, strictly rising, entries such as a line
-- could give, and no row with both none". `proofs/Theorems` shows that these are the words of the rows that `is_board`
-- allows, and of no others.
unfoldable pub is_allowed : List ℕ → Bool
is_allowed l = eqb (length l) (1 + W * CAP) && (leb (get_or l 0 0) CAP && body_holds (get_or l 0 0) l)

-- ---- what the calls answer

abbrev pub found_of : Place → Found
found_of (At i) = found.At i
found_of (Gap i) = found.Gap i

-- a row is written if it fits
abbrev pub done_of : Bool → Result (Unit {0}) Full
done_of true = Ok tt
done_of false = Err (record {})

-- a flight is gone if it was listed
abbrev pub gone_of : Bool → Result (Unit {0}) NotListed
gone_of true = Ok tt
gone_of false = Err (record {})

-- document 01's numbers: 12, "board full"; 14, "flight not listed"
abbrev pub done_number : Result (Unit {0}) Full → ℕ
done_number (Ok tt) = 0
done_number (Err _) = 12

abbrev pub struck_number : Result (Unit {0}) NotListed → ℕ
struck_number (Ok tt) = 0
struck_number (Err _) = 14
