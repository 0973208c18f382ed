-- Request k of document 02: "Find a key by halving the ordered rows until one is left." What a range of rows tells of a key, what a look at its
-- middle row leaves of it, and how many looks it takes. Assumes nothing.
use Rattle.std.specs.Prelude.{ℕ, zero, suc, ◌+◌, ◌*◌, ◌-◌, ◌/◌, ◌<◌, ◌≡◌, cond, List, leb, get_or, take, drop}
use Rattle.board.specs.Rows.{Place, At, Gap, find_in}
use Rattle.board.specs.Board.{W, rows_of}
use Rattle.board.specs.declared.rows.Row.{Row}

-- n places further on
abbrev pub shift : ℕ → Place → Place
shift n (At i) = At (n + i)
shift n (Gap i) = Gap (n + i)

-- where a key stands, or the place where it would go, as `width` rows from row `first` on tell it by themselves
abbrev pub place_among : List Row → ℕ → ℕ → ℕ → Place
place_among rs k first width = shift first (find_in (take width (drop first rs)) k)

-- ---- a look at the middle row, and the half that is left

-- the key of row i, where it stands among a board's words
abbrev pub key_at : List ℕ → ℕ → ℕ
key_at l i = get_or l (1 + W * i) 0

-- half of the rows; of an odd number the greater half
abbrev pub half : ℕ → ℕ
half width = width - width / 2

-- the first row of the half that is left: that from the middle row on, or, where the middle row's key comes after, the one before it
abbrev pub half_from : List ℕ → ℕ → ℕ → ℕ → ℕ
half_from l k first width = cond (leb (key_at l (first + width / 2)) k) (first + width / 2) first

-- ---- one row is left

-- that one row tells what the range told
pub record Left (l : List ℕ) (k first width r : ℕ) : Type 0 where
  pub row : r < get_or l 0 0
  pub tells : place_among (rows_of l) k r 1 ≡ place_among (rows_of l) k first width

-- ---- how many looks

-- one look tells of one row; of more rows, one look leaves half. The first number is how many halvings are counted at most.
abbrev pub looks_in : ℕ → ℕ → ℕ
looks_in zero width = 1
looks_in (suc n) width = cond (leb width 1) 1 (suc (looks_in n (half width)))

-- a range has fewer halvings than rows
unfoldable pub looks : ℕ → ℕ
looks width = looks_in width width
