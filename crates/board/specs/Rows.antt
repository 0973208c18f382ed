-- Rows in the order of their keys (document 01, "Board"): "One row per listed flight, at most 256, in byte order of the
-- key". What a key shows, where it stands or would stand, and what writing and striking a row do. Assumes nothing.
use Rattle.std.specs.Prelude.{ℕ, suc, ◌<◌, Bool, true, false, cond, ◌&&◌, List, [], ◌∷◌, ◌++◌, eqb, leb, ltb, length, take, drop, set, None}
use Rattle.std.proofs.Math.Option.{Option, none, some}
use Rattle.text.specs.Text.{text_of}
use Rattle.text.specs.Order.{less}
use Rattle.board.specs.Row.{is_row}
use Rattle.board.specs.declared.rows.Row.{Row}

-- how many rows a board has room for
unfoldable pub CAP : ℕ
CAP = 256

abbrev pub key_of : Row → ℕ
key_of r = r.key.0

-- ---- which rows a board may have

-- "strictly rising", in byte order of the key, "a key that begins another comes first"
abbrev pub rises_after : List ℕ → List Row → Bool
rises_after k [] = true
rises_after k (r ∷ rs) = less k (text_of (key_of r)) && rises_after (text_of (key_of r)) rs

unfoldable pub rises_by_bytes : List Row → Bool
rises_by_bytes [] = true
rises_by_bytes (r ∷ rs) = rises_after (text_of (key_of r)) rs

unfoldable pub all_rows : List Row → Bool
all_rows [] = true
all_rows (r ∷ rs) = is_row r && all_rows rs

-- "A board is allowed exactly if it has at most 256 rows, keys of ident form .., strictly rising, entries such as a line
-- could give, and no row with both none"
unfoldable pub is_board : List Row → Bool
is_board rs = leb (length rs) CAP && all_rows rs && rises_by_bytes rs

-- the same order by the keys' numbers. `proofs/Order` shows that of keys these are one.
abbrev pub Above : ℕ → List Row → Type 0
Above k [] = Unit {0}
Above k (r ∷ rs) = (k < key_of r) × Above (key_of r) rs

abbrev pub Rising : List Row → Type 0
Rising [] = Unit {0}
Rising (r ∷ rs) = Above (key_of r) rs

abbrev pub above : ℕ → List Row → Bool
above k [] = true
above k (r ∷ rs) = ltb k (key_of r) && above (key_of r) rs

unfoldable pub rises : List Row → Bool
rises [] = true
rises (r ∷ rs) = above (key_of r) rs

-- ---- the row that a key shows

abbrev pub lookup : ℕ → List Row → Option Row
lookup k [] = none
lookup k (r ∷ rs) = cond (eqb (key_of r) k) (some r) (lookup k rs)

-- a flight that is not listed has a row with no entries
abbrev pub or_empty : ℕ → Option Row → Row
or_empty k none = record { key = record { 0 = k }; arrival = None; track = None }
or_empty k (some r) = r

unfoldable pub look_row : ℕ → List Row → Row
look_row k rs = or_empty k (lookup k rs)

-- ---- where a key stands, or the place where it would go

pub data Place : Type 0 where
  At : ℕ → Place
  Gap : ℕ → Place

abbrev pub further : Place → Place
further (At i) = At (suc i)
further (Gap i) = Gap (suc i)

abbrev pub find_in : List Row → ℕ → Place
find_in [] k = Gap 0
find_in (r ∷ rs) k = cond (ltb (key_of r) k) (further (find_in rs k)) (cond (eqb (key_of r) k) (At 0) (Gap 0))

-- ---- a row is written: in the place of its key's, or between the others, where there is room

abbrev pub written_at : Place → Row → List Row → List Row
written_at (At i) r rs = set rs i r
written_at (Gap i) r rs = cond (ltb (length rs) CAP) (take i rs ++ r ∷ drop i rs) rs

abbrev pub fits_at : Place → List Row → Bool
fits_at (At i) rs = true
fits_at (Gap i) rs = ltb (length rs) CAP

unfoldable pub written : List Row → Row → List Row
written rs r = written_at (find_in rs (key_of r)) r rs

unfoldable pub fits : List Row → ℕ → Bool
fits rs k = fits_at (find_in rs k) rs

-- ---- a flight is struck off

abbrev pub struck_at : Place → List Row → List Row
struck_at (At i) rs = take i rs ++ drop (suc i) rs
struck_at (Gap i) rs = rs

abbrev pub is_at : Place → Bool
is_at (At i) = true
is_at (Gap i) = false

unfoldable pub struck : List Row → ℕ → List Row
struck rs k = struck_at (find_in rs k) rs

unfoldable pub is_listed : List Row → ℕ → Bool
is_listed rs k = is_at (find_in rs k)
