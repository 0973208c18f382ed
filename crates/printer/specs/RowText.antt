-- The line of a row as text (document 01, "The printer"): "one row per flight: key, departure, destination, clock, then track stamp, speed,
-- level, position, a hyphen for each part of a missing entry". Assumes nothing.
use Rattle.std.specs.Prelude.{ℕ, List, [], ◌∷◌, ◌++◌, None, Option, Some}
use Rattle.text.specs.Bytes.{bytes}
use Rattle.text.specs.Text.{text_of}
use Rattle.rules.specs.Frame.{line_feed}
use Rattle.board.specs.declared.rows.Row.{Row}
use Rattle.board.specs.declared.rows.Arrival.{Arrival}
use Rattle.board.specs.declared.rows.Track.{Track}

-- ---- a line: its parts with single spaces between them, and a line feed

abbrev pub space : ℕ
space = 32

unfoldable pub line_text : List (List ℕ) → List ℕ
line_text [] = line_feed ∷ []
line_text (p ∷ []) = p ++ line_feed ∷ []
line_text (p ∷ (q ∷ ps)) = p ++ space ∷ line_text (q ∷ ps)

-- ---- the parts of a row

abbrev pub hyphen : List ℕ
hyphen = bytes "-"

abbrev pub arrival_parts : Option Arrival → List (List ℕ)
arrival_parts None = hyphen ∷ hyphen ∷ hyphen ∷ []
arrival_parts (Some a) = text_of a.departure.0 ∷ text_of a.destination.0 ∷ text_of a.clock.0 ∷ []

abbrev pub track_parts : Option Track → List (List ℕ)
track_parts None = hyphen ∷ hyphen ∷ hyphen ∷ hyphen ∷ []
track_parts (Some t) = text_of t.stamp.0 ∷ text_of t.speed.0 ∷ text_of t.level.0 ∷ text_of t.position.0 ∷ []

unfoldable pub row_text : Row → List ℕ
row_text r = line_text (text_of r.key.0 ∷ (arrival_parts r.arrival ++ track_parts r.track))

unfoldable pub rows_text : List Row → List ℕ
rows_text [] = []
rows_text (r ∷ rs) = row_text r ++ rows_text rs
