-- The lines of a whole feed (document 01, "The line", "Cutting"): "A line is the bytes before a line feed (10)"; one over 2,048 bytes is
-- overlong; a line that no line feed ends "is no line". Assumes nothing.
use Rattle.std.specs.Prelude.{ℕ, cond, List, [], ◌∷◌, ◌++◌, map, leb, length}
use Rattle.shapes.specs.Pieces.{pieces}
use Rattle.rules.specs.Frame.{line_feed, longest_line}

-- ---- the feed that has these lines, and after them this rest, which no line feed ends

unfoldable pub feed_of : List (List ℕ) → List ℕ → List ℕ
feed_of [] rest = rest
feed_of (l ∷ ls) rest = l ++ line_feed ∷ feed_of ls rest

-- ---- the lines of a feed. `proofs/Feeds` shows that these, and only these, have that feed.

unfoldable pub all_but_last : List (List ℕ) → List (List ℕ)
all_but_last [] = []
all_but_last (p ∷ []) = []
all_but_last (p ∷ (q ∷ ps)) = p ∷ all_but_last (q ∷ ps)

unfoldable pub last : List (List ℕ) → List ℕ
last [] = []
last (p ∷ []) = p
last (p ∷ (q ∷ ps)) = last (q ∷ ps)

-- the bytes of each line, and the unended rest
unfoldable pub texts_of : List ℕ → List (List ℕ)
texts_of feed = all_but_last (pieces line_feed feed)

unfoldable pub rest_of : List ℕ → List ℕ
rest_of feed = last (pieces line_feed feed)

-- what a line is
pub data Line : Type 0 where
  Whole : List ℕ → Line
  TooLong : Line

unfoldable pub line_of : List ℕ → Line
line_of s = cond (leb (length s) longest_line) (Whole s) TooLong

unfoldable pub lines_of : List ℕ → List Line
lines_of feed = map line_of (texts_of feed)
