-- THE DAY FILE (document 02, a): "the lines, each with its line feed, then an index of four-byte offsets of the lines' first bytes, then a trailer of eight
-- bytes: start of index (4), number of lines (2), version 1 (2), all high byte first". Assumes nothing.
use Rattle.std.specs.Prelude.{ℕ, suc, ◌+◌, ◌^◌, ◌≤◌, ◌<◌, ◌≡◌, Bool, true, ◌&&◌, not, List, [], ◌∷◌, ◌++◌, leb, ltb, length}
use Rattle.text.specs.Place.{places, all_in}
use Rattle.shapes.specs.Cut.{has}
use Rattle.rules.specs.Frame.{line_feed, longest_line}
use Rattle.cutter.specs.Feed.{feed_of}
use Rattle.dayfile.specs.declared.Trailer.{Trailer}

-- ---- the trailer: everything here is over any, with version 1 as the one that there is

-- "number of lines (2), version 1 (2)", "at most 65,535 of them"
abbrev pub version1 : Trailer
version1 = record { wide = 2; version = 1; most = 65535 }

-- its numbers fit the bytes that it has for them, and there may be as many lines as these can count
abbrev pub Sound : Trailer → Type 0
Sound t = (t.wide ≤ 4) × (t.version < 256 ^ 2) × (suc t.most ≡ 256 ^ t.wide)

unfoldable pub trailer_size : Trailer → ℕ
trailer_size t = 4 + t.wide + 2

-- "start of index (4), number of lines, version (2), all high byte first": `text`'s digits of a number, to the base 256
unfoldable pub trailer_of : Trailer → ℕ → ℕ → List ℕ
trailer_of t start count = places 256 4 start ++ (places 256 t.wide count ++ places 256 2 t.version)

-- ---- lines and index

-- "the lines, each with its line feed"
abbrev pub lines_text : List (List ℕ) → List ℕ
lines_text ls = feed_of ls []

-- "offsets of the lines' first bytes", where the first line begins at `from`
unfoldable pub starts_from : ℕ → List (List ℕ) → List ℕ
starts_from from [] = []
starts_from from (l ∷ ls) = from ∷ starts_from (from + length l + 1) ls

-- "an index of four-byte offsets"
unfoldable pub index_of : List ℕ → List ℕ
index_of [] = []
index_of (o ∷ os) = places 256 4 o ++ index_of os

-- THE FILE OF A RUN OF LINES
unfoldable pub file_of : Trailer → List (List ℕ) → List ℕ
file_of t ls = lines_text ls ++ (index_of (starts_from 0 ls) ++ trailer_of t (length (lines_text ls)) (length ls))

-- ---- what may be kept

-- "Lines of at most 2,048 bytes without a line feed may be kept, readable or not"
unfoldable pub may_keep : List ℕ → Bool
may_keep l = leb (length l) longest_line && not (has line_feed l)

unfoldable pub each_may_keep : List (List ℕ) → Bool
each_may_keep [] = true
each_may_keep (l ∷ ls) = may_keep l && each_may_keep ls

-- "the index starts below 4,294,967,296"
abbrev pub too_far : ℕ
too_far = 4294967296

-- A RUN OF LINES THAT MAY BE KEPT
unfoldable pub is_run : Trailer → List (List ℕ) → Bool
is_run t ls = each_may_keep ls && (leb (length ls) t.most && ltb (length (lines_text ls)) too_far)

-- a file is bytes: numbers under 256
abbrev pub is_bytes : List ℕ → Bool
is_bytes s = all_in 0 255 s
