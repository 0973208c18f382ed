-- THE FRAME of a line (document 01, "The line"): where it ends, and how long it may be ("Answer numbers", 2, 11). Its parts are those of
-- fields/specs/Head. Assumes nothing.
use Rattle.std.specs.Prelude.{ℕ}

-- "A line is the bytes before a line feed (10)"
abbrev pub line_feed : ℕ
line_feed = 10

-- "line over 2,048 bytes"
abbrev pub longest_line : ℕ
longest_line = 2048

-- "FZ over 439 bytes, counted from its type"
abbrev pub longest_plan : ℕ
longest_plan = 439
