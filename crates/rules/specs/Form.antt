-- The forms of document 01's fields, in its words and order ("The line", "Fields"). Assumes nothing.
use Rattle.std.specs.Prelude.{ℕ, Bool, ◌&&◌, ◌||◌, List, length, get_or, leb}
use Prim.Native.Char.{code}
use Rattle.text.specs.Bytes.{bytes}
use Rattle.text.specs.Class.{all}
use Rattle.text.specs.Number.{number_of}
use Rattle.shapes.specs.Picture.{is_of, fits, one_of, run, within, part}
use Rattle.shapes.specs.Cut.{before, after, joins}

-- ---- the line

-- "four characters 0-9 or A-F"
abbrev pub is_sequence : List ℕ → Bool
is_sequence s = fits (bytes "hhhh") s

-- "eight digits DDHHMMSS: day 01 to 31, hour 00 to 23, minute and second 00 to 59"
unfoldable pub is_stamp : List ℕ → Bool
is_stamp s = fits (bytes "dddddddd") s && within 1 31 (part 0 2 s) && within 0 23 (part 2 2 s) && within 0 59 (part 4 2 s) && within 0 59 (part 6 2 s)

-- of the old feed (02, l): "six digits HHMMSS", the same without the day
unfoldable pub is_old_stamp : List ℕ → Bool
is_old_stamp s = fits (bytes "dddddd") s && within 0 23 (part 0 2 s) && within 0 59 (part 2 2 s) && within 0 59 (part 4 2 s)

-- "four characters of facility, right justified: zero to three spaces, then one to four capitals or digits"
abbrev pub is_facility : List ℕ → Bool
is_facility s = one_of (bytes "aaaa| aaa|  aa|   a") s

-- ---- fields

-- the flight's key, the ident's "part before the slash": "a letter and one to six alnum (2 to 7)"
unfoldable pub is_key : List ℕ → Bool
is_key s = run (code "a") 2 7 s && is_of (code "l") (get_or s 0 0)

-- "a computer number: digit, digit, alnum"
abbrev pub is_number : List ℕ → Bool
is_number s = fits (bytes "dda") s

-- "then optionally a slash and a computer number"; "in TZ the number is required"
unfoldable pub is_tz_ident : List ℕ → Bool
is_tz_ident s = joins (code "/") is_key is_number s

unfoldable pub is_ident : List ℕ → Bool
is_ident s = is_key s || is_tz_ident s

-- aircraft: "a prefix is one alnum, or a digit and an alnum"; "type of 2 to 4 alnum"; "letter"
abbrev pub is_prefix : List ℕ → Bool
is_prefix s = one_of (bytes "a|da") s

abbrev pub is_model : List ℕ → Bool
is_model s = run (code "a") 2 4 s

abbrev pub is_one_letter : List ℕ → Bool
is_one_letter s = fits (bytes "l") s

-- filed speed: "2 to 4 digits, or a letter and 3 digits (Mach), or SC"
abbrev pub is_filed_speed : List ℕ → Bool
is_filed_speed s = one_of (bytes "dd|ddd|dddd|lddd|SC") s

-- ground speed: "3 digits"
abbrev pub is_ground_speed : List ℕ → Bool
is_ground_speed s = fits (bytes "ddd") s

-- point: "2 to 12 alnum"
abbrev pub is_point : List ℕ → Bool
is_point s = run (code "a") 2 12 s

-- fix: "2 to 11 alnum, or 2 to 5, a slash, 1 to 6"
unfoldable pub is_fix : List ℕ → Bool
is_fix s = run (code "a") 2 11 s || joins (code "/") (run (code "a") 2 5) (run (code "a") 1 6) s

-- "a clock of four digits, 0000 to 2359, minutes to 59"
unfoldable pub is_clock : List ℕ → Bool
is_clock s = fits (bytes "dddd") s && within 0 2359 s && within 0 59 (part 2 2 s)

-- time: "D, E or P and a clock"
unfoldable pub is_time : List ℕ → Bool
is_time s = fits (bytes "tdddd") s && is_clock (part 1 4 s)

-- arrival clock: "four digits in that range; in AZ optionally A or E before it"
unfoldable pub is_arrival : List ℕ → Bool
is_arrival s = is_clock s || (fits (bytes "mdddd") s && is_clock (part 1 4 s))

-- level: "2 or 3 digits, or two such with B between", and of these two "the second number must be no smaller than the first as a number" (02, d)
abbrev pub is_height : List ℕ → Bool
is_height s = run (code "d") 2 3 s

unfoldable pub is_block : List ℕ → Bool
is_block s = joins (code "B") is_height is_height s && leb (number_of 10 (before (code "B") s)) (number_of 10 (after (code "B") s))

unfoldable pub is_level : List ℕ → Bool
is_level s = is_height s || is_block s

-- track level: "3 digits and optionally a letter"
abbrev pub is_track_level : List ℕ → Bool
is_track_level s = one_of (bytes "ddd|dddl") s

-- position: "ddmm, N or S, slash, dddmm, E or W; minutes to 59, at most 9000 and 18000"
unfoldable pub is_position : List ℕ → Bool
is_position s =
    fits (bytes "ddddn/ddddde") s && within 0 59 (part 2 2 s) && within 0 59 (part 9 2 s) && within 0 9000 (part 0 4 s) && within 0 18000 (part 6 5 s)

-- route: "one or more bytes 33 to 126"
unfoldable pub is_route : List ℕ → Bool
is_route s = leb 1 (length s) && all (is_of (code "v")) s
