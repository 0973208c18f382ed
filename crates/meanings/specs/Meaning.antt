-- What the text of a field means (document 01, "The line" and "Fields"). Assumes nothing.
use Rattle.std.specs.Prelude.{ℕ, ◌+◌, ◌*◌, ◌/◌, ◌%◌, ◌≤◌, ◌≡◌, Bool, true, false, cond, List, [], eqb, ℤ, pos, ◌-ℤ◌, get_or, None, Option, Some}
use Prim.Native.Char.{code}
use Rattle.text.specs.Text.{text_of, is_packed}
use Rattle.text.specs.Number.{read_number}
use Rattle.shapes.specs.Picture.{part}
use Rattle.shapes.specs.Cut.{has, before, after}
use Rattle.rules.specs.Form.{is_stamp, is_position, is_level}
use Rattle.rules.specs.Level.{Digits, Block, Level}
use Rattle.meanings.specs.declared.Moment.{Moment}
use Rattle.meanings.specs.declared.Levels.{Levels}
use Rattle.meanings.specs.declared.Levels.TheVariants as levels

-- the number of digits; 0 of what is no number
abbrev pub or_none : Option ℕ → ℕ
or_none (Some n) = n
or_none None = 0

unfoldable pub decimal_of : List ℕ → ℕ
decimal_of s = or_none (read_number 10 s)

-- the text of t; no bytes where t has none
unfoldable pub shown_of : ℕ → List ℕ
shown_of t = cond (is_packed t) (text_of t) []

-- ---- a stamp, DDHHMMSS

abbrev pub moment : ℕ → ℕ → ℕ → ℕ → Moment
moment d h m s = record { day = d; hour = h; minute = m; second = s; seconds = h * 3600 + m * 60 + s }

unfoldable pub moment_of : List ℕ → Option Moment
moment_of s =
    cond (is_stamp s) (Some (moment (decimal_of (part 0 2 s)) (decimal_of (part 2 2 s)) (decimal_of (part 4 2 s)) (decimal_of (part 6 2 s)))) None

unfoldable pub moment_in : ℕ → Option Moment
moment_in t = cond (is_packed t) (moment_of (text_of t)) None

-- ---- a position: "as signed minutes, north and east are positive"

-- ddmm or dddmm as minutes
unfoldable pub in_minutes : ℕ → ℕ
in_minutes n = n / 100 * 60 + n % 100

abbrev pub signed_by : Bool → ℕ → ℤ
signed_by true n = pos n
signed_by false n = pos 0 -ℤ pos n

unfoldable pub minutes_of : List ℕ → Option (ℤ × ℤ)
minutes_of s =
    cond (is_position s)
    (Some (signed_by (eqb (get_or s 4 0) (code "N")) (in_minutes (decimal_of (part 0 4 s))), signed_by (eqb (get_or s 11 0) (code "E")) (in_minutes (decimal_of (part 6 5 s)))))
    None

unfoldable pub minutes_in : ℕ → Option (ℤ × ℤ)
minutes_in t = cond (is_packed t) (minutes_of (text_of t)) None

-- ---- a level: one number, or two with B between them

unfoldable pub levels_of : List ℕ → Option Levels
levels_of s =
    cond (is_level s) (cond (has (code "B") s) (Some (levels.Block (decimal_of (before (code "B") s)) (decimal_of (after (code "B") s)))) (Some (levels.One (decimal_of s))))
    None

unfoldable pub levels_in : ℕ → Option Levels
levels_in t = cond (is_packed t) (levels_of (text_of t)) None

-- what is told of a text, in the numbers of the rule
abbrev pub Tells : List ℕ → Option Levels → Type 0
Tells s (Some (levels.One n)) = Digits n s
Tells s (Some (levels.Block n m)) = Block n m s × (n ≤ m)
Tells s None = Level s → ⊥

-- of the text of t, where it has one
abbrev pub TellsIn : ℕ → Option Levels → Type 0
TellsIn t r = is_packed t ≡ true → Tells (text_of t) r
