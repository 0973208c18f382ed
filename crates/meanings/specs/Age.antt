-- How old a stamp is (document 01, "Age"), in its words and order, and the answer's number. Assumes nothing.
use Rattle.std.specs.Prelude.{ℕ, ◌+◌, ◌-◌, ◌≤◌, ◌<◌, Bool, cond, ◌&&◌, eqb, leb, ltb, None, Option, Some}
use Rattle.meanings.specs.Meaning.{moment_in}
use Rattle.meanings.specs.declared.Moment.{Moment}
use Rattle.meanings.specs.declared.ages.Aged.{Aged}
use Rattle.meanings.specs.declared.ages.Aged.TheVariants as aged

-- what holds of a stamp's moment
pub record Ranged (m : Moment) : Type 0 where
  pub day_least : 1 ≤ m.day
  pub day_most : m.day ≤ 31
  pub seconds_most : m.seconds < 86400

-- "the last day of the previous month (28 to 31)"
unfoldable pub is_last_day : ℕ → Bool
is_last_day last = leb 28 last && leb last 31

-- "the day before the 1st is that last day"; of a day n over 1 it is n less 1
unfoldable pub day_before : ℕ → ℕ → ℕ
day_before last n = cond (eqb n 1) last (n - 1)

-- "same day and not later, the difference in seconds; the day before, 86,400 less the stamp's second of the day plus
-- now's; same day and later, "ahead"; else "old""
unfoldable pub age_of : ℕ → Moment → Moment → Aged
age_of last now stamp =
    cond (eqb stamp.day now.day && leb stamp.seconds now.seconds) (aged.Seconds (now.seconds - stamp.seconds))
    (cond (eqb stamp.day (day_before last now.day)) (aged.Seconds (86400 - stamp.seconds + now.seconds))
    (cond (eqb stamp.day now.day && ltb now.seconds stamp.seconds) aged.Ahead
    aged.Old))

abbrev pub aged_from : Option Moment → ℕ → Option Moment → Option Aged
aged_from (Some now) last (Some stamp) = cond (is_last_day last) (Some (age_of last now stamp)) None
aged_from (Some now) last None = None
aged_from None last stamp = None

-- now and the stamp as numbers, whether a stamp's or not
unfoldable pub age_in : ℕ → ℕ → ℕ → Option Aged
age_in now last stamp = aged_from (moment_in now) last (moment_in stamp)

unfoldable pub age_number : Option Aged → ℕ
age_number (Some a) = 0
age_number None = 19
