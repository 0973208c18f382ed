-- THE CASES of an age, in the sentences of document 01 ("Age", "Answer numbers"): when each is answered, with its
-- number. Assumes nothing.
use Rattle.std.specs.Prelude.{ℕ, ◌+◌, ◌-◌, ◌≤◌, ◌<◌, ◌≡◌, None, Option, Some}
use Rattle.meanings.specs.Meaning.{moment_in}
use Rattle.meanings.specs.declared.Moment.{Moment}
use Rattle.meanings.specs.Age.{day_before, age_number}
use Rattle.meanings.specs.declared.ages.Aged.{Aged}
use Rattle.meanings.specs.declared.ages.Aged.TheVariants as aged

-- now and the stamp are stamps, of the moments n and s, and the last day is 28 to 31
pub record InRange (now last stamp : ℕ) (n s : Moment) : Type 0 where
  pub now_at : moment_in now ≡ Some n
  pub stamp_at : moment_in stamp ≡ Some s
  pub last_least : 28 ≤ last
  pub last_most : last ≤ 31

-- "now, the stamp, or the month's last day, out of range"
pub data OutOfRange (now last stamp : ℕ) : Type 0 where
  NowOut : moment_in now ≡ None → OutOfRange now last stamp
  StampOut : moment_in stamp ≡ None → OutOfRange now last stamp
  LastUnder : last < 28 → OutOfRange now last stamp
  LastOver : 31 < last → OutOfRange now last stamp

-- AgeCase now last stamp k a: the case of the number k and the answer a
pub data AgeCase (now last stamp : ℕ) : ℕ → Option Aged → Type 0 where
  -- "same day and not later, the difference in seconds"
  SameDay : (n s : Moment) → InRange now last stamp n s → s.day ≡ n.day → s.seconds ≤ n.seconds → AgeCase now last stamp 0 (Some (aged.Seconds (n.seconds - s.seconds)))
  -- "the day before, 86,400 less the stamp's second of the day plus now's"
  DayBefore : (n s : Moment) → InRange now last stamp n s → s.day ≡ day_before last n.day → AgeCase now last stamp 0 (Some (aged.Seconds (86400 - s.seconds + n.seconds)))
  -- "same day and later, "ahead""
  Ahead : (n s : Moment) → InRange now last stamp n s → s.day ≡ n.day → n.seconds < s.seconds → AgeCase now last stamp 0 (Some aged.Ahead)
  -- "else "old""
  Old : (n s : Moment) → InRange now last stamp n s → (s.day ≡ n.day → ⊥) → (s.day ≡ day_before last n.day → ⊥) → AgeCase now last stamp 0 (Some aged.Old)
  -- 19
  Refused : OutOfRange now last stamp → AgeCase now last stamp 19 None

-- of a call that answered r
abbrev pub AgeIs : ℕ → ℕ → ℕ → Option Aged → Type 0
AgeIs now last stamp r = AgeCase now last stamp (age_number r) r
