-- THE THEOREMS of an age, of calls of `age` as its promise stands in the source: a.0 is now, a.1.0 the last day of
-- the previous month, a.1.1.0 the stamp, and r the answer. Assumes nothing.
use Rattle.std.specs.Prelude.{None, Option, Some}
use mathlib.Core.Path.{◌≡◌, refl, sym, ap, ◌∙◌, subst}
use mathlib.Core.Bool.{false}
use Prim.Native.Nat.{ℕ, ◌+◌, ◌-◌, ◌≤◌, ◌<◌}
use native.Mathlib.Omega.{arith}
use Rattle.rules.specs.Kind.{STAMP}
use Rattle.fields.specs.Word.{is_word}
use Rattle.meanings.specs.Meaning.{moment_in}
use Rattle.meanings.specs.declared.Moment.{Moment}
use Rattle.meanings.specs.Age.{day_before, age_of, age_in, age_number}
use Rattle.meanings.specs.Cases.{InRange, OutOfRange, AgeCase, SameDay, DayBefore, Ahead, Old, Refused, AgeIs}
use Rattle.meanings.specs.declared.ages.Aged.{Aged}
use Rattle.meanings.specs.declared.ages.Aged.TheVariants as aged
use Rattle.meanings.proofs.Moments.{ranged, no_moment, no_stamp}
use Rattle.meanings.proofs.AgeWays.{before_first, before_other, in_range_lem}
use Rattle.meanings.proofs.Cases.{one_case}
use Rattle.meanings.proofs.ages.age.Reads as age

-- ---- EACH CALL IS IN ITS CASE, and in no other

pub age_in_case : (κs : _) (a : _) (r : _) (s : _) → age.Post κs a r s → AgeIs a.0.0 a.1.0 a.1.1.0.0 r
age_in_case κs a r s p = p.1

pub age_only_case : (κs : _) (a : _) (r : _) (s : _) → age.Post κs a r s → (k : ℕ) (b : Option Aged) → AgeCase a.0.0 a.1.0 a.1.1.0.0 k b → (age_number r ≡ k) × (r ≡ b)
age_only_case κs a r s p k b c = one_case p.1 c

-- the same, case by case
pub same_day_answer : (κs : _) (a : _) (r : _) (s : _) → age.Post κs a r s → (n m : Moment) → InRange a.0.0 a.1.0 a.1.1.0.0 n m
    → m.day ≡ n.day → m.seconds ≤ n.seconds → r ≡ Some (aged.Seconds (n.seconds - m.seconds))
same_day_answer κs a r s p n m i e h = (one_case p.1 (SameDay n m i e h)).1

pub day_before_answer : (κs : _) (a : _) (r : _) (s : _) → age.Post κs a r s → (n m : Moment) → InRange a.0.0 a.1.0 a.1.1.0.0 n m
    → m.day ≡ day_before a.1.0 n.day → r ≡ Some (aged.Seconds (86400 - m.seconds + n.seconds))
day_before_answer κs a r s p n m i e = (one_case p.1 (DayBefore n m i e)).1

pub ahead_answer : (κs : _) (a : _) (r : _) (s : _) → age.Post κs a r s → (n m : Moment) → InRange a.0.0 a.1.0 a.1.1.0.0 n m
    → m.day ≡ n.day → n.seconds < m.seconds → r ≡ Some aged.Ahead
ahead_answer κs a r s p n m i e h = (one_case p.1 (Ahead n m i e h)).1

pub old_answer : (κs : _) (a : _) (r : _) (s : _) → age.Post κs a r s → (n m : Moment) → InRange a.0.0 a.1.0 a.1.1.0.0 n m
    → (m.day ≡ n.day → ⊥) → (m.day ≡ day_before a.1.0 n.day → ⊥) → r ≡ Some aged.Old
old_answer κs a r s p n m i f g = (one_case p.1 (Old n m i f g)).1

-- ---- 19 EXACTLY where now, the stamp or the month's last day is out of range

case_19 : {now last stamp k : ℕ} {a : Option Aged} → AgeCase now last stamp k a → k ≡ 19 → OutOfRange now last stamp
case_19 (SameDay n s r e h) z = absurd (omega arith)
case_19 (DayBefore n s r e) z = absurd (omega arith)
case_19 (Ahead n s r e h) z = absurd (omega arith)
case_19 (Old n s r f g) z = absurd (omega arith)
case_19 (Refused o) z = o

pub nineteen_out : (κs : _) (a : _) (r : _) (s : _) → age.Post κs a r s → age_number r ≡ 19 → OutOfRange a.0.0 a.1.0 a.1.1.0.0
nineteen_out κs a r s p e = case_19 p.1 e

pub out_nineteen : (κs : _) (a : _) (r : _) (s : _) → age.Post κs a r s → OutOfRange a.0.0 a.1.0 a.1.1.0.0 → age_number r ≡ 19
out_nineteen κs a r s p o = (one_case p.1 (Refused o)).0

-- and 0 elsewhere
case_0 : {now last stamp k : ℕ} {a : Option Aged} → AgeCase now last stamp k a → (OutOfRange now last stamp → ⊥) → k ≡ 0
case_0 (SameDay n s r e h) f = refl
case_0 (DayBefore n s r e) f = refl
case_0 (Ahead n s r e h) f = refl
case_0 (Old n s r g h) f = refl
case_0 (Refused o) f = absurd (f o)

pub else_zero : (κs : _) (a : _) (r : _) (s : _) → age.Post κs a r s → (OutOfRange a.0.0 a.1.0 a.1.1.0.0 → ⊥) → age_number r ≡ 0
else_zero κs a r s p f = case_0 p.1 f

-- out of range is what is no stamp's value
pub stamp_out : (t : ℕ) → (moment_in t ≡ None → is_word STAMP t ≡ false) × (is_word STAMP t ≡ false → moment_in t ≡ None)
stamp_out t = (no_stamp t, no_moment t)

-- ---- AN AGE IN SECONDS is under two days

abbrev seconds_in : Option Aged → ℕ
seconds_in (Some (aged.Seconds n)) = n
seconds_in (Some aged.Ahead) = 0
seconds_in (Some aged.Old) = 0
seconds_in None = 0

case_under : {now last stamp k : ℕ} {a : Option Aged} → AgeCase now last stamp k a → seconds_in a < 172800
case_under {now} (SameDay n s r e h) = omega (arith, (ranged now n r.now_at).seconds_most)
case_under {now} (DayBefore n s r e) = omega (arith, (ranged now n r.now_at).seconds_most)
case_under (Ahead n s r e h) = omega arith
case_under (Old n s r f g) = omega arith
case_under (Refused o) = omega arith

pub under_two_days : (κs : _) (a : _) (r : _) (s : _) → age.Post κs a r s → (n : ℕ) → r ≡ Some (aged.Seconds n) → n < 172800
under_two_days κs a r s p n e = subst (λ (x : Option Aged). seconds_in x < 172800) e (case_under p.1)

-- ---- THE DAY BEFORE: of the 1st it is the month's last day, of a day n over 1 it is n less 1

pub day_before_first : (last : ℕ) → day_before last 1 ≡ last
day_before_first last = before_first last 1 refl

pub day_before_other : (last n : ℕ) → 1 < n → day_before last n ≡ n - 1
day_before_other last n h = before_other last n (λ e. omega (arith, h, e))

-- so the last day matters on the 1st only
same_before : (last last' : ℕ) (n m : Moment) → (n.day ≡ 1 → ⊥) → age_of last n m ≡ age_of last' n m
unfolding age_of
same_before last last' n m h = rw (before_other last n.day h, before_other last' n.day h)

pub last_day_on_the_first : (now last last' stamp : ℕ) (n m : Moment) → InRange now last stamp n m → InRange now last' stamp n m → (n.day ≡ 1 → ⊥)
    → age_in now last stamp ≡ age_in now last' stamp
last_day_on_the_first now last last' stamp n m i j h = sym (in_range_lem i) ∙ ap Some (same_before last last' n m h) ∙ in_range_lem j

-- on the 1st a stamp of any day but the 1st and that last day is old, also of a day that the previous month has not
pub first_else_old : (κs : _) (a : _) (r : _) (s : _) → age.Post κs a r s → (n m : Moment) → InRange a.0.0 a.1.0 a.1.1.0.0 n m
    → n.day ≡ 1 → (m.day ≡ 1 → ⊥) → (m.day ≡ a.1.0 → ⊥) → r ≡ Some aged.Old
first_else_old κs a r s p n m i e f g = old_answer κs a r s p n m i (λ q. f (q ∙ e)) (λ q. g (q ∙ before_first a.1.0 n.day e))
