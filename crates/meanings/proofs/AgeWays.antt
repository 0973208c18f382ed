-- The ways of an age: what follows from the facts of each case. Assumes nothing.
use Rattle.std.specs.Prelude.{None, Option, Some}
use mathlib.Core.Path.{◌≡◌, refl, sym, ◌∙◌}
use mathlib.Core.Bool.{Bool, true, false}
use Prim.Native.Nat.{ℕ, ◌+◌, ◌-◌, ◌≤◌, ◌<◌}
use native.Mathlib.Omega.{arith}
use lib.Dec.{eqb}
use borrow.Author.Tests.{le-leb, lt-leb, lt-ltb, eq-eqb, ne_eqb, eqb-true, eqb-false}
use Rattle.meanings.specs.Meaning.{moment_in}
use Rattle.meanings.specs.declared.Moment.{Moment}
use Rattle.meanings.specs.Age.{is_last_day, day_before, age_of, aged_from, age_in}
use Rattle.meanings.specs.Cases.{InRange, OutOfRange, NowOut, StampOut, LastUnder, LastOver}
use Rattle.meanings.specs.declared.ages.Aged.TheVariants as aged

-- ---- the day before

pub before_first : (last n : ℕ) → n ≡ 1 → day_before last n ≡ last
unfolding day_before
before_first last n e = rw (eq-eqb n 1 e)

pub before_other : (last n : ℕ) → (n ≡ 1 → ⊥) → day_before last n ≡ n - 1
unfolding day_before
before_other last n h = rw (ne_eqb n 1 h)

-- it is another day
pub apart : (last n : ℕ) → 28 ≤ last → 1 ≤ n → n ≡ day_before last n → ⊥
apart last n l h e = go (eqb n 1) refl
  where
    go : (b : Bool) → eqb n 1 ≡ b → ⊥
    go true q = omega (arith, e, before_first last n (eqb-true n 1 q), eqb-true n 1 q)
    go false q = omega (arith, e, before_other last n (eqb-false n 1 q))

-- ---- the age of two moments

module _ (last : ℕ) (n s : Moment) where
  pub same_day : s.day ≡ n.day → s.seconds ≤ n.seconds → aged.Seconds (n.seconds - s.seconds) ≡ age_of last n s
  unfolding age_of
  same_day e h = rw (eq-eqb s.day n.day e, le-leb s.seconds n.seconds h)

  pub day_before_lem : 28 ≤ last → 1 ≤ n.day → s.day ≡ day_before last n.day → aged.Seconds (86400 - s.seconds + n.seconds) ≡ age_of last n s
  unfolding age_of
  day_before_lem l d e = rw (ne_eqb s.day n.day (λ q. apart last n.day l d (sym q ∙ e)), eq-eqb s.day (day_before last n.day) e)

  pub ahead : 28 ≤ last → 1 ≤ n.day → s.day ≡ n.day → n.seconds < s.seconds → aged.Ahead ≡ age_of last n s
  unfolding age_of
  ahead l d e h =
      rw (eq-eqb s.day n.day e, lt-leb s.seconds n.seconds h, ne_eqb s.day (day_before last n.day) (λ q. apart last n.day l d (sym e ∙ q)), lt-ltb n.seconds s.seconds h)

  pub old : (s.day ≡ n.day → ⊥) → (s.day ≡ day_before last n.day → ⊥) → aged.Old ≡ age_of last n s
  unfolding age_of
  old f g = rw (ne_eqb s.day n.day f, ne_eqb s.day (day_before last n.day) g)

-- ---- in range, and out of it

pub in_range_lem : {now last stamp : ℕ} {n s : Moment} → InRange now last stamp n s → Some (age_of last n s) ≡ age_in now last stamp
unfolding age_in is_last_day
in_range_lem {now} {last} {stamp} r = rw (r.now_at, r.stamp_at, le-leb 28 last r.last_least, le-leb last 31 r.last_most)

module _ (last : ℕ) (h : is_last_day last ≡ false) where
  wrong_last : (n s : Option Moment) → None ≡ aged_from n last s
  wrong_last (Some n) (Some s) = rw h
  wrong_last (Some n) None = refl
  wrong_last None s = refl

no_stamp : (last : ℕ) (n : Option Moment) → None ≡ aged_from n last None
no_stamp last (Some n) = refl
no_stamp last None = refl

last_under : (last : ℕ) → last < 28 → is_last_day last ≡ false
unfolding is_last_day
last_under last h = rw (lt-leb 28 last h)

last_over : (last : ℕ) → 31 < last → is_last_day last ≡ false
unfolding is_last_day
last_over last h = rw (le-leb 28 last (omega (arith, h)), lt-leb last 31 h)

pub out_of_range : {now last stamp : ℕ} → OutOfRange now last stamp → None ≡ age_in now last stamp
unfolding age_in
out_of_range {now} {last} {stamp} (NowOut e) = rw e
out_of_range {now} {last} {stamp} (StampOut e) = rw e (no_stamp last (moment_in now))
out_of_range {now} {last} {stamp} (LastUnder h) = wrong_last last (last_under last h) (moment_in now) (moment_in stamp)
out_of_range {now} {last} {stamp} (LastOver h) = wrong_last last (last_over last h) (moment_in now) (moment_in stamp)
