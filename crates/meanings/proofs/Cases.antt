-- THE CASES of an age: each call is in one, with its number, and in no other. Assumes nothing.
use Rattle.std.specs.Prelude.{None, Option, Some}
use mathlib.Core.Path.{◌≡◌, refl, sym, ap, ◌∙◌, subst}
use mathlib.Core.Bool.{Bool, true, false}
use Prim.Native.Nat.{ℕ, ◌≤◌}
use lib.Dec.{eqb, leb}
use borrow.Author.Tests.{leb-true, leb-false, eqb-true, eqb-false}
use Rattle.meanings.specs.Meaning.{moment_in}
use Rattle.meanings.specs.declared.Moment.{Moment}
use Rattle.meanings.specs.Age.{day_before, age_in, age_number}
use Rattle.meanings.specs.Cases.{InRange, NowOut, StampOut, LastUnder, LastOver, AgeCase, SameDay, DayBefore, Ahead, Old, Refused, AgeIs}
use Rattle.meanings.specs.declared.ages.Aged.{Aged}
use Rattle.meanings.proofs.Moments.{ranged}
use Rattle.meanings.proofs.AgeWays.{same_day, day_before_lem, ahead, old, in_range_lem, out_of_range}

-- ---- what a case tells is the age, and its number

first_day : {now last stamp : ℕ} {n s : Moment} → InRange now last stamp n s → 1 ≤ n.day
first_day {now} {last} {stamp} {n} {s} r = (ranged now n r.now_at).day_least

pub case_age : {now last stamp k : ℕ} {a : Option Aged} → AgeCase now last stamp k a → a ≡ age_in now last stamp
case_age {now} {last} (SameDay n s r e h) = ap Some (same_day last n s e h) ∙ in_range_lem r
case_age {now} {last} (DayBefore n s r e) = ap Some (day_before_lem last n s r.last_least (first_day r) e) ∙ in_range_lem r
case_age {now} {last} (Ahead n s r e h) = ap Some (ahead last n s r.last_least (first_day r) e h) ∙ in_range_lem r
case_age {now} {last} (Old n s r f g) = ap Some (old last n s f g) ∙ in_range_lem r
case_age (Refused o) = out_of_range o

pub case_number : {now last stamp k : ℕ} {a : Option Aged} → AgeCase now last stamp k a → k ≡ age_number a
unfolding age_number
case_number (SameDay n s r e h) = refl
case_number (DayBefore n s r e) = refl
case_number (Ahead n s r e h) = refl
case_number (Old n s r f g) = refl
case_number (Refused o) = refl

-- no call is in two
pub one_case : {now last stamp k k' : ℕ} {a a' : Option Aged} → AgeCase now last stamp k a → AgeCase now last stamp k' a' → (k ≡ k') × (a ≡ a')
one_case c d =
    let e = case_age c ∙ sym (case_age d) in
    (case_number c ∙ ap age_number e ∙ sym (case_number d), e)

-- ---- each call is in one

module _ (now last stamp : ℕ) where
  told : {k : ℕ} {a : Option Aged} → AgeCase now last stamp k a → AgeIs now last stamp (age_in now last stamp)
  told {k} {a} c = subst (λ (x : Option Aged). AgeIs now last stamp x) (case_age c) (subst (λ (i : ℕ). AgeCase now last stamp i a) (case_number c) c)

  told_in : (n s : Moment) → InRange now last stamp n s → AgeIs now last stamp (age_in now last stamp)
  told_in n s r = go (eqb s.day n.day) refl (leb s.seconds n.seconds) refl (eqb s.day (day_before last n.day)) refl
    where
      go : (b : Bool) → eqb s.day n.day ≡ b → (c : Bool) → leb s.seconds n.seconds ≡ c → (d : Bool) → eqb s.day (day_before last n.day) ≡ d
          → AgeIs now last stamp (age_in now last stamp)
      go true p true q d t = told (SameDay n s r (eqb-true s.day n.day p) (leb-true s.seconds n.seconds q))
      go true p false q d t = told (Ahead n s r (eqb-true s.day n.day p) (leb-false s.seconds n.seconds q))
      go false p c q true t = told (DayBefore n s r (eqb-true s.day (day_before last n.day) t))
      go false p c q false t = told (Old n s r (eqb-false s.day n.day p) (eqb-false s.day (day_before last n.day) t))

  pub case_of : AgeIs now last stamp (age_in now last stamp)
  case_of = go (moment_in now) refl (moment_in stamp) refl (leb 28 last) refl (leb last 31) refl
    where
      go : (n : Option Moment) → moment_in now ≡ n → (s : Option Moment) → moment_in stamp ≡ s → (b : Bool) → leb 28 last ≡ b → (c : Bool) → leb last 31 ≡ c
          → AgeIs now last stamp (age_in now last stamp)
      go None e s f b p c q = told (Refused (NowOut e))
      go (Some n) e None f b p c q = told (Refused (StampOut f))
      go (Some n) e (Some s) f false p c q = told (Refused (LastUnder (leb-false 28 last p)))
      go (Some n) e (Some s) f true p false q = told (Refused (LastOver (leb-false last 31 q)))
      go (Some n) e (Some s) f true p true q = told_in n s (record { now_at = e; stamp_at = f; last_least = leb-true 28 last p; last_most = leb-true last 31 q })

-- what a way out of `age` shows, as its promise asks it
pub in_age_case : {now last stamp : ℕ} {r : Option Aged} → r ≡ age_in now last stamp → (r ≡ age_in now last stamp) × AgeIs now last stamp r
in_age_case {now} {last} {stamp} e = (e, subst (λ (x : Option Aged). AgeIs now last stamp x) (sym e) (case_of now last stamp))
