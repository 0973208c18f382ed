-- What stamps, clocks and times are, said of their numbers: each way out of a test is a case of it. Assumes nothing.
use Rattle.std.specs.Prelude.{None, Some, Option, MatchOption}
use mathlib.Core.Path.{◌≡◌, refl, sym, ◌∙◌}
use mathlib.Core.Bool.{Bool, true, false, ◌&&◌, and_assoc}
use mathlib.Core.List.{List, [], ◌∷◌}
use Prim.Native.Nat.{ℕ, ◌/◌, ◌%◌, ◌<◌}
use native.Mathlib.Nat.{div-one, mod-eq_of_lt}
use native.Mathlib.Omega.{arith}
use lib.Dec.{leb, leb-zero, lit≤}
use lib.ListN.{length, drop, get_or}
use lib.Seq.{take_all, drop-drop}
use Rattle.text.specs.Bytes.{bytes}
use Rattle.text.specs.Number.{number_of, is_numeral, read_number}
use Rattle.text.proofs.Numbers.{number_known, number_none}
use Rattle.text.proofs.Logic.{and_left_comm}
use Rattle.shapes.specs.Picture.{is_of, fits, within, part}
use Rattle.shapes.proofs.Parts.{fits_parts}
use Rattle.shapes.proofs.Digits.{digits_fit, numeral_lt, within_part}
use Rattle.rules.specs.Form.{is_stamp, is_old_stamp, is_clock}
use Rattle.rules.proofs.Minutes.{with_minutes, minutes_are}

-- HHMMSS as a number, and DDHHMMSS, each pair in its range
abbrev is_time_of_day : ℕ → Bool
is_time_of_day n = leb (n / 10000 % 100) 23 && leb (n / 100 % 100) 59 && leb (n % 100) 59

abbrev is_moment : ℕ → Bool
is_moment n = leb 1 (n / 1000000) && leb (n / 1000000) 31 && is_time_of_day n

module _ (s : List ℕ) (long : length s ≡ 8) where
  no_stamp : read_number 10 s ≡ None → false ≡ is_stamp s
  unfolding is_stamp
  no_stamp told = rw (digits_fit 8 s (lit≤ tt) long, number_none 10 s told)

  moment_is : is_numeral 10 s ≡ true → is_moment (number_of 10 s) ≡ is_stamp s
  unfolding is_stamp
  moment_is e =
      let small : number_of 10 s / 1000000 < 100 = omega (arith, rw long at (numeral_lt s e)) in
      rw (digits_fit 8 s (lit≤ tt) long, e, within_part s e 0 2 6 long 1 31, within_part s e 2 2 4 long 0 23, within_part s e 4 2 2 long 0 59, within_part s e 6 2 0 long 0 59, div-one)
      (simp (leb-zero, and_assoc) (rw (mod-eq_of_lt small)))

  pub stamp_is : {n : ℕ} → read_number 10 s ≡ Some n → is_moment n ≡ is_stamp s
  stamp_is told = let k = number_known 10 s told in rw k.1 (moment_is k.0)

  -- what is said of a number that may not be there
  pub stamp_told : (r : Bool) (q : Option ℕ) → q ≡ read_number 10 s → MatchOption q (r ≡ false) (λ n. r ≡ is_moment n) → r ≡ is_stamp s
  stamp_told r (Some n) e p = p ∙ stamp_is (sym e)
  stamp_told r None e p = p ∙ no_stamp (sym e)

module _ (s : List ℕ) (long : length s ≡ 6) where
  no_old_stamp : read_number 10 s ≡ None → false ≡ is_old_stamp s
  unfolding is_old_stamp
  no_old_stamp told = rw (digits_fit 6 s (lit≤ tt) long, number_none 10 s told)

  pub old_stamp_is : {n : ℕ} → read_number 10 s ≡ Some n → is_time_of_day n ≡ is_old_stamp s
  unfolding is_old_stamp
  old_stamp_is told =
      let k = number_known 10 s told in
      rw (k.1, digits_fit 6 s (lit≤ tt) long, k.0, within_part s k.0 0 2 4 long 0 23, within_part s k.0 2 2 2 long 0 59, within_part s k.0 4 2 0 long 0 59, div-one) (simp leb-zero)

  pub old_stamp_told : (r : Bool) (q : Option ℕ) → q ≡ read_number 10 s → MatchOption q (r ≡ false) (λ n. r ≡ is_time_of_day n) → r ≡ is_old_stamp s
  old_stamp_told r (Some n) e p = p ∙ old_stamp_is (sym e)
  old_stamp_told r None e p = p ∙ no_old_stamp (sym e)

day_first : (a b c d e f : Bool) → (a && b && c && d && e && f) ≡ (a && c && (b && d && e && f))
day_first a b c d e f = simp (and_assoc, and_left_comm)

-- a stamp is a day and then an old stamp: what the old feed lacked is the day, and nothing else
pub stamp_day : (s : List ℕ) → is_stamp s ≡ (fits (bytes "dd") (part 0 2 s) && within 1 31 (part 0 2 s) && is_old_stamp (drop 2 s))
unfolding is_stamp is_old_stamp
stamp_day s =
    rw (fits_parts (bytes "dd") (bytes "dddddd") s, drop-drop 2 2 s, drop-drop 4 2 s)
    (day_first (fits (bytes "dd") (part 0 2 s)) (fits (bytes "dddddd") (drop 2 s)) (within 1 31 (part 0 2 s)) (within 0 23 (part 2 2 s)) (within 0 59 (part 4 2 s)) (within 0 59 (part 6 2 s)))

pub clock_is : (s : List ℕ) → length s ≡ 4 → with_minutes 2359 s ≡ is_clock s
unfolding is_clock
clock_is s long = sym (minutes_are 2359 s 2 (lit≤ tt) long)

-- a clock's digits are asked once
twice : (a f w v : Bool) → ((a && f) && (f && w && v)) ≡ (a && (f && w && v))
twice false f w v = refl
twice true true w v = refl
twice true false w v = refl

pub lettered : (k : ℕ) (s : List ℕ) → length s ≡ 5 → (fits (k ∷ bytes "dddd") s && is_clock (part 1 4 s)) ≡ (is_of k (get_or s 0 0) && is_clock (part 1 4 s))
unfolding fits is_clock
lettered k [] long = absurd (omega arith)
lettered k (b ∷ s) long = rw (take_all 4 s (omega arith)) (twice (is_of k b) (fits (bytes "dddd") s) (within 0 2359 s) (within 0 59 (part 2 2 s)))
