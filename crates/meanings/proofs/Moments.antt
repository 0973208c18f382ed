-- A stamp's moment: a day 1 to 31, and a second of the day. A number has one exactly if it is a stamp's.
-- Assumes nothing.
use Rattle.std.specs.Prelude.{None, Option, Some}
use mathlib.Core.Path.{◌≡◌, refl, ◌∙◌, subst}
use mathlib.Core.Bool.{Bool, true, false, ◌&&◌}
use mathlib.Core.List.{List}
use Prim.Native.Nat.{ℕ, ◌≤◌}
use native.Mathlib.Omega.{arith}
use lib.Dec.{leb}
use borrow.Author.Tests.{leb-true}
use Rattle.text.specs.Bytes.{bytes}
use Rattle.text.specs.Text.{is_packed, text_of}
use Rattle.text.specs.Number.{is_numeral, number_of, read_number}
use Rattle.text.proofs.Logic.{and_left, and_right, true_false}
use Rattle.shapes.specs.Picture.{fits, within, part}
use Rattle.rules.specs.Form.{is_stamp}
use Rattle.rules.specs.Kind.{STAMP, is_form}
use Rattle.fields.specs.Word.{is_word}
use Rattle.meanings.specs.Meaning.{decimal_of, moment, moment_of, moment_in}
use Rattle.meanings.specs.declared.Moment.{Moment}
use Rattle.meanings.proofs.Laws.{within_most, stamped}
use Rattle.meanings.specs.Age.{Ranged}

within_least : (lo hi : ℕ) (s : List ℕ) → within lo hi s ≡ true → lo ≤ decimal_of s
unfolding within decimal_of read_number
within_least lo hi s e =
    let l = and_left (is_numeral 10 s && leb lo (number_of 10 s)) (leb (number_of 10 s) hi) e in
    rw (and_left (is_numeral 10 s) (leb lo (number_of 10 s)) l) (leb-true lo (number_of 10 s) (and_right (is_numeral 10 s) (leb lo (number_of 10 s)) l))

day_within : (s : List ℕ) → is_stamp s ≡ true → within 1 31 (part 0 2 s) ≡ true
unfolding is_stamp
day_within s e =
    let F = fits (bytes "dddddddd") s in
    let D = within 1 31 (part 0 2 s) in
    let H = within 0 23 (part 2 2 s) in
    let M = within 0 59 (part 4 2 s) in
    let S = within 0 59 (part 6 2 s) in
    and_right F D (and_left (F && D) H (and_left (F && D && H) M (and_left (F && D && H && M) S e)))

abbrev moment_at : List ℕ → Moment
moment_at s = moment (decimal_of (part 0 2 s)) (decimal_of (part 2 2 s)) (decimal_of (part 4 2 s)) (decimal_of (part 6 2 s))

ranged_at : (s : List ℕ) → is_stamp s ≡ true → Ranged (moment_at s)
ranged_at s e =
    let d = day_within s e in
    let t = stamped s e in
    record {
      day_least = within_least 1 31 (part 0 2 s) d;
      day_most = within_most 1 31 (part 0 2 s) d;
      seconds_most = omega (arith, t.hour, t.minute, t.second);
    }

-- the moment of the text, and of the number that holds it
abbrev RangedIn : Option Moment → Type 0
RangedIn (Some m) = Ranged m
RangedIn None = Unit {0}

of_ranged : (s : List ℕ) → RangedIn (moment_of s)
unfolding moment_of
of_ranged s = go (is_stamp s) refl
  where
    go : (b : Bool) → is_stamp s ≡ b → RangedIn (moment_of s)
    go true q = rw q (ranged_at s q)
    go false q = rw q tt

in_ranged : (t : ℕ) → RangedIn (moment_in t)
unfolding moment_in
in_ranged t = go (is_packed t) refl
  where
    go : (b : Bool) → is_packed t ≡ b → RangedIn (moment_in t)
    go true q = rw q (of_ranged (text_of t))
    go false q = rw q tt

pub ranged : (t : ℕ) (m : Moment) → moment_in t ≡ Some m → Ranged m
ranged t m e = subst (λ (x : Option Moment). RangedIn x) e (in_ranged t)

-- ---- a number has no moment exactly if it is no stamp's

stamp_form : (t : ℕ) → is_word STAMP t ≡ (is_packed t && is_stamp (text_of t))
unfolding is_word is_form
stamp_form t = refl

pub no_moment : (t : ℕ) → is_word STAMP t ≡ false → moment_in t ≡ None
unfolding moment_in moment_of
no_moment t h = go (is_packed t) refl (is_stamp (text_of t)) refl
  where
    go : (b : Bool) → is_packed t ≡ b → (c : Bool) → is_stamp (text_of t) ≡ c → moment_in t ≡ None
    go false p c q = rw p
    go true p false q = rw (p, q)
    go true p true q = true_false (stamp_form t ∙ rw (p, q)) h

pub no_stamp : (t : ℕ) → moment_in t ≡ None → is_word STAMP t ≡ false
unfolding moment_in moment_of
no_stamp t h = stamp_form t ∙ go (is_packed t) refl (is_stamp (text_of t)) refl
  where
    go : (b : Bool) → is_packed t ≡ b → (c : Bool) → is_stamp (text_of t) ≡ c → (is_packed t && is_stamp (text_of t)) ≡ false
    go false p c q = rw p
    go true p false q = rw (p, q)
    go true p true q = let z : Some (moment_at (text_of t)) ≡ None = rw (p, q) at h in cc
