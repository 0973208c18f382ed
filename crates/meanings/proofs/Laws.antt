-- What the ranges of stamps and positions say of their numbers, and signed numbers. Assumes nothing.
use Rattle.std.specs.Prelude.{Some}
use mathlib.Core.Path.{◌≡◌, refl, ap, ◌∙◌}
use mathlib.Core.Bool.{Bool, true, false, cond, ◌&&◌}
use mathlib.Core.List.{List, []}
use Prim.Native.Nat.{ℕ, zero, suc, ◌+◌, ◌-◌, ◌^◌, ◌≤◌, ◌<◌}
use native.Mathlib.Omega.{arith}
use lib.Dec.{leb, lit<}
use lib.IntN.{ℤ, pos, neg_ℤ, ◌-ℤ◌, +ℤ_idl}
use lib.ListN.{length, take, drop}
use lib.Signed.{mag}
use mir.Syntax.{w64}
use mir.Val.{SFits, to_z, of_z, hbits}
use mir.ValLaws.{to_z_pos, to_z-of_z}
use borrow.Author.Rules.{sfits_of}
use borrow.Author.Tests.{leb-true}
use Prim.Native.Char.{code}
use Rattle.text.specs.Bytes.{bytes}
use Rattle.text.specs.Text.{text_of, is_packed}
use Rattle.text.specs.Number.{is_numeral, number_of, read_number}
use Rattle.text.proofs.Logic.{and_left, and_right}
use Rattle.shapes.specs.Picture.{fits, within, part}
use Rattle.shapes.specs.Cut.{up_to}
use Rattle.shapes.proofs.Laws.{fits_length, not_cut, is_cut, cut_before, cut_after}
use Rattle.rules.specs.Form.{is_stamp, is_position, is_level}
use Rattle.rules.specs.Kind.{STAMP, LEVEL, POSITION, is_form}
use Rattle.rules.proofs.Held.{no_bytes}
use Rattle.meanings.specs.Meaning.{decimal_of, shown_of, signed_by, moment_of, moment_in, minutes_of, minutes_in, levels_of, levels_in}
use Rattle.meanings.specs.declared.Levels.TheVariants as levels

pub within_most : (lo hi : ℕ) (s : List ℕ) → within lo hi s ≡ true → decimal_of s ≤ hi
unfolding within decimal_of read_number
within_most lo hi s e =
    let l = and_left (is_numeral 10 s && leb lo (number_of 10 s)) (leb (number_of 10 s) hi) e in
    rw (and_left (is_numeral 10 s) (leb lo (number_of 10 s)) l) (leb-true (number_of 10 s) hi (and_right (is_numeral 10 s && leb lo (number_of 10 s)) (leb (number_of 10 s) hi) e))

pub record Stamped (s : List ℕ) : Type 0 where
  pub size : length s ≡ 8
  pub hour : decimal_of (part 2 2 s) ≤ 23
  pub minute : decimal_of (part 4 2 s) ≤ 59
  pub second : decimal_of (part 6 2 s) ≤ 59

pub stamped : (s : List ℕ) → is_stamp s ≡ true → Stamped s
unfolding is_stamp
stamped s e =
    let F = fits (bytes "dddddddd") s in
    let D = within 1 31 (part 0 2 s) in
    let H = within 0 23 (part 2 2 s) in
    let M = within 0 59 (part 4 2 s) in
    let S = within 0 59 (part 6 2 s) in
    let m = and_left (F && D && H && M) S e in
    let h = and_left (F && D && H) M m in
    let d = and_left (F && D) H h in
    record {
      size = fits_length (bytes "dddddddd") s (and_left F D d);
      hour = within_most 0 23 (part 2 2 s) (and_right (F && D) H h);
      minute = within_most 0 59 (part 4 2 s) (and_right (F && D && H) M m);
      second = within_most 0 59 (part 6 2 s) (and_right (F && D && H && M) S e);
    }

pub record Placed (s : List ℕ) : Type 0 where
  pub size : length s ≡ 12
  pub latitude : decimal_of (part 0 4 s) ≤ 9000
  pub longitude : decimal_of (part 6 5 s) ≤ 18000

pub placed : (s : List ℕ) → is_position s ≡ true → Placed s
unfolding is_position
placed s e =
    let F = fits (bytes "ddddn/ddddde") s in
    let Y = within 0 59 (part 2 2 s) in
    let X = within 0 59 (part 9 2 s) in
    let N = within 0 9000 (part 0 4 s) in
    let E = within 0 18000 (part 6 5 s) in
    let n = and_left (F && Y && X && N) E e in
    let x = and_left (F && Y && X) N n in
    record {
      size = fits_length (bytes "ddddn/ddddde") s (and_left F Y (and_left (F && Y) X x));
      latitude = within_most 0 9000 (part 0 4 s) (and_right (F && Y && X) N n);
      longitude = within_most 0 18000 (part 6 5 s) (and_right (F && Y && X && N) E e);
    }

-- ---- signed numbers of 64 bits

small : (n : ℕ) → n ≤ 10899 → mag (neg_ℤ (pos n)) < 2 ^ hbits w64
small zero h = lit< tt
small (suc k) h = omega arith

module _ (n : ℕ) (h : n ≤ 10899) where
  pub as_signed : to_z w64 n ≡ pos n
  as_signed = to_z_pos w64 n (omega arith)

  negated : pos 0 -ℤ pos n ≡ neg_ℤ (pos n)
  negated = +ℤ_idl (neg_ℤ (pos n))

  pub negative_fits : SFits w64 (pos 0 -ℤ to_z w64 n)
  negative_fits = rw (as_signed, negated) (sfits_of (small n h))

  pub as_negative : to_z w64 (of_z w64 (pos 0 -ℤ to_z w64 n)) ≡ signed_by false n
  as_negative = to_z-of_z w64 (pos 0 -ℤ to_z w64 n) negative_fits ∙ rw as_signed

-- a signed number is read back from its bits as it was
pub read_back : (z : ℤ) (b : Bool) (n : ℕ) → z ≡ signed_by b n → n ≤ 10899 → to_z w64 (of_z w64 z) ≡ signed_by b n
read_back z true n e h = let f : SFits w64 z = rw e (sfits_of (omega arith)) in to_z-of_z w64 z f ∙ e
read_back z false n e h = let f : SFits w64 z = rw (e, negated n h) (sfits_of (small n h)) in to_z-of_z w64 z f ∙ e

-- ---- the ways of `levels_of`

module _ (s : List ℕ) (i : ℕ) (at : i ≡ up_to (code "B") s) (e : is_level s ≡ true) where
  pub one_level : length s ≤ i → Some (levels.One (decimal_of s)) ≡ levels_of s
  unfolding levels_of
  one_level h = rw (e, not_cut (code "B") s i at h)

  pub two_levels : i < length s → Some (levels.Block (decimal_of (take i s)) (decimal_of (take (length s - (i + 1)) (drop (i + 1) s)))) ≡ levels_of s
  unfolding levels_of
  two_levels h = rw (e, is_cut (code "B") s i at h, cut_before (code "B") s i at h, cut_after (code "B") s i at h)

-- ---- what is asked of the bytes that `show` left: no bytes are no field

asked : {A : Type 0} (f : List ℕ → A) (t : ℕ) {s : List ℕ} {none : A} → f [] ≡ none → s ≡ shown_of t → f s ≡ cond (is_packed t) (f (text_of t)) none
unfolding shown_of
asked f t {s} {none} h e = ap f e ∙ go (is_packed t)
  where
    go : (b : Bool) → f (cond b (text_of t) []) ≡ cond b (f (text_of t)) none
    go true = refl
    go false = h

pub moment_in_lem : (t : ℕ) {s : List ℕ} → s ≡ shown_of t → moment_of s ≡ moment_in t
unfolding moment_of moment_in is_form
moment_in_lem t e = asked moment_of t (rw (no_bytes STAMP)) e

pub minutes_in_lem : (t : ℕ) {s : List ℕ} → s ≡ shown_of t → minutes_of s ≡ minutes_in t
unfolding minutes_of minutes_in is_form
minutes_in_lem t e = asked minutes_of t (rw (no_bytes POSITION)) e

pub levels_in_lem : (t : ℕ) {s : List ℕ} → s ≡ shown_of t → levels_of s ≡ levels_in t
unfolding levels_of levels_in is_form
levels_in_lem t e = asked levels_of t (rw (no_bytes LEVEL)) e
