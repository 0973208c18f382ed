-- `text::writing::size` meets its contract. The invariant: the digits of what is left, and whether they are tight, as they are of the whole.
-- Assumes nothing.
use Rattle.std.specs.Prelude.{None, Some}
use mathlib.Core.Path.{◌≡◌, refl, sym, ap, ◌∙◌}
use mathlib.Core.Bool.{true, false}
use Prim.Native.Nat.{ℕ, ◌+◌, ◌-◌, ◌/◌, ◌%◌, ◌^◌, ◌≤◌, ◌<◌}
use native.Mathlib.Nat.{mod-lt}
use native.Mathlib.Omega.{arith}
use lib.ListN.{length, length-map}
use borrow.Author.Tests.{le-leb, lt-leb, lt-ltb, le-ltb}
use Rattle.text.specs.Place.{digits, tight}
use Rattle.text.specs.Text.{is_packed, text_of, size_of}
use Rattle.text.proofs.Places.{digits_zero, tight_zero}
use Rattle.text.proofs.Turn.{place_left, next_weight, weighs, digits_turn, tight_turn}
use Rattle.text.proofs.writing.size.Invariants.{Inv}
use Rattle.text.proofs.writing.size.Goals as goal

module _ {t r w k : ℕ} (v : Inv t r w k) where
  done : r ≤ 0 → Some k ≡ size_of t
  unfolding size_of is_packed text_of
  done h =
      let z : r ≡ 0 = omega arith in
      let all : tight 38 12 t ≡ true = sym v.tightly ∙ rw z (tight_zero 38 (12 - k)) in
      let n : k ≡ length (digits 38 12 t) = omega (arith, v.long, ap (λ (x : ℕ). length (digits 38 (12 - k) x)) z, ap length (digits_zero 38 (12 - k))) in
      rw (lt-ltb t (38 ^ 12) v.small, all, length-map, n)

  module _ (more : 0 < r) where
    place : k < 12
    place = place_left k r w more v.left v.weight

    heavy : 0 < w / 38
    heavy = weighs w k place v.weight

    again : w / 38 ≤ r → Inv t (r % (w / 38)) (w / 38) (k + 1)
    again h = record {
      small = v.small;
      weight = next_weight w k place v.weight;
      left = mod-lt r heavy;
      tightly = sym (tight_turn w k place v.weight r more ∙ rw (le-leb (w / 38) r h)) ∙ v.tightly;
      long = omega (arith, v.long, ap length (digits_turn w k place v.weight r more));
    }

    bad : r < w / 38 → None ≡ size_of t
    unfolding size_of is_packed
    bad h =
        let all : tight 38 12 t ≡ false = sym v.tightly ∙ tight_turn w k place v.weight r more ∙ rw (lt-leb (w / 38) r h) in
        rw (lt-ltb t (38 ^ 12) v.small, all)

pub returns-then-t-ge-TOP : goal.returns-then-t-ge-TOP
unfolding size_of is_packed
returns-then-t-ge-TOP c = rw (le-ltb _ (38 ^ 12) c.if-t-ge-TOP.true)

pub loop-r-init : goal.loop-r-init
unfolding size_of is_packed
loop-r-init c = record { small = c.if-t-ge-TOP.false; weight = refl; left = c.if-t-ge-TOP.false; tightly = refl; long = omega arith }

pub returns-then-r-w : goal.returns-then-r-w
unfolding size_of is_packed
returns-then-r-w c = bad c.loop-r.invariant c.loop-r-test.true c.if-r-w.true

pub nonzero_rem-r : goal.nonzero_rem-r
unfolding size_of is_packed
nonzero_rem-r c = omega (arith, heavy c.loop-r.invariant c.loop-r-test.true)

pub overflow_add-k : goal.overflow_add-k
unfolding size_of is_packed
overflow_add-k c = omega (arith, place c.loop-r.invariant c.loop-r-test.true)

pub loop-r-smaller : goal.loop-r-smaller
unfolding size_of is_packed
loop-r-smaller c = omega (arith, place c.loop-r.invariant c.loop-r-test.true)

pub loop-r-preserved : goal.loop-r-preserved
unfolding size_of is_packed
loop-r-preserved c = again c.loop-r.invariant c.loop-r-test.true c.if-r-w.false

pub returns : goal.returns
unfolding size_of is_packed
returns c = done c.loop-r.invariant c.loop-r-test.false
