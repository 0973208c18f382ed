-- `text::number` meets its contract. The invariant: n, moved up by the places that are left, and what the digits from index i
-- on are make the whole number, and those bytes are digits as all of them are. Assumes nothing.
use Rattle.std.specs.Prelude.{None, Some}
use mathlib.Core.Path.{◌≡◌, refl, sym, ◌∙◌}
use mathlib.Core.Bool.{true, false, ◌&&◌, and-false}
use mathlib.Core.List.{List, [], ◌∷◌, map}
use Prim.Native.Nat.{ℕ, suc, ◌+◌, ◌-◌, ◌*◌, ◌^◌, ◌≤◌, ◌<◌}
use native.Mathlib.Nat.{add-mul, mul_assoc, mul-one, zero-mul, zero-add, sub-zero, pow-zero, pow-suc, pow-succ', pow-le-pow_left, pow-le-pow_right}
use native.Mathlib.Numerals.{add-one}
use native.Mathlib.Omega.{arith}
use lib.Arith.{digits_lt}
use lib.ListN.{length, get_or, drop, drop_of_length-le}
use lib.Seq.{drop-cons}
use lib.Dec.{leb, lit≤}
use borrow.Author.Tests.{le-leb, lt-leb}
use Rattle.text.specs.Class.{all}
use Rattle.text.specs.Code.{code_of}
use Rattle.text.specs.Place.{value}
use Rattle.text.specs.Number.{is_digit_to, digit_of, number_of, is_numeral, read_number}
use Rattle.text.proofs.Places.{value_suc, value_none}
use Rattle.text.proofs.number.Invariants.{Inv}
use Rattle.text.proofs.number.Goals as goal

begin : (s : List ℕ) (B : ℕ) → length s ≤ 12 → B ≤ 36 → Inv s B 0 0
unfolding number_of
begin s B h k = record { at = omega arith; short = h; few = k; small = omega (arith, pow-zero B); sum = rw (zero-mul, zero-add, sub-zero); rest = refl }

-- c is the code of the byte at i
module _ {s : List ℕ} {B n i : ℕ} (v : Inv s B n i) where
  done : length s ≤ i → Some n ≡ read_number B s
  unfolding read_number is_numeral all
  done left =
      let e : drop i s ≡ [] = drop_of_length-le s left in
      let z : length s - i ≡ 0 = omega arith in
      let every : all (is_digit_to B) s ≡ true = sym v.rest ∙ rw e in
      let sum : n * B ^ 0 + value B 0 (map digit_of []) ≡ number_of B s = rw (z, e) at v.sum in
      let whole : n ≡ number_of B s = omega (arith, rw (pow-zero, mul-one, value_none) at sum) in
      rw (le-leb B 36 v.few, le-leb (length s) 12 v.short, every, whole)

  module _ (c : ℕ) (more : i < length s) (is : c ≡ code_of (get_or s i 0)) where
    cons : drop i s ≡ get_or s i 0 ∷ drop (i + 1) s
    cons = rw (add-one, drop-cons s i 0)

    bad : (leb 1 c && leb c B) ≡ false → None ≡ read_number B s
    unfolding read_number is_numeral all is_digit_to
    bad e =
        let every : all (is_digit_to B) s ≡ false = sym v.rest ∙ rw (cons, ← is, e) in
        rw (le-leb B 36 v.few, le-leb (length s) 12 v.short, every)

    module _ (some : 1 ≤ c) (digit : c ≤ B) where
      next_small : n * B + (c - 1) < B ^ (i + 1)
      next_small = rw (add-one, pow-suc) (digits_lt v.small (omega arith))

      fits : n * B + (c - 1) < 36 ^ 12
      fits = omega (arith, next_small, pow-le-pow_left v.few (i + 1), pow-le-pow_right {n = 36} (lit≤ tt) {i = i + 1} {j = 12} (omega arith))

      next_rest : all (is_digit_to B) (drop (i + 1) s) ≡ all (is_digit_to B) s
      unfolding all is_digit_to
      next_rest = let e : all (is_digit_to B) (get_or s i 0 ∷ drop (i + 1) s) ≡ all (is_digit_to B) s = rw cons at v.rest in rw (← is, le-leb 1 c some, le-leb c B digit) at e

      next_sum : (n * B + (c - 1)) * B ^ (length s - (i + 1)) + value B (length s - (i + 1)) (map digit_of (drop (i + 1) s)) ≡ number_of B s
      unfolding digit_of
      next_sum =
          let k = length s - (i + 1) in
          let z : length s - i ≡ suc k = omega arith in
          let e : n * (B * B ^ k) + ((c - 1) * B ^ k + value B k (map digit_of (drop (i + 1) s))) ≡ number_of B s = rw (z, cons, ← is, value_suc, pow-succ') at v.sum in
          omega (arith, e, add-mul (n * B) (c - 1) (B ^ k), mul_assoc n B (B ^ k))

      again : Inv s B (n * B + (c - 1)) (i + 1)
      again = record { at = omega arith; short = v.short; few = v.few; small = next_small; sum = next_sum; rest = next_rest }

pub returns-then-base-gt36 : goal.returns-then-base-gt36
unfolding read_number is_numeral
returns-then-base-gt36 c = simp (lt-leb _ _ c.if-base-gt36.true)

pub returns-then-s-gt12 : goal.returns-then-s-gt12
unfolding read_number is_numeral
returns-then-s-gt12 c = simp (le-leb _ _ c.if-base-gt36.false, lt-leb _ _ c.if-s-gt12.true)

pub loop-b-init : goal.loop-b-init
unfolding read_number is_numeral
loop-b-init c = begin _ _ c.if-s-gt12.false c.if-base-gt36.false

pub code-c-requires : goal.code-c-requires
unfolding read_number is_numeral
code-c-requires c = tt

pub returns-then-c-eq0 : goal.returns-then-c-eq0
returns-then-c-eq0 c =
    let k = c.code-c in
    bad c.loop-b.invariant k.result c.loop-b-test.true k.ensures (rw c.if-c-eq0.true)

pub returns-then-c-base : goal.returns-then-c-base
returns-then-c-base c =
    let k = c.code-c in
    bad c.loop-b.invariant k.result c.loop-b-test.true k.ensures (rw (lt-leb _ _ c.if-c-base.true, and-false))

pub overflow_mul-n : goal.overflow_mul-n
unfolding read_number is_numeral
overflow_mul-n c = omega (arith, (let k = c.code-c in fits c.loop-b.invariant k.result c.loop-b-test.true k.ensures (omega arith) c.if-c-base.false))

pub overflow_add-n : goal.overflow_add-n
unfolding read_number is_numeral
overflow_add-n c = omega (arith, (let k = c.code-c in fits c.loop-b.invariant k.result c.loop-b-test.true k.ensures (omega arith) c.if-c-base.false))

pub loop-b-preserved : goal.loop-b-preserved
loop-b-preserved c =
    let k = c.code-c in
    again c.loop-b.invariant k.result c.loop-b-test.true k.ensures (omega arith) c.if-c-base.false

pub returns : goal.returns
unfolding read_number is_numeral
returns c = done c.loop-b.invariant c.loop-b-test.false
