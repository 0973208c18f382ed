-- `text::decimals::put` meets its contract. The invariant: the k digits of what is left, written from place `at`, make what all digits of n
-- make. Assumes nothing.
use Rattle.std.specs.Prelude.{Ok}
use mathlib.Core.Path.{◌≡◌, refl, sym, ap, ◌∙◌}
use mathlib.Core.List.{List}
use Prim.Native.Nat.{ℕ, suc, ◌+◌, ◌-◌, ◌/◌, ◌%◌, ◌^◌, ◌≤◌, ◌<◌}
use native.Mathlib.Nat.{pow-succ'}
use native.Mathlib.Omega.{arith}
use lib.ListN.{length, set, length-set}
use Rattle.text.proofs.Splice.{spliced_none, spliced_last}
use Rattle.text.specs.Place.{places}
use Rattle.text.specs.Number.{padded}
use Rattle.text.specs.Text.{spliced}
use Rattle.text.proofs.Laws.{has_room_lem, no_room_told, room_told}
use Rattle.text.proofs.Numbers.{length-padded}
use Rattle.text.specs.Decimal.{width_of, decimal}
use Rattle.text.proofs.DecimalDigits.{width_enough, decimal_long, padded_last}
use Rattle.text.proofs.decimals.put.Invariants.{Inv}
use Rattle.text.proofs.decimals.put.Goals as goal

begin : (n at w : ℕ) (out : List ℕ) → n < 10 ^ 20 → w ≡ length (decimal n) → at + length (decimal n) ≤ length out → Inv n at w out out n w
unfolding decimal
begin n at w out h e room =
    let z : w ≡ width_of n = e ∙ decimal_long n in record {
      long = e;
      some = omega arith;
      small = rw z (width_enough 19 n h);
      room = omega arith;
      same = refl;
      rest = rw z;
    }

module _ {n at w : ℕ} {out₀ out : List ℕ} {r k : ℕ} (v : Inv n at w out₀ out r k) where
  whole : k ≤ 0 → out ≡ spliced out₀ at (decimal n)
  unfolding padded places
  whole h =
      let z : k ≡ 0 = omega arith in
      let e : spliced out at (padded 10 0 r) ≡ spliced out₀ at (decimal n) = rw z at v.rest in
      sym (spliced_none out at) ∙ e

  module _ (more : 0 < k) where
    inside : at + (k - 1) < length out
    inside = omega (arith, v.room, v.same, v.some)

    again : (b : ℕ) → b ≡ 48 + r % 10 → Inv n at w out₀ (set out (at + (k - 1)) b) (r / 10) (k - 1)
    again b e =
        let z : k ≡ suc (k - 1) = omega arith in
        let small : r < 10 ^ suc (k - 1) = rw z at v.small in
        let rest : spliced out at (padded 10 (suc (k - 1)) r) ≡ spliced out₀ at (decimal n) = rw z at v.rest in record {
          long = v.long;
          some = omega (arith, v.some);
          small = omega (arith, pow-succ' 10 (k - 1));
          room = v.room;
          same = length-set out (at + (k - 1)) b ∙ v.same;
          rest =
              spliced_last out (padded 10 (k - 1) (r / 10)) at (k - 1) b (length-padded 10 (k - 1) (r / 10)) inside
              ∙ rw (e, ← (padded_last (k - 1) r small)) rest;
        }

pub returns-then-not-has_room : goal.returns-then-not-has_room
returns-then-not-has_room c =
    let both = no_room_told _ _ _ c.size-w.ensures c.has_room.ensures refl c.if-not-has_room.true-raw in
    record { value = both.0; out_after = both.1 }

pub loop-k-init : goal.loop-k-init
loop-k-init c =
    let a = c.args in
    begin a.n a.at c.size-w.result a.out.now (omega arith) c.size-w.ensures (room_told (decimal a.n) a.out.now a.at c.size-w.ensures c.has_room.ensures c.if-not-has_room.false-raw)

pub bounds-out-at : goal.bounds-out-at
bounds-out-at c = inside c.loop-k.invariant c.loop-k-test.true

pub loop-k-preserved : goal.loop-k-preserved
loop-k-preserved c = again c.loop-k.invariant c.loop-k-test.true _ (omega arith)

pub shape_of-out : goal.shape_of-out
shape_of-out c = c.loop-k.invariant.same

pub returns : goal.returns
returns c =
    let a = c.args in
    let v = c.loop-k.invariant in
    let r = has_room_lem (decimal a.n) a.out.now a.at refl (omega (arith, v.room, v.long)) in
    record { value = ap Ok (omega (arith, v.long)) ∙ r.0; out_after = whole v c.loop-k-test.false ∙ r.1 }
