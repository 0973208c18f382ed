-- `text::writing::write` meets its contract. The invariant: what is left, written from the place that is reached, makes what the whole makes.
-- Assumes nothing.
use mathlib.Core.Path.{◌≡◌, refl, sym, ap, ◌∙◌}
use mathlib.Core.List.{List, [], ◌∷◌, map}
use Prim.Native.Nat.{ℕ, suc, ◌+◌, ◌-◌, ◌/◌, ◌%◌, ◌≤◌, ◌<◌}
use native.Mathlib.Nat.{mod-lt, div-lt_iff_lt-mul, add-zero}
use native.Mathlib.Omega.{arith}
use lib.Dec.{leb}
use lib.ListN.{length, length-map, length-set, set}
use lib.Seq.{sets, sets-eq}
use Rattle.text.specs.Code.{byte_of}
use Rattle.text.specs.Place.{digits, tight}
use Rattle.text.specs.Text.{text_of, spliced}
use Rattle.text.proofs.Logic.{and_right}
use Rattle.text.proofs.Places.{digits_zero}
use Rattle.text.proofs.Laws.{packed_small, packed_tight}
use Rattle.text.proofs.Turn.{place_left, next_weight, times, weighs, digits_turn, tight_turn}
use Rattle.text.proofs.writing.write.Invariants.{Inv}
use Rattle.text.proofs.writing.write.Goals as goal

text_long : (t : ℕ) → length (text_of t) ≡ length (digits 38 12 t)
unfolding text_of
text_long t = length-map (digits 38 12 t) byte_of

roomy : (t at n : ℕ) → at + length (text_of t) ≤ n → at + length (digits 38 12 t) ≤ n
roomy t at n h = omega (arith, text_long t)

module _ {t at : ℕ} {out₀ out : List ℕ} {r w j : ℕ} (v : Inv t at out₀ out r w j) where
  module _ (none : r ≤ 0) where
    empty : digits 38 (12 - j) r ≡ []
    empty = let z : r ≡ 0 = omega arith in rw z (digits_zero 38 (12 - j))

    all : j ≡ length (digits 38 12 t)
    all = omega (arith, v.long, ap length empty)

    whole : out ≡ spliced out₀ at (text_of t)
    unfolding spliced text_of
    whole =
        let e : out ≡ sets out₀ at (map byte_of (digits 38 12 t)) = rw empty at v.rest in
        e ∙ sets-eq (map byte_of (digits 38 12 t)) out₀ at (rw length-map v.room)

  module _ (more : 0 < r) where
    place : j < 12
    place = place_left j r w more v.left v.weight

    heavy : 0 < w / 38
    heavy = weighs w j place v.weight

    digit : r / (w / 38) < 38
    digit = (div-lt_iff_lt-mul heavy).1 (omega (arith, v.left, times w j place v.weight))

    turn : digits 38 (12 - j) r ≡ r / (w / 38) ∷ digits 38 (12 - (j + 1)) (r % (w / 38))
    turn = digits_turn w j place v.weight r more

    inside : at + j < length out
    inside = omega (arith, v.long, v.room, v.same, ap length turn)

    again : (b : ℕ) → b ≡ byte_of (r / (w / 38)) → Inv t at out₀ (set out (at + j) b) (r % (w / 38)) (w / 38) (j + 1)
    again b e = record {
      weight = next_weight w j place v.weight;
      left = mod-lt r heavy;
      tightly = and_right (leb (w / 38) r) (tight 38 (12 - (j + 1)) (r % (w / 38))) (sym (tight_turn w j place v.weight r more) ∙ v.tightly);
      long = omega (arith, v.long, ap length turn);
      room = v.room;
      same = length-set out (at + j) b ∙ v.same;
      rest = rw (e, next) (rw turn at v.rest);
    }
      where
        next : at + (j + 1) ≡ suc (at + j)
        next = omega arith

pub loop-r-init : goal.loop-r-init
loop-r-init c =
    record {
      weight = refl;
      left = packed_small c.args.t c.requires.t_value;
      tightly = packed_tight c.args.t c.requires.t_value;
      long = omega arith;
      room = roomy c.args.t c.args.at (length c.args.out.now) c.requires.t_in_bounds;
      same = refl;
      rest = rw add-zero;
    }

pub nonzero_div-r : goal.nonzero_div-r
nonzero_div-r c = heavy c.loop-r.invariant c.loop-r-test.true

pub byte-requires : goal.byte-requires
byte-requires c = omega (arith, digit c.loop-r.invariant c.loop-r-test.true)

pub overflow_add-out : goal.overflow_add-out
overflow_add-out c = omega (arith, inside c.loop-r.invariant c.loop-r-test.true, c.loop-r.invariant.same)

pub bounds-out-at : goal.bounds-out-at
bounds-out-at c = inside c.loop-r.invariant c.loop-r-test.true

pub nonzero_rem-r : goal.nonzero_rem-r
nonzero_rem-r c = heavy c.loop-r.invariant c.loop-r-test.true

pub overflow_add-j : goal.overflow_add-j
overflow_add-j c = omega (arith, place c.loop-r.invariant c.loop-r-test.true)

pub loop-r-smaller : goal.loop-r-smaller
loop-r-smaller c = omega (arith, place c.loop-r.invariant c.loop-r-test.true)

pub loop-r-preserved : goal.loop-r-preserved
loop-r-preserved c = again c.loop-r.invariant c.loop-r-test.true c.byte.result c.byte.ensures

pub overflow_add-result : goal.overflow_add-result
overflow_add-result c = omega (arith, all c.loop-r.invariant c.loop-r-test.false, c.loop-r.invariant.room)

pub shape_of-out : goal.shape_of-out
shape_of-out c = c.loop-r.invariant.same

pub returns : goal.returns
returns c =
    let v = c.loop-r.invariant in
    let z = c.loop-r-test.false in
    record { value = ap (λ (n : ℕ). c.args.at + n) (all v z ∙ sym (text_long c.args.t)); out_after = whole v z }
