-- `writer::put_all` meets its contract: what is left, written from the place that is reached, makes what the whole text makes.
-- Assumes nothing.
use mathlib.Core.Path.{◌≡◌, refl, sym, ap, ◌∙◌}
use mathlib.Core.Bool.{true}
use mathlib.Core.List.{List, [], ◌∷◌, ◌++◌}
use Prim.Native.Nat.{ℕ, ◌+◌, ◌-◌, ◌≤◌, ◌<◌}
use native.Mathlib.Omega.{arith}
use lib.ListN.{length, take, drop, get_or, set, length-set, length-drop, drop_of_length-le}
use lib.Seq.{get_or-take}
use borrow.Rule.Slice.PartMut.{put_mid}
use Rattle.text.specs.Text.{spliced}
use Rattle.text.proofs.Splice.{length-spliced, lend_on, spliced_none}
use Rattle.shapes.proofs.Laws.{rest_all, next_byte}
use Rattle.table.specs.Spacing.{space}
use Rattle.table.specs.Field.{trace_of, marks_of, shown}
use Rattle.table.specs.declared.kinds.Value.{Value}
use Rattle.table.specs.Read.{none}
use Rattle.table.specs.Show.{allowed_from}
use Rattle.messages.proofs.Bodies.{allowed_first, allowed_rest, allowed_length}
use Rattle.writer.specs.Size.{fields_text}
use Rattle.writer.proofs.FieldSizes.{next_value}
use Rattle.writer.specs.Asks.{FieldAsks, PutAsks}
use Rattle.writer.proofs.Puts.{fields_none, fields_next, fields_length, fields_turn}
use Rattle.writer.proofs.put_all.Invariants.{left, Inv}
use Rattle.writer.proofs.put_all.Goals as goal

start : (ks r : List ℕ) (vs : List Value) (out : List ℕ) → PutAsks ks r vs out → Inv ks r vs out out 0 0 0
unfolding fields_text
start ks r vs out a = record { marks = 0; few = a.few; good = a.good; room = a.room; same = refl; size = omega arith; text = refl }

module _ {ks r : List ℕ} {vs : List Value} {out₀ out : List ℕ} {at k p : ℕ} (v : Inv ks r vs out₀ out at k p) where
  done : length ks ≤ k → (at ≡ length (fields_text ks r vs)) × (out ≡ spliced out₀ 0 (fields_text ks r vs))
  done h =
      let e : left ks r vs k p ≡ [] = rw (drop_of_length-le ks h) (fields_none p r (drop k vs)) in
      (omega (arith, v.size, ap length e), sym (spliced_none out at) ∙ (rw e at v.text))

  module _ (more : k < length ks) where
    counted : k < length vs
    counted = omega (arith, allowed_length (drop k ks) p v.marks r (drop k vs) v.good, length-drop k ks, length-drop k vs)

    -- w is the value of the next field
    module _ (w : Value) (is : get_or vs k none ≡ w) where
      value : drop k vs ≡ w ∷ drop (k + 1) vs
      value = rw (next_value vs k counted, is)

      -- the field's text
      abbrev f : List ℕ
      f = shown (get_or ks k 0) p r w

      allowed : allowed_from (get_or ks k 0 ∷ drop (k + 1) ks) p v.marks r (w ∷ drop (k + 1) vs) ≡ true
      allowed = rw (next_byte ks k more, value) at v.good

      -- what is left after it
      abbrev rest : List ℕ
      rest = left ks r vs (k + 1) (trace_of (get_or ks k 0) f)

      long : length (left ks r vs k p) ≡ 1 + length f + length rest
      long = rw (next_byte ks k more, value) (fields_length (get_or ks k 0) (drop (k + 1) ks) p r w (drop (k + 1) vs))

      fits : at + 1 + length f ≤ length out
      fits = omega (arith, v.size, long, v.room, v.same)

      asks : FieldAsks (get_or ks k 0) p r w (take (length (set out at space) - (at + 1)) (drop (at + 1) (set out at space)))
      asks = record {
        good = allowed_first (get_or ks k 0) (drop (k + 1) ks) p v.marks r w (drop (k + 1) vs) allowed;
        room = rw (rest_all (set out at space) (at + 1)) (omega (arith, fits, length-set out at space, length-drop (at + 1) (set out at space)));
      }

      again : (n p' : ℕ) (ys : List ℕ) → n ≡ length f → p' ≡ trace_of (get_or ks k 0) f → ys ≡ spliced (take (length (set out at space) - (at + 1)) (drop (at + 1) (set out at space))) 0 f
          → Inv ks r vs out₀ (put_mid (at + 1) (length (set out at space) - (at + 1)) (set out at space) ys) (at + 1 + n) (k + 1) p'
      again n p' ys e l y =
          let o = lend_on (set out at space) f (at + 1) y in
          let g = fields_turn out f rest at fits in
          let h = fields_next (get_or ks k 0) (drop (k + 1) ks) p r w (drop (k + 1) vs) in
          let t : spliced out at (space ∷ (f ++ rest)) ≡ spliced out₀ 0 (fields_text ks r vs) = rw (next_byte ks k more, value, h) at v.text in
          record {
            marks = marks_of (get_or ks k 0) v.marks f;
            few = v.few;
            good = rw l (allowed_rest (get_or ks k 0) (drop (k + 1) ks) p v.marks r w (drop (k + 1) vs) allowed);
            room = v.room;
            same = omega (arith, ap length o, length-spliced (set out at space) f (at + 1) (simp length-set fits), length-set out at space, v.same);
            size = rw l (omega (arith, v.size, long, e));
            text = rw (o, e, l) (g ∙ t);
          }

    within : at + 1 ≤ length out
    within = omega (arith, fits (get_or vs k none) refl)

pub loop-k-init : goal.loop-k-init
loop-k-init c = start _ _ _ _ c.requires

pub bounds-out-at : goal.bounds-out-at
bounds-out-at c = omega (arith, within c.loop-k.invariant c.loop-k-test.true)

pub slice_bounds-put_one-count : goal.slice_bounds-put_one-count
slice_bounds-put_one-count c = simp length-set (within c.loop-k.invariant c.loop-k-test.true)

pub slice_bounds-put_one-start : goal.slice_bounds-put_one-start
slice_bounds-put_one-start c = simp length-set (within c.loop-k.invariant c.loop-k-test.true)

pub put_one-put-requires : goal.put_one-put-requires
put_one-put-requires c = asks c.loop-k.invariant c.loop-k-test.true _ (get_or-take _ _ _ _ c.loop-k-test.true)

pub loop-k-preserved : goal.loop-k-preserved
loop-k-preserved c =
    let put = c.put_one-put.ensures in
    again c.loop-k.invariant c.loop-k-test.true _ (get_or-take _ _ _ _ c.loop-k-test.true) _ _ _ put.end_value put.trace_value put.out_after

pub overflow_add-at : goal.overflow_add-at
overflow_add-at c = let n = loop-k-preserved c in omega (arith, n.size, n.room)

pub returns : goal.returns
returns c =
    let both = done c.loop-k.invariant c.loop-k-test.false in
    record { value = both.0; out_after = both.1 }
