-- `writer::sizes::size_all` meets its contract: the size so far and what is left of the fields make the size of all. Assumes
-- nothing.
use Rattle.std.specs.Prelude.{None, Some}
use mathlib.Core.Path.{◌≡◌, sym, ◌∙◌}
use mathlib.Core.List.{List, []}
use Prim.Native.Nat.{ℕ, ◌+◌, ◌≤◌, ◌<◌}
use native.Mathlib.Omega.{arith}
use lib.ListN.{length, take, drop, get_or, drop_of_length-le}
use lib.Seq.{length-take-le}
use Rattle.shapes.proofs.Laws.{next_byte}
use Rattle.table.specs.declared.kinds.Value.{Value}
use Rattle.table.specs.Read.{none}
use Rattle.writer.specs.Size.{sized_field, sized_all}
use Rattle.writer.proofs.FieldSizes.{from_all, from_none, from_stops, from_next, field_known, shown_line, next_taken}
use Rattle.writer.proofs.sizes.size_all.Invariants.{Inv}
use Rattle.writer.proofs.sizes.size_all.Goals as goal

module _ {ks r : List ℕ} {ws : List Value} {n k p m : ℕ} (v : Inv ks r ws n k p m) where
  taken : length ks ≤ length ws
  taken = omega (arith, v.whole, v.asks.few)

  done : length ks ≤ k → Some (n, m) ≡ sized_all ks r (take (length ks) ws)
  done h =
      let e : drop k ks ≡ [] = drop_of_length-le ks h in
      let l : length (take (length ks) ws) ≤ k = rw (length-take-le (length ks) ws taken) h in
      let f : drop k (take (length ks) ws) ≡ [] = drop_of_length-le (take (length ks) ws) l in
      sym (from_none n p m r) ∙ rw (e, f) at v.rest

  module _ (more : k < length ks) where
    stops : sized_field (get_or ks k 0) p m r (get_or ws k none) ≡ None → None ≡ sized_all ks r (take (length ks) ws)
    stops h =
        sym (from_stops n (get_or ks k 0) (drop (k + 1) ks) p m r (get_or ws k none) (drop (k + 1) (take (length ks) ws)) h)
        ∙ rw (next_byte ks k more, next_taken (length ks) ws k more taken) at v.rest

    again : (l q w : ℕ) → sized_field (get_or ks k 0) p m r (get_or ws k none) ≡ Some (l, q, w) → Inv ks r ws (n + (l + 1)) (k + 1) q w
    again l q w h =
        let f = field_known (get_or ks k 0) p m r (get_or ws k none) h in
        record {
          asks = v.asks;
          whole = v.whole;
          place = omega arith;
          few = omega (arith, v.few, f.2, shown_line (get_or ks k 0) p r (get_or ws k none) f.0 v.asks.short);
          rest = sym (from_next n (get_or ks k 0) (drop (k + 1) ks) p m r (get_or ws k none) (drop (k + 1) (take (length ks) ws)) h)
              ∙ rw (next_byte ks k more, next_taken (length ks) ws k more taken) at v.rest;
        }

pub loop-k-init : goal.loop-k-init
loop-k-init c = record { asks = c.requires; whole = c.well_formed.1.0.1.0.1; place = omega arith; few = omega arith; rest = from_all _ _ _ }

pub returns-in_err-n : goal.returns-in_err-n
returns-in_err-n c = c.from_residual.ensures ∙ stops c.loop-k.invariant c.loop-k-test.true (sym c.in_err-n.ensures)

pub loop-k-preserved : goal.loop-k-preserved
loop-k-preserved c = again c.loop-k.invariant c.loop-k-test.true _ _ _ (sym c.in_ok-n.ensures)

pub overflow_add-size : goal.overflow_add-size
overflow_add-size c = let n = again c.loop-k.invariant c.loop-k-test.true _ _ _ (sym c.in_ok-n.ensures) in omega (arith, n.few, n.place, n.asks.few)

pub overflow_add-size-in-loop-k : goal.overflow_add-size-in-loop-k
overflow_add-size-in-loop-k c = let n = loop-k-preserved c in omega (arith, n.few, n.place, n.asks.few)

pub returns : goal.returns
returns c = done c.loop-k.invariant c.loop-k-test.false
