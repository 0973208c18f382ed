-- `table::walk::read` meets its contract: the answer on what is left is the answer on the whole, and the values of what is left, put
-- from the place that is reached, make what all the values make. Assumes nothing.
use Rattle.std.specs.Prelude.{Err, Ok, Result}
use mathlib.Core.Path.{◌≡◌, sym, ap, ◌∙◌}
use mathlib.Core.Bool.{Bool}
use mathlib.Core.List.{List, [], ◌∷◌}
use Prim.Native.Nat.{ℕ, ◌+◌, ◌-◌, ◌≤◌, ◌<◌}
use native.Mathlib.Omega.{arith}
use lib.ListN.{length, take, drop, get_or, set, replicate, drop_of_length-le}
use lib.Seq.{sets}
use Rattle.shapes.proofs.Laws.{next_byte}
use Rattle.table.specs.Spacing.{end_of}
use Rattle.table.specs.Field.{read_in, trace_of, marks_of}
use Rattle.table.specs.declared.kinds.Value.{Value}
use Rattle.table.specs.Read.{none, padded, values_from, fault_at, answer_from, answer_of, values_of, Ready}
use Rattle.table.specs.declared.walk.Fault.{Fault}
use Rattle.table.proofs.WalkWays.{fields_on, at_start_lem, inside, field_left, at_next, answer_done, values_done, answer_read, values_read, answer_stop, values_stop, values_few, sets_next, sets_padded, read_ready}
use Rattle.table.proofs.walk.read.Invariants.{Inv}
use Rattle.table.proofs.walk.read.Goals as goal
use Rattle.table.specs.declared.kinds.NotRead.{NotRead}

start : (ks body : List ℕ) (t : Bool) → Ready ks body t → Inv ks body t (replicate 19 none) 0 0 0 0
start ks body t r = record {
  walk = at_start_lem body t r.split;
  count = r.count;
  few = r.few;
  told = (read_ready ks body r).0;
  made = sets_padded (values_from ks 0 0 (fields_on body)) (omega (arith, r.few, values_few ks 0 0 (fields_on body))) ∙ ap padded (read_ready ks body r).1;
}

-- what `read` promises of its answer and its values
abbrev Filled : List ℕ → List ℕ → Bool → Result (Bool × ℕ) Fault → List Value → Type 0
Filled ks body t r values = (r ≡ answer_of ks body) × (values ≡ padded (values_of ks body))

module _ {ks body : List ℕ} {t : Bool} {values : List Value} {at k p m : ℕ} (v : Inv ks body t values at k p m) where
  done : length ks ≤ k → Filled ks body t (Ok (t, m)) values
  done h =
      let e : drop k ks ≡ [] = drop_of_length-le ks h in
      let w : values_from (drop k ks) p m (drop k (fields_on body)) ≡ [] = rw e (values_done p m (drop k (fields_on body))) in
      let a : answer_from (k + 1) t (drop k ks) p m (drop k (fields_on body)) ≡ Ok (t, m) = rw e (answer_done (k + 1) t p m (drop k (fields_on body))) in
      (sym a ∙ v.told, rw w at v.made)

  module _ (more : k < length ks) where
    some : k < length (fields_on body)
    some = omega (arith, v.count)

    pub within : at < length body
    within = inside v.walk some

    -- the field f is left first, and read as x
    module _ {f : List ℕ} (is : f ≡ take (end_of body (at + 1) - (at + 1)) (drop (at + 1) body)) {x : (Result Value NotRead)} (reads : x ≡ read_in (get_or ks k 0) p m f) where
      abbrev after : List (List ℕ)
      after = drop (k + 1) (fields_on body)

      told : answer_from (k + 1) t (get_or ks k 0 ∷ drop (k + 1) ks) p m (f ∷ after) ≡ answer_of ks body
      told = rw (next_byte ks k more, field_left v.walk some is) at v.told

      made : sets values k (values_from (get_or ks k 0 ∷ drop (k + 1) ks) p m (f ∷ after)) ≡ padded (values_of ks body)
      made = rw (next_byte ks k more, field_left v.walk some is) at v.made

      stops : {y : NotRead} {r : Fault} → x ≡ Err y → r ≡ fault_at (k + 1) (Err y) → Filled ks body t (Err r) values
      stops {y} h g = (
        ap Err g ∙ answer_stop (get_or ks k 0) (drop (k + 1) ks) p m f after y (sym reads ∙ h) (k + 1) t ∙ told,
        rw (values_stop (get_or ks k 0) (drop (k + 1) ks) p m f after y (sym reads ∙ h)) at made,
      )

      again : {y : Value} {p' m' e : ℕ} → x ≡ Ok y → p' ≡ trace_of (get_or ks k 0) f → m' ≡ marks_of (get_or ks k 0) m f → e ≡ end_of body (at + 1)
          → Inv ks body t (set values k y) e (k + 1) p' m'
      again {y} h l n to =
          record {
            walk = at_next v.walk some is to;
            count = v.count;
            few = v.few;
            told = rw (l, n) (sym (answer_read (get_or ks k 0) (drop (k + 1) ks) p m f after (sym reads ∙ h) (k + 1) t) ∙ told);
            made = rw (l, n, ← sets_next, ← (values_read (get_or ks k 0) (drop (k + 1) ks) p m f after (sym reads ∙ h))) made;
          }

pub loop-k-init : goal.loop-k-init
loop-k-init c = start _ _ _ c.requires

pub field_after-field-requires : goal.field_after-field-requires
field_after-field-requires c = within c.loop-k.invariant c.loop-k-test.true

pub returns-in-Err : goal.returns-in-Err
returns-in-Err c =
    let both = stops c.loop-k.invariant c.loop-k-test.true c.field_after-field.ensures.value c.read_field.ensures c.in-Err.is c.as_fault.ensures in
    record { answer_value = both.0; values_value = both.1 }

pub loop-k-preserved : goal.loop-k-preserved
loop-k-preserved c =
    let field = c.field_after-field.ensures in
    again c.loop-k.invariant c.loop-k-test.true field.value c.read_field.ensures c.in-Ok.is c.trace-trace.ensures c.marks_after-marks.ensures (omega (arith, field.size))

pub returns : goal.returns
returns c =
    let both = done c.loop-k.invariant c.loop-k-test.false in
    record { answer_value = both.0; values_value = both.1 }
