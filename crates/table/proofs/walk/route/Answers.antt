-- `table::walk::route` meets its contract: the route of what is left is the route of the whole. Assumes nothing.
use Rattle.std.specs.Prelude.{Some}
use mathlib.Core.Path.{◌≡◌, refl, sym, ap, ◌∙◌}
use mathlib.Core.Bool.{Bool, true, false}
use mathlib.Core.List.{List, [], ◌∷◌}
use Prim.Native.Nat.{ℕ, ◌+◌, ◌-◌, ◌≤◌, ◌<◌, min}
use native.Mathlib.Omega.{arith}
use lib.ListN.{length, take, drop, get_or, drop_of_length-le}
use lib.Dec.{leb}
use lib.Seq.{length-take-le, get_or-take}
use borrow.Author.Tests.{leb-true, leb-false}
use Rattle.shapes.proofs.Laws.{next_byte, at_front}
use Rattle.table.specs.Spacing.{count_of, end_of}
use Rattle.table.proofs.SpacingLaws.{count_known}
use Rattle.table.specs.Field.{ROUTE, plain, trace_of}
use Rattle.table.specs.Read.{route_in, route_of, route_from, route_at}
use Rattle.shapes.specs.Picture.{starts_at}
use Rattle.table.proofs.WalkWays.{fields_on, at_start_lem, inside, field_left, at_next, route_no_kinds, route_no_fields, route_here, route_later, route_wrong, start_no_kinds, start_no_fields, start_here, start_later, start_wrong}
use Rattle.table.proofs.walk.route.Invariants.{Inv}
use Rattle.table.proofs.walk.route.Goals as goal

start : (ks body : List ℕ) {n : ℕ} {t : Bool} → count_of body ≡ Some (n, t) → Inv ks body n 0 0 0
unfolding route_of route_at
start ks body {n} {t} e = let c = count_known body e in record { walk = at_start_lem body t c.0; count = c.1; told = refl; stands = refl }

module _ {ks body : List ℕ} {n at k p : ℕ} (v : Inv ks body n at k p) where
  no_fields : n ≤ k → ([] ≡ route_of ks body) × (0 ≡ route_at ks body)
  no_fields h =
      let l : length (fields_on body) ≤ k = omega (arith, v.count) in
      let e : drop k (fields_on body) ≡ [] = drop_of_length-le (fields_on body) l in
      (sym (rw e (route_no_fields (drop k ks) p)) ∙ v.told, sym (rw e (start_no_fields at (drop k ks) p)) ∙ v.stands)

  no_kinds : length ks ≤ k → ([] ≡ route_of ks body) × (0 ≡ route_at ks body)
  no_kinds h =
      let e : drop k ks ≡ [] = drop_of_length-le ks h in
      (sym (rw e (route_no_kinds p (drop k (fields_on body)))) ∙ v.told, sym (rw e (start_no_kinds at p (drop k (fields_on body)))) ∙ v.stands)

  none_left : {m : ℕ} → m ≡ min n (length ks) → length (take m ks) ≤ k → ([] ≡ route_of ks body) × (0 ≡ route_at ks body)
  none_left {m} is h = go (leb (length ks) n) refl
    where
      go : (b : Bool) → leb (length ks) n ≡ b → ([] ≡ route_of ks body) × (0 ≡ route_at ks body)
      go true e = no_kinds (omega (arith, leb-true (length ks) n e, length-take-le m ks))
      go false e = no_fields (omega (arith, leb-false (length ks) n e, length-take-le m ks))

  -- the first m kinds have one more, kind
  module _ {m kind : ℕ} (few : m ≡ min n (length ks)) (first : k < length (take m ks)) (at_k : kind ≡ get_or (take m ks) k 0) where
    long : length (take m ks) ≡ m
    long = length-take-le m ks (omega arith)

    h : k < length ks
    h = omega (arith, long)

    some : k < length (fields_on body)
    some = omega (arith, v.count, long)

    kinds_left : drop k ks ≡ kind ∷ drop (k + 1) ks
    kinds_left = rw (at_k, get_or-take m ks k 0 (omega (arith, long))) (next_byte ks k h)

    within : at < length body
    within = inside v.walk some

    -- the field f is left first, and its kind is read as q
    module _ {f : List ℕ} (is : f ≡ take (end_of body (at + 1) - (at + 1)) (drop (at + 1) body)) {q : ℕ} (reads : q ≡ plain kind p) where
      abbrev after : List (List ℕ)
      after = drop (k + 1) (fields_on body)

      turned : route_in (kind ∷ drop (k + 1) ks) p (f ∷ after) ≡ route_of ks body
      turned = rw (kinds_left, field_left v.walk some is) at v.told

      stood : route_from at (kind ∷ drop (k + 1) ks) p (f ∷ after) ≡ route_at ks body
      stood = rw (kinds_left, field_left v.walk some is) at v.stands

      here : q ≡ ROUTE → (f ≡ route_of ks body) × (at + 1 ≡ route_at ks body)
      here r = (
        sym (route_here kind (drop (k + 1) ks) p f after (sym reads ∙ r)) ∙ turned,
        sym (start_here kind (drop (k + 1) ks) p f after (sym reads ∙ r) at) ∙ stood,
      )

      again : {p' e : ℕ} → (q ≡ ROUTE → ⊥) → p' ≡ trace_of kind f → e ≡ at + 1 + length f → e ≡ end_of body (at + 1) → Inv ks body n e (k + 1) p'
      again r l e to =
          let no : plain kind p ≡ ROUTE → ⊥ = λ z. r (reads ∙ z) in
          record {
            walk = at_next v.walk some is to;
            count = v.count;
            told = rw l (sym (route_later kind (drop (k + 1) ks) p f after no) ∙ turned);
            stands = rw (l, e) (sym (start_later kind (drop (k + 1) ks) p f after no at) ∙ stood);
          }

pub returns-in_default : goal.returns-in_default
returns-in_default c =
    let w = sym c.count.ensures ∙ c.in_default.is in
    record { result_value = route_wrong _ _ w; ref_ptr_value = at_front _ (start_wrong _ _ w) }

pub loop-kind-init : goal.loop-kind-init
loop-kind-init c = start _ _ (sym c.count.ensures ∙ c.in-Some.is)

pub field_after-field-requires : goal.field_after-field-requires
field_after-field-requires c = within c.loop-kind.invariant c.min.ensures c.loop-kind-test.true refl

pub returns-then-plain-eq-ROUTE : goal.returns-then-plain-eq-ROUTE
returns-then-plain-eq-ROUTE c =
    let field = c.field_after-field.ensures in
    let w = here c.loop-kind.invariant c.min.ensures c.loop-kind-test.true refl field.value c.plain.ensures c.if-plain-eq-ROUTE.true in
    record { result_value = w.0; ref_ptr_value = field.ref_ptr_value ∙ ap (starts_at _) w.1 }

pub loop-kind-preserved : goal.loop-kind-preserved
loop-kind-preserved c =
    let field = c.field_after-field.ensures in
    again c.loop-kind.invariant c.min.ensures c.loop-kind-test.true refl field.value c.plain.ensures c.if-plain-eq-ROUTE.false c.trace-trace.ensures (omega arith) (omega (arith, field.size))

pub returns : goal.returns
returns c =
    let w = none_left c.loop-kind.invariant c.min.ensures c.loop-kind-test.false in
    record { result_value = w.0; ref_ptr_value = at_front _ w.1 }
