-- The ways of the functions that read a body by its kinds: a walk from field to field, one field that is read or at fault, the
-- values in their nineteen places, the refusals, and the route. Assumes nothing.
use Rattle.std.specs.Prelude.{Err, None, Ok, Result, Some}
use mathlib.Core.Path.{◌≡◌, refl, sym, ◌∙◌}
use mathlib.Core.Bool.{Bool, true}
use mathlib.Core.List.{List, [], ◌∷◌}
use Prim.Native.Nat.{ℕ, zero, suc, ◌+◌, ◌-◌, ◌≤◌, ◌<◌}
use native.Mathlib.Nat.{zero-add, sub-zero, zero-sub, suc-sub-suc}
use native.Mathlib.Numerals.{add-one}
use native.Mathlib.Omega.{arith}
use lib.Dec.{eqb, leb}
use lib.ListN.{length, take, drop, get_or, set, replicate}
use lib.Seq.{sets, sets-eq, drop-cons}
use borrow.Author.Tests.{eq-eqb, ne_eqb, le-leb}
use Rattle.table.specs.Spacing.{Fields, fields_of, fields_in, count_of, end_of}
use Rattle.table.proofs.SpacingLaws.{rest, Turn, turn, split_rest, count_known, count_wrong}
use Rattle.table.specs.Field.{ROUTE, read_in, plain, trace_of, marks_of}
use Rattle.table.specs.declared.kinds.Value.{Value}
use Rattle.table.specs.Read.{none, padded, more, values_from, fault_at, or_else, answer_from, counted, answers, values, answer_of, values_of, Ready, route_in, route_of, route_from, route_at}
use Rattle.table.specs.declared.walk.Fault.TheVariants.{Spacing}
use Rattle.table.specs.declared.kinds.NotRead.TheVariants.{Nothing, Number}
use Rattle.table.specs.declared.walk.Fault.{Fault}
use Rattle.table.specs.declared.kinds.NotRead.{NotRead}

abbrev pub fields_on : List ℕ → List (List ℕ)
fields_on body = fields_in (fields_of body)

-- ---- a walk that stands at the space before field k

pub record At (body : List ℕ) (at k : ℕ) : Type 0 where
  pub trailing : Bool
  pub left : rest (drop at body) ≡ Fields (drop k (fields_on body)) trailing

pub at_start_lem : (body : List ℕ) (t : Bool) → fields_of body ≡ Fields (fields_on body) t → At body 0 0
at_start_lem body t e = record { trailing = t; left = split_rest body (fields_on body) t e }

module _ {body : List ℕ} {at k : ℕ} (v : At body at k) (h : k < length (fields_on body)) where
  pub fields : drop k (fields_on body) ≡ get_or (fields_on body) k [] ∷ drop (k + 1) (fields_on body)
  fields = rw (add-one, drop-cons (fields_on body) k [])

  pub goes : Turn body at (end_of body (at + 1)) (get_or (fields_on body) k []) (drop (k + 1) (fields_on body)) v.trailing
  goes = turn body at (end_of body (at + 1)) (get_or (fields_on body) k []) (drop (k + 1) (fields_on body)) v.trailing (rw fields at v.left) refl

  pub inside : at < length body
  inside = goes.inside

  -- f is what stands there
  module _ {f : List ℕ} (is : f ≡ take (end_of body (at + 1) - (at + 1)) (drop (at + 1) body)) where
    pub field_left : drop k (fields_on body) ≡ f ∷ drop (k + 1) (fields_on body)
    field_left = rw (← goes.field, ← is) at fields

    pub at_next : {e : ℕ} → e ≡ end_of body (at + 1) → At body e (k + 1)
    at_next to = record { trailing = v.trailing; left = rw to (goes.left) }

-- ---- one field

pub answer_done : (i : ℕ) (t : Bool) (p m : ℕ) (fs : List (List ℕ)) → answer_from i t [] p m fs ≡ Ok (t, m)
unfolding answer_from
answer_done i t p m fs = refl

pub values_done : (p m : ℕ) (fs : List (List ℕ)) → values_from [] p m fs ≡ []
unfolding values_from
values_done p m fs = refl

module _ (k : ℕ) (ks : List ℕ) (p m : ℕ) (f : List ℕ) (fs : List (List ℕ)) where
  -- it is read: the walk goes on
  pub answer_read : {v : Value} → read_in k p m f ≡ Ok v → (i : ℕ) (t : Bool)
      → answer_from i t (k ∷ ks) p m (f ∷ fs) ≡ answer_from (i + 1) t ks (trace_of k f) (marks_of k m f) fs
  unfolding answer_from
  answer_read e i t = rw (e, add-one)

  pub values_read : {v : Value} → read_in k p m f ≡ Ok v → values_from (k ∷ ks) p m (f ∷ fs) ≡ v ∷ values_from ks (trace_of k f) (marks_of k m f) fs
  unfolding values_from
  values_read e = rw e

  -- it is not read: its fault is the answer
  pub answer_stop : (x : NotRead) → read_in k p m f ≡ Err x → (i : ℕ) (t : Bool) → Err (fault_at i (Err x)) ≡ answer_from i t (k ∷ ks) p m (f ∷ fs)
  unfolding answer_from
  answer_stop x e i t = rw e (go x (answer_from (suc i) t ks (trace_of k f) (marks_of k m f) fs))
    where
      go : (x : NotRead) (r : Result (Bool × ℕ) Fault) → Err (fault_at i (Err x)) ≡ or_else i (Err x) r
      go Nothing r = refl
      go Number r = refl

  pub values_stop : (x : NotRead) → read_in k p m f ≡ Err x → values_from (k ∷ ks) p m (f ∷ fs) ≡ []
  unfolding values_from
  values_stop x e = rw e (go x (values_from ks (trace_of k f) (marks_of k m f) fs))
    where
      go : (x : NotRead) (vs : List Value) → more (Err x) vs ≡ []
      go Nothing vs = refl
      go Number vs = refl

-- ---- the values in their places

pub values_few : (ks : List ℕ) (p m : ℕ) (fs : List (List ℕ)) → length (values_from ks p m fs) ≤ length ks
unfolding values_from
values_few [] p m fs = omega arith
values_few (k ∷ ks) p m [] = omega arith
values_few (k ∷ ks) p m (f ∷ fs) = go (read_in k p m f) (values_from ks (trace_of k f) (marks_of k m f) fs) (values_few ks (trace_of k f) (marks_of k m f) fs)
  where
    go : (x : Result Value NotRead) (vs : List Value) → length vs ≤ length ks → length (more x vs) ≤ suc (length ks)
    go (Ok v) vs h = omega arith
    go (Err Nothing) vs h = omega arith
    go (Err Number) vs h = omega arith

drop-replicate : {A : Type 0} (n i : ℕ) (a : A) → drop i (replicate n a) ≡ replicate (n - i) a
drop-replicate n zero a = rw sub-zero
drop-replicate zero (suc i) a = rw zero-sub
drop-replicate (suc n) (suc i) a = rw suc-sub-suc (drop-replicate n i a)

-- one value put, and then the others
pub sets_next : (l : List Value) (k : ℕ) (v : Value) (vs : List Value) → sets l k (v ∷ vs) ≡ sets (set l k v) (k + 1) vs
sets_next l k v vs = rw add-one

-- nineteen empty places, of which the first take the values
pub sets_padded : (vs : List Value) → length vs ≤ 19 → sets (replicate 19 none) 0 vs ≡ padded vs
unfolding padded
sets_padded vs h = sets-eq vs (replicate 19 none) 0 (omega (arith, zero-add (length vs))) ∙ rw (zero-add (length vs), drop-replicate 19 (length vs) none)

-- ---- the ways of `read`

-- a body that is refused, or read, from what `refused` and `read` promise
pub through : {A B : Type 0} {r a a' : A} {s b b' : B} → (r ≡ a) × (s ≡ b) → (a ≡ a') × (b ≡ b') → (r ≡ a') × (s ≡ b')
through p q = (p.0 ∙ q.0, p.1 ∙ q.1)

module _ (ks body : List ℕ) where
  pub read_wrong : count_of body ≡ None → (Err Spacing ≡ answer_of ks body) × (padded [] ≡ padded (values_of ks body))
  unfolding answer_of answers values_of values
  read_wrong e = let w = count_wrong body e in (rw w, rw w)

  pub ready : {n : ℕ} {t : Bool} → count_of body ≡ Some (n, t) → n ≡ length ks → n ≤ 19 → Ready ks body t
  ready e h m = let k = count_known body e in record { split = k.0; count = sym k.1 ∙ h; few = omega arith }

  pub read_ready : {t : Bool} → Ready ks body t → (answer_from 1 t ks 0 0 (fields_on body) ≡ answer_of ks body) × (values_from ks 0 0 (fields_on body) ≡ values_of ks body)
  unfolding answer_of answers values_of values counted
  read_ready r =
      let z : eqb (length (fields_on body)) (length ks) ≡ true = eq-eqb (length (fields_on body)) (length ks) r.count in
      let y : leb (length ks) 19 ≡ true = le-leb (length ks) 19 r.few in
      (rw (r.split, z, y), rw (r.split, z, y))

-- ---- the route

-- there is none where the kinds or the fields are at their end
pub route_no_kinds : (p : ℕ) (fs : List (List ℕ)) → route_in [] p fs ≡ []
unfolding route_in
route_no_kinds p fs = refl

pub route_no_fields : (ks : List ℕ) (p : ℕ) → route_in ks p [] ≡ []
unfolding route_in
route_no_fields [] p = refl
route_no_fields (k ∷ ks) p = refl

pub start_no_kinds : (j p : ℕ) (fs : List (List ℕ)) → route_from j [] p fs ≡ 0
unfolding route_from
start_no_kinds j p fs = refl

pub start_no_fields : (j : ℕ) (ks : List ℕ) (p : ℕ) → route_from j ks p [] ≡ 0
unfolding route_from
start_no_fields j [] p = refl
start_no_fields j (k ∷ ks) p = refl

module _ (k : ℕ) (ks : List ℕ) (p : ℕ) (f : List ℕ) (fs : List (List ℕ)) where
  pub route_here : plain k p ≡ ROUTE → route_in (k ∷ ks) p (f ∷ fs) ≡ f
  unfolding route_in
  route_here e = rw (eq-eqb (plain k p) ROUTE e)

  pub route_later : (plain k p ≡ ROUTE → ⊥) → route_in (k ∷ ks) p (f ∷ fs) ≡ route_in ks (trace_of k f) fs
  unfolding route_in
  route_later e = rw (ne_eqb (plain k p) ROUTE e)

  pub start_here : plain k p ≡ ROUTE → (j : ℕ) → route_from j (k ∷ ks) p (f ∷ fs) ≡ j + 1
  unfolding route_from
  start_here e j = rw (eq-eqb (plain k p) ROUTE e)

  pub start_later : (plain k p ≡ ROUTE → ⊥) → (j : ℕ) → route_from j (k ∷ ks) p (f ∷ fs) ≡ route_from (j + 1 + length f) ks (trace_of k f) fs
  unfolding route_from
  start_later e j = rw (ne_eqb (plain k p) ROUTE e)

pub route_wrong : (ks body : List ℕ) → count_of body ≡ None → [] ≡ route_of ks body
unfolding route_of
route_wrong ks body e = rw (count_wrong body e, route_no_fields)

pub start_wrong : (ks body : List ℕ) → count_of body ≡ None → 0 ≡ route_at ks body
unfolding route_at
start_wrong ks body e = rw (count_wrong body e, start_no_fields)
