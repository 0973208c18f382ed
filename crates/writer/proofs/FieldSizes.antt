-- The laws of sizes: a field's, in twelve bytes of its own or as a route; and all fields', from what is left of them. Assumes
-- nothing.
use Rattle.std.specs.Prelude.{Err, None, Option, Some}
use mathlib.Core.Path.{◌≡◌, refl, sym, ap, ◌∙◌}
use mathlib.Core.Bool.{Bool, true, false, cond, ◌&&◌, and_assoc}
use mathlib.Core.List.{List, [], ◌∷◌, ◌++◌}
use Prim.Native.Nat.{ℕ, suc, ◌+◌, ◌≤◌, ◌<◌}
use native.Mathlib.Nat.{zero-add, add-zero}
use native.Mathlib.Numerals.{add-one}
use native.Mathlib.Omega.{arith}
use lib.Dec.{eqb}
use lib.ListN.{length, take, drop, get_or, length-append}
use lib.Seq.{drop-cons, get_or-take, length-take-le}
use borrow.Author.Tests.{eqb-true}
use Rattle.text.specs.Text.{written_next}
use Rattle.text.specs.declared.NotWritten.{NotWritten}
use Rattle.text.specs.declared.NotWritten.TheVariants.{NoRoom, NoText}
use Rattle.text.proofs.Logic.{not_holds}
use Rattle.text.proofs.Laws.{no_room_known, no_text_known}
use Rattle.rules.specs.Form.{is_route}
use Rattle.rules.specs.Frame.{longest_line}
use Rattle.table.specs.Spacing.{body_of}
use Rattle.table.specs.Field.{AMENDMENT, ROUTE, plain, trace_of, marks_of, follows, is_one, is_kind_value, shown_kind, is_value, shown}
use Rattle.table.specs.declared.kinds.Value.{Value}
use Rattle.table.proofs.FieldLaws.{shown_short}
use Rattle.table.specs.Read.{none}
use Rattle.table.specs.Show.{texts_from, allowed_from, marks_from}
use Rattle.writer.specs.Size.{sized_text, sized_field, fields_text, sized_all}

-- ---- one field

-- what has room where it holds, and is not written, does not hold
pub unwritten : {ok : Bool} (vs out : List ℕ) (e : NotWritten) → (ok ≡ true → length vs ≤ length out) → written_next ok vs out 0 ≡ Err e → ok ≡ false
unwritten vs out NoText h e = no_text_known vs out 0 e
unwritten vs out NoRoom h e = let k = no_room_known vs out 0 e in absurd (omega (arith, h k.0, k.1))

pub text_not : (k p m : ℕ) (s : List ℕ) → follows k p m s ≡ false → None ≡ sized_text k p m s
unfolding sized_text
text_not k p m s e = rw e

pub text_good : (k p m : ℕ) (s : List ℕ) {q w : ℕ} → follows k p m s ≡ true → q ≡ trace_of k s → w ≡ marks_of k m s → Some (length s, q, w) ≡ sized_text k p m s
unfolding sized_text
text_good k p m s e l n = rw (e, l, n)

route_plain : (k p : ℕ) → plain k p ≡ ROUTE → eqb k AMENDMENT ≡ false
unfolding plain
route_plain k p e = not_holds (eqb k AMENDMENT) (λ q. let h : AMENDMENT ≡ ROUTE = rw (eqb-true k AMENDMENT q) at e in omega arith)

module _ (k p m : ℕ) (r : List ℕ) (v : Value) where
  pub field_not : is_value k p r v ≡ false → None ≡ sized_field k p m r v
  unfolding sized_field
  field_not e = rw e

  pub field_is : is_value k p r v ≡ true → (s : List ℕ) → s ≡ shown k p r v → sized_text k p m s ≡ sized_field k p m r v
  unfolding sized_field
  field_is e s h = rw (e, h)

-- a route stands beside its value, which keeps nothing
pub route_shown : (k p : ℕ) (r : List ℕ) (v : Value) → plain k p ≡ ROUTE → r ≡ shown k p r v
unfolding shown shown_kind
route_shown k p r v e = rw (route_plain k p e, e)

module _ (k p m : ℕ) (r : List ℕ) (v : Value) (e : plain k p ≡ ROUTE) where
  pub route_not : (is_route r && (eqb v.a 0 && is_one v)) ≡ false → None ≡ sized_field k p m r v
  unfolding is_value is_kind_value
  route_not h = field_not k p m r v (rw (route_plain k p e, e) (and_assoc (is_route r) (eqb v.a 0) (is_one v) ∙ h))

  pub route_is : (is_route r && (eqb v.a 0 && is_one v)) ≡ true → sized_text k p m r ≡ sized_field k p m r v
  unfolding is_value is_kind_value
  route_is h = field_is k p m r v (rw (route_plain k p e, e) (and_assoc (is_route r) (eqb v.a 0) (is_one v) ∙ h)) r (route_shown k p r v e)

-- two triples under Some are equal only part by part
triple_in : ℕ × ℕ × ℕ → Option (ℕ × ℕ × ℕ) → ℕ × ℕ × ℕ
triple_in x (Some t) = t
triple_in x None = x

some_triple : {a b c d e f : ℕ} → ◌≡◌ {A = Option (ℕ × ℕ × ℕ)} (Some (a, b, c)) (Some (d, e, f)) → (a ≡ d) × (b ≡ e) × (c ≡ f)
unfolding triple_in
some_triple {a} {b} {c} q =
    (ap (λ (r : Option (ℕ × ℕ × ℕ)). (triple_in (a, b, c) r).0) q, ap (λ (r : Option (ℕ × ℕ × ℕ)). (triple_in (a, b, c) r).1) q, ap (λ (r : Option (ℕ × ℕ × ℕ)). (triple_in (a, b, c) r).2) q)

-- what a field's size says
module _ (k p m : ℕ) (r : List ℕ) (v : Value) where
  pub field_known : {n q w : ℕ} → sized_field k p m r v ≡ Some (n, q, w)
      → (is_value k p r v ≡ true) × (follows k p m (shown k p r v) ≡ true) × (n ≡ length (shown k p r v)) × (q ≡ trace_of k (shown k p r v)) × (w ≡ marks_of k m (shown k p r v))
  unfolding sized_field sized_text
  field_known {n} {q} {w} e = go (is_value k p r v) refl (follows k p m (shown k p r v)) refl
    where
      go : (a : Bool) → is_value k p r v ≡ a → (b : Bool) → follows k p m (shown k p r v) ≡ b
          → (is_value k p r v ≡ true) × (follows k p m (shown k p r v) ≡ true) × (n ≡ length (shown k p r v)) × (q ≡ trace_of k (shown k p r v)) × (w ≡ marks_of k m (shown k p r v))
      go true x true y =
          let z : ◌≡◌ {A = Option (ℕ × ℕ × ℕ)} (Some (length (shown k p r v), trace_of k (shown k p r v), marks_of k m (shown k p r v))) (Some (n, q, w)) = rw (x, y) at e in
          let s = some_triple z in
          (x, y, sym s.0, sym s.1, sym s.2)
      go true x false y = let z : None ≡ Some (n, q, w) = rw (x, y) at e in ((cc), (cc), (cc), (cc), (cc))
      go false x b y = let z : None ≡ Some (n, q, w) = rw x at e in ((cc), (cc), (cc), (cc), (cc))

  pub field_unknown : sized_field k p m r v ≡ None → (is_value k p r v && follows k p m (shown k p r v)) ≡ false
  unfolding sized_field sized_text
  field_unknown e = go (is_value k p r v) refl (follows k p m (shown k p r v)) refl
    where
      go : (a : Bool) → is_value k p r v ≡ a → (b : Bool) → follows k p m (shown k p r v) ≡ b → (is_value k p r v && follows k p m (shown k p r v)) ≡ false
      go true x true y = let z : Some (length (shown k p r v), trace_of k (shown k p r v), marks_of k m (shown k p r v)) ≡ None = rw (x, y) at e in cc
      go true x false y = rw (x, y)
      go false x b y = rw x

-- every field has at most 2,048 bytes where the route has
pub shown_line : (k p : ℕ) (r : List ℕ) (v : Value) → is_value k p r v ≡ true → length r ≤ longest_line → length (shown k p r v) ≤ longest_line
shown_line k p r v e h = go (eqb (plain k p) ROUTE) refl
  where
    go : (b : Bool) → eqb (plain k p) ROUTE ≡ b → length (shown k p r v) ≤ longest_line
    go true x = rw (← (route_shown k p r v (eqb-true (plain k p) ROUTE x))) h
    go false x = omega (arith, shown_short k p r v e x)

-- ---- all fields, each after a space

-- what is left of the fields after n bytes: p was left by the field before them, and m are the marks set so far
unfoldable pub sized_from : ℕ → List ℕ → ℕ → ℕ → List ℕ → List Value → Option (ℕ × ℕ)
sized_from n ks p m r vs = cond (allowed_from ks p m r vs) (Some (n + length (body_of (texts_from ks p r vs) false), marks_from ks p m r vs)) None

pub from_all : (ks r : List ℕ) (vs : List Value) → sized_from 0 ks 0 0 r vs ≡ sized_all ks r vs
unfolding sized_from sized_all fields_text
from_all ks r vs = rw zero-add

pub from_none : (n p m : ℕ) (r : List ℕ) → sized_from n [] p m r [] ≡ Some (n, m)
unfolding sized_from allowed_from texts_from body_of marks_from
from_none n p m r = rw add-zero

module _ (n k : ℕ) (ks : List ℕ) (p m : ℕ) (r : List ℕ) (v : Value) (vs : List Value) where
  pub from_stops : sized_field k p m r v ≡ None → sized_from n (k ∷ ks) p m r (v ∷ vs) ≡ None
  unfolding sized_from allowed_from
  from_stops e = rw (field_unknown k p m r v e)

  pub from_next : {l q w : ℕ} → sized_field k p m r v ≡ Some (l, q, w) → sized_from n (k ∷ ks) p m r (v ∷ vs) ≡ sized_from (n + (l + 1)) ks q w r vs
  unfolding sized_from allowed_from texts_from body_of marks_from
  from_next {l} {q} {w} e =
      let h = field_known k p m r v e in
      let s : n + suc (length (shown k p r v ++ body_of (texts_from ks (trace_of k (shown k p r v)) r vs) false)) ≡ n + (l + 1) + length (body_of (texts_from ks (trace_of k (shown k p r v)) r vs) false) =
      omega (arith, h.2, length-append (shown k p r v) (body_of (texts_from ks (trace_of k (shown k p r v)) r vs) false)) in
      rw (h.0, h.1, s, ← h.3, ← h.4)

-- ---- values

pub next_value : (vs : List Value) (k : ℕ) → k < length vs → drop k vs ≡ get_or vs k none ∷ drop (k + 1) vs
next_value vs k h = rw (add-one, drop-cons vs k none)

-- the next of the first l
pub next_taken : (l : ℕ) (vs : List Value) (k : ℕ) → k < l → l ≤ length vs → drop k (take l vs) ≡ get_or vs k none ∷ drop (k + 1) (take l vs)
next_taken l vs k h s =
    let e : k < length (take l vs) = omega (arith, length-take-le l vs s) in
    next_value (take l vs) k e ∙ rw (get_or-take l vs k none h)
