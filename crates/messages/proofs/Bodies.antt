-- A typed body and the values of its fields give each other: from a body to values and back, and from the values that
-- some text gives to a body and back. Assumes nothing.
use mathlib.Core.Path.{◌≡◌, refl, sym, ap, ◌∙◌, subst}
use mathlib.Core.Bool.{Bool, true, false, cond, not, ◌&&◌, ◌||◌}
use mathlib.Core.List.{List, [], ◌∷◌, ◌++◌}
use Prim.Native.Nat.{ℕ, zero, suc, ◌+◌, ◌-◌, ◌/◌, ◌%◌, ◌≤◌}
use native.Mathlib.Nat.{le_of_suc-le-suc}
use native.Mathlib.Omega.{arith}
use lib.Dec.{eqb, leb}
use lib.ListN.{length, take, drop, replicate, length-append, length-take, length-drop, length-replicate, take-append-drop}
use lib.Seq.{length-take-le, take_at, drop_at}
use borrow.Author.Tests.{eqb-true, leb-true}
use Rattle.text.proofs.Logic.{and_left, and_right, true_false}
use Rattle.rules.specs.Form.{is_route}
use Rattle.rules.specs.Kind.{POINT, TIME}
use Rattle.fields.specs.Word.{is_word}
use Rattle.fields.specs.Ident.{is_ident_value}
use Rattle.fields.specs.Aircraft.{is_aircraft_value, is_letter_by}
use Rattle.fields.specs.declared.heads.MessageType.{MessageType}
use Rattle.fields.specs.declared.heads.MessageType.TheVariants as type
use Rattle.table.specs.Field.{AMENDMENT, IDENT, TZ_IDENT, AIRCRAFT, ROUTE, PLAN_TIME, CONTENT, OLD_AIRCRAFT, OLD_CONTENT, kind_by, valued, ident_in, aircraft_in, is_one, is_two, is_mark, content_of, plain, trace_of, marks_of, follows, is_kind_value, is_value, shown}
use Rattle.table.specs.declared.kinds.Value.{Value}
use Rattle.table.proofs.Eight.{mark_text_lem}
use Rattle.table.specs.Read.{none, padded}
use Rattle.table.specs.Show.{allowed_from}
use Rattle.rules.specs.declared.Rule.{Rule}
use Rattle.rules.specs.declared.Rule.TheVariants.{New, Old}
use Rattle.table.specs.Table.{amendments, count_with, is_count, table_of, kinds_of}
use Rattle.table.proofs.TableWays.{count_kinds}
use Rattle.table.proofs.Tables.{table_length}
use Rattle.table.proofs.KindRules.{is_content}
use Rattle.table.proofs.OldKinds.{kinds_allowed}
use Rattle.table.proofs.Tables.{marks_kept}
use Rattle.messages.specs.Body.{at, af_from, body_from, type_in, value_of_word, slots, field_count, values_in, spare, marks_in}
use Rattle.messages.specs.Allowed.{all_none}
use Rattle.messages.specs.declared.Body.{Body}
use Rattle.messages.specs.declared.Body.TheVariants as body

-- ---- a value of a kind has nothing in the parts that its kind does not use

one_is : (v : Value) → is_one v ≡ true → valued v.a 0 0 ≡ v
unfolding is_one
one_is v e =
    let p : v.b ≡ 0 = eqb-true v.b 0 (and_left (eqb v.b 0) (eqb v.c 0) e) in
    let q : v.c ≡ 0 = eqb-true v.c 0 (and_right (eqb v.b 0) (eqb v.c 0) e) in
    λ x. record { a = v.a; b = sym p x; c = sym q x }

two_is : (v : Value) → is_two v ≡ true → valued v.a v.b 0 ≡ v
unfolding is_two
two_is v e = λ x. record { a = v.a; b = v.b; c = sym (eqb-true v.c 0 e) x }

pub none_is : (v : Value) → eqb v.a 0 ≡ true → is_one v ≡ true → none ≡ v
none_is v e f = ap value_of_word (sym (eqb-true v.a 0 e)) ∙ one_is v f

-- what is kept of a value of the kind k
abbrev pub canon : ℕ → Value → Value
canon k v =
    cond (eqb k IDENT) (valued v.a v.b 0)
    (cond (eqb k TZ_IDENT) (valued v.a v.b 0)
    (cond (eqb k AIRCRAFT) v (cond (eqb k OLD_AIRCRAFT) v (cond (eqb k ROUTE) none (valued v.a 0 0)))))

pub is_canon : (k : ℕ) (r : List ℕ) (v : Value) → is_kind_value k r v ≡ true → canon k v ≡ v
unfolding is_kind_value
is_canon k r v = go (eqb k IDENT) (eqb k TZ_IDENT) (eqb k AIRCRAFT) (eqb k OLD_AIRCRAFT) (eqb k ROUTE)
  where
    go : (i t z y o : Bool)
        → cond i (is_ident_value (ident_in v) && is_two v) (cond t (is_ident_value (ident_in v) && not (eqb v.b 0) && is_two v)
        (cond z (is_aircraft_value (aircraft_in v)) (cond y (is_aircraft_value (aircraft_in v) && is_letter_by Old v.c) (cond o (is_route r && eqb v.a 0 && is_one v) (is_word k v.a && is_one v))))) ≡ true
        → cond i (valued v.a v.b 0) (cond t (valued v.a v.b 0) (cond z v (cond y v (cond o none (valued v.a 0 0))))) ≡ v
    go true t z y o e = two_is v (and_right (is_ident_value (ident_in v)) (is_two v) e)
    go false true z y o e = two_is v (and_right (is_ident_value (ident_in v) && not (eqb v.b 0)) (is_two v) e)
    go false false true y o e = refl
    go false false false true o e = refl
    go false false false false true e =
        let f = and_left (is_route r && eqb v.a 0) (is_one v) e in
        none_is v (and_right (is_route r) (eqb v.a 0) f) (and_right (is_route r && eqb v.a 0) (is_one v) e)
    go false false false false false e = one_is v (and_right (is_word k v.a) (is_one v) e)

-- ---- nineteen values

pub nones_none : (n : ℕ) → all_none (replicate n none) ≡ true
unfolding is_one
nones_none zero = refl
nones_none (suc n) = nones_none n

none_first : (v : Value) (l : List Value) → all_none (v ∷ l) ≡ true → none ≡ v
none_first v l e =
    let f = and_left (eqb v.a 0 && is_one v) (all_none l) e in
    none_is v (and_left (eqb v.a 0) (is_one v) f) (and_right (eqb v.a 0) (is_one v) f)

none_rest : (v : Value) (l : List Value) → all_none (v ∷ l) ≡ true → all_none l ≡ true
none_rest v l e = and_right (eqb v.a 0 && is_one v) (all_none l) e

pub all_none_lem : (l : List Value) → all_none l ≡ true → replicate (length l) none ≡ l
all_none_lem [] e = refl
all_none_lem (v ∷ l) e = ap (λ (w : Value). w ∷ replicate (length l) none) (none_first v l e) ∙ ap (λ (k : List Value). v ∷ k) (all_none_lem l (none_rest v l e))

-- nineteen values of which all after the first n are none are the first n, padded
pub padded_take : (n : ℕ) (l : List Value) → length l ≡ 19 → all_none (drop n l) ≡ true → padded (take n l) ≡ l
unfolding padded
padded_take n l h e =
    let s : 19 - length (take n l) ≡ length (drop n l) = omega (arith, length-take n l, length-drop n l) in
    ap (λ (k : ℕ). take n l ++ replicate k none) s ∙ ap (λ (k : List Value). take n l ++ k) (all_none_lem (drop n l) e) ∙ take-append-drop n l

-- ---- from a body to the values and back

pub slots_length : (b : Body) → length (slots b) ≡ 19
unfolding slots
slots_length (body.Af m) = refl
slots_length (body.Az m) = refl
slots_length (body.Dz m) = refl
slots_length (body.Fz p) = refl
slots_length (body.Rz m) = refl
slots_length (body.Tz m) = refl
slots_length (body.Uz p) = refl
slots_length body.Rt = refl
slots_length body.To = refl
slots_length body.Hb = refl

pub from_slots : (b : Body) → body_from (type_in b) (marks_in b) (slots b) ≡ b
unfolding body_from slots
from_slots (body.Af m) = refl
from_slots (body.Az m) = refl
from_slots (body.Dz m) = refl
from_slots (body.Fz p) = refl
from_slots (body.Rz m) = refl
from_slots (body.Tz m) = refl
from_slots (body.Uz p) = refl
from_slots body.Rt = refl
from_slots body.To = refl
from_slots body.Hb = refl

pub body_back : (b : Body) → all_none (spare b) ≡ true → body_from (type_in b) (marks_in b) (padded (values_in b)) ≡ b
unfolding values_in spare
body_back b e = ap (λ (w : List Value). body_from (type_in b) (marks_in b) w) (padded_take (field_count b) (slots b) (slots_length b) e) ∙ from_slots b

-- ---- what a body that is made of values is

pub type_from : (t : MessageType) (m : ℕ) (w : List Value) → type_in (body_from t m w) ≡ t
unfolding body_from
type_from type.Af m w = refl
type_from type.Az m w = refl
type_from type.Dz m w = refl
type_from type.Fz m w = refl
type_from type.Rz m w = refl
type_from type.Tz m w = refl
type_from type.Uz m w = refl
type_from type.Rt m w = refl
type_from type.To m w = refl
type_from type.Hb m w = refl

-- only an AF keeps the marks
pub marks_from_lem : (t : MessageType) (m : ℕ) (w : List Value) → marks_in (body_from t m w) ≡ marks_kept t m
unfolding body_from
marks_from_lem type.Af m w = refl
marks_from_lem type.Az m w = refl
marks_from_lem type.Dz m w = refl
marks_from_lem type.Fz m w = refl
marks_from_lem type.Rz m w = refl
marks_from_lem type.Tz m w = refl
marks_from_lem type.Uz m w = refl
marks_from_lem type.Rt m w = refl
marks_from_lem type.To m w = refl
marks_from_lem type.Hb m w = refl

-- ---- values that some body gives, one after the other

module _ (k : ℕ) (ks : List ℕ) (p m : ℕ) (r : List ℕ) (v : Value) (vs : List Value) (e : allowed_from (k ∷ ks) p m r (v ∷ vs) ≡ true) where
  pub allowed_first : is_value k p r v ≡ true
  unfolding allowed_from
  allowed_first =
      and_left (is_value k p r v) (follows k p m (shown k p r v))
      (and_left (is_value k p r v && follows k p m (shown k p r v)) (allowed_from ks (trace_of k (shown k p r v)) (marks_of k m (shown k p r v)) r vs) e)

  pub allowed_rest : allowed_from ks (trace_of k (shown k p r v)) (marks_of k m (shown k p r v)) r vs ≡ true
  unfolding allowed_from
  allowed_rest = and_right (is_value k p r v && follows k p m (shown k p r v)) (allowed_from ks (trace_of k (shown k p r v)) (marks_of k m (shown k p r v)) r vs) e

-- as many values as kinds
pub allowed_length : (ks : List ℕ) (p m : ℕ) (r : List ℕ) (vs : List Value) → allowed_from ks p m r vs ≡ true → length vs ≡ length ks
unfolding allowed_from
allowed_length [] p m r [] e = refl
allowed_length [] p m r (v ∷ vs) e = true_false e refl
allowed_length (k ∷ ks) p m r [] e = true_false e refl
allowed_length (k ∷ ks) p m r (v ∷ vs) e = ap suc (allowed_length ks _ _ r vs (allowed_rest k ks p m r v vs e))

-- ---- from values to a body and back: the types with one count of fields

-- no amendment is among the kinds
abbrev single : List ℕ → Bool
single [] = true
single (k ∷ ks) = not (eqb k AMENDMENT) && not (is_content k) && single ks

-- what is kept of the values f 0, f 1, .. by their kinds
abbrev canon_from : List ℕ → (ℕ → Value) → List Value
canon_from [] f = []
canon_from (k ∷ ks) f = canon (plain k 0) (f 0) ∷ canon_from ks (λ i. f (suc i))

-- a field that is no amendment's is read by its own kind, whatever was left before it
kind_value : (k p : ℕ) (r : List ℕ) (v : Value) → not (eqb k AMENDMENT) ≡ true → not (is_content k) ≡ true → is_value k p r v ≡ true → is_kind_value (plain k 0) r v ≡ true
unfolding is_value plain
kind_value k p r v = go (eqb k AMENDMENT) (eqb k CONTENT) (eqb k OLD_CONTENT)
  where
    go : (a c d : Bool) → not a ≡ true → not (c || d) ≡ true
        → cond a (is_mark v.a && is_one v) (is_kind_value (cond c (content_of p) (cond d (kind_by Old (content_of p)) (cond (eqb k PLAN_TIME) TIME k))) r v) ≡ true
        → is_kind_value (cond c (content_of 0) (cond d (kind_by Old (content_of 0)) (cond (eqb k PLAN_TIME) TIME k))) r v ≡ true
    go false false false f g e = e
    go false false true f g e = true_false g refl
    go false true d f g e = true_false g refl
    go true c d f g e = true_false f refl

canons : (ks : List ℕ) (p m : ℕ) (r : List ℕ) (vs more : List Value) → single ks ≡ true → allowed_from ks p m r vs ≡ true → canon_from ks (at (vs ++ more)) ≡ vs
unfolding allowed_from
canons [] p m r [] more s e = refl
canons [] p m r (v ∷ vs) more s e = true_false e refl
canons (k ∷ ks) p m r [] more s e = true_false e refl
canons (k ∷ ks) p m r (v ∷ vs) more s e =
    let f = and_left (not (eqb k AMENDMENT) && not (is_content k)) (single ks) s in
    let g = kind_value k p r v (and_left (not (eqb k AMENDMENT)) (not (is_content k)) f) (and_right (not (eqb k AMENDMENT)) (not (is_content k)) f) (allowed_first k ks p m r v vs e) in
    let h = canons ks (trace_of k (shown k p r v)) (marks_of k m (shown k p r v)) r vs more (and_right (not (eqb k AMENDMENT) && not (is_content k)) (single ks) s) (allowed_rest k ks p m r v vs e) in
    λ x. is_canon (plain k 0) r v g x ∷ h x

fixed_slots : (t : MessageType) (k n : ℕ) (r : List ℕ) (vs : List Value) → single (take k (table_of t)) ≡ true → eqb n k ≡ true → allowed_from (take n (table_of t)) 0 0 r vs ≡ true → padded (canon_from (take k (table_of t)) (at (padded vs))) ≡ padded vs
unfolding padded
fixed_slots t k n r vs s c e =
    ap padded (canons (take k (table_of t)) 0 0 r vs (replicate (19 - length vs) none) s (subst (λ (i : ℕ). allowed_from (take i (table_of t)) 0 0 r vs ≡ true) (eqb-true n k c) e))

-- ---- the same for an AF, by pairs

abbrev pub double : ℕ → ℕ
double zero = zero
double (suc j) = suc (suc (double j))

pub double_is : (j : ℕ) → double j ≡ j + j
double_is zero = refl
double_is (suc j) = omega (arith, double_is j)

amendments_length : (j : ℕ) → length (amendments j) ≡ double j
amendments_length zero = refl
amendments_length (suc j) = ap (λ (n : ℕ). suc (suc n)) (amendments_length j)

pub take-amendments : (j t : ℕ) → j ≤ t → take (double j) (amendments t) ≡ amendments j
take-amendments zero t h = refl
take-amendments (suc j) zero h = absurd (omega arith)
take-amendments (suc j) (suc t) h = ap (λ (l : List ℕ). AMENDMENT ∷ CONTENT ∷ l) (take-amendments j t (le_of_suc-le-suc h))

-- the numbers and contents of t amendments that are made of the values f 0, f 1, ..
abbrev pairs_from : ℕ → (ℕ → Value) → List Value
pairs_from zero f = []
pairs_from (suc t) f = value_of_word (f 0).a ∷ f 1 ∷ pairs_from t (λ i. f (suc (suc i)))

pairs_none : (t : ℕ) (l : List Value) → length l ≡ double t → all_none l ≡ true → pairs_from t (at l) ≡ l
pairs_none zero [] h e = refl
pairs_none zero (v ∷ l) h e = absurd (omega arith)
pairs_none (suc t) [] h e = absurd (omega arith)
pairs_none (suc t) (n ∷ []) h e = absurd (omega arith)
pairs_none (suc t) (n ∷ v ∷ l) h e =
    let p : value_of_word n.a ≡ n = one_is n (and_right (eqb n.a 0) (is_one n) (and_left (eqb n.a 0 && is_one n) (all_none (v ∷ l)) e)) in
    let i = pairs_none t l (omega arith) (none_rest v l (none_rest n (v ∷ l) e)) in
    λ x. p x ∷ v ∷ i x

-- a number's value is a mark alone, and what it leaves is that mark
pub mark_value : (p : ℕ) (r : List ℕ) (n : Value) → is_value AMENDMENT p r n ≡ true → (is_mark n.a ≡ true) × (is_one n ≡ true) × (trace_of AMENDMENT (shown AMENDMENT p r n) ≡ n.a)
unfolding is_value trace_of shown
mark_value p r n e =
    let m = and_left (is_mark n.a) (is_one n) e in
    (m, and_right (is_mark n.a) (is_one n) e, mark_text_lem n.a m)

-- the pairs that some body gives, and none after them
pairs_back : (t j p m : ℕ) (r : List ℕ) (vs more : List Value) → length (vs ++ more) ≡ double t → all_none more ≡ true → allowed_from (amendments j) p m r vs ≡ true → pairs_from t (at (vs ++ more)) ≡ vs ++ more
unfolding allowed_from
pairs_back t zero p m r [] more h q e = pairs_none t more h q
pairs_back t zero p m r (n ∷ vs) more h q e = true_false e refl
pairs_back t (suc j) p m r [] more h q e = true_false e refl
pairs_back t (suc j) p m r (n ∷ []) more h q e = true_false (allowed_rest AMENDMENT (CONTENT ∷ amendments j) p m r n [] e) refl
pairs_back zero (suc j) p m r (n ∷ v ∷ vs) more h q e = absurd (omega arith)
pairs_back (suc t) (suc j) p m r (n ∷ v ∷ vs) more h q e =
    let f = allowed_rest AMENDMENT (CONTENT ∷ amendments j) p m r n (v ∷ vs) e in
    let g = one_is n (mark_value p r n (allowed_first AMENDMENT (CONTENT ∷ amendments j) p m r n (v ∷ vs) e)).1 in
    let i = pairs_back t j _ _ r vs more (omega arith) q (allowed_rest CONTENT (amendments j) _ _ r v vs f) in
    λ x. g x ∷ v ∷ i x

-- a count of fields that an AF may have is three and some pairs, at most eight
pub count_pairs : (n : ℕ) → is_count type.Af n ≡ true → (n ≡ suc (suc (suc (double ((n - 3) / 2))))) × ((n - 3) / 2 ≤ 8)
unfolding is_count
count_pairs n c =
    let b = and_left (leb 5 n && leb n 19) (eqb (n % 2) 1) c in
    let l : 5 ≤ n = leb-true 5 n (and_left (leb 5 n) (leb n 19) b) in
    let u : n ≤ 19 = leb-true n 19 (and_right (leb 5 n) (leb n 19) b) in
    let o : n % 2 ≡ 1 = eqb-true (n % 2) 1 (and_right (leb 5 n && leb n 19) (eqb (n % 2) 1) c) in
    let d = double_is ((n - 3) / 2) in
    (omega arith, omega arith)

-- of values by the kinds of three fields and j pairs
af_slots_lem : (j m : ℕ) (r : List ℕ) (vs : List Value) → j ≤ 8 → allowed_from (IDENT ∷ POINT ∷ POINT ∷ amendments j) 0 0 r vs ≡ true → slots (body.Af (af_from m (padded vs))) ≡ padded vs
unfolding slots padded allowed_from is_value plain
af_slots_lem j m r [] h e = true_false e refl
af_slots_lem j m r (i ∷ []) h e = true_false (allowed_rest IDENT (POINT ∷ POINT ∷ amendments j) 0 0 r i [] e) refl
af_slots_lem j m r (i ∷ a ∷ []) h e = true_false (allowed_rest POINT (POINT ∷ amendments j) _ _ r a [] (allowed_rest IDENT (POINT ∷ POINT ∷ amendments j) 0 0 r i (a ∷ []) e)) refl
af_slots_lem j m r (i ∷ a ∷ b ∷ vs) h e =
    let more : List Value = replicate (19 - suc (suc (suc (length vs)))) none in
    let f = allowed_rest IDENT (POINT ∷ POINT ∷ amendments j) 0 0 r i (a ∷ b ∷ vs) e in
    let g = allowed_rest POINT (POINT ∷ amendments j) _ _ r a (b ∷ vs) f in
    let k = allowed_rest POINT (amendments j) _ _ r b vs g in
    let l : length (vs ++ more) ≡ double 8 = omega (arith, length-append vs more, length-replicate (19 - suc (suc (suc (length vs)))) none, allowed_length (amendments j) _ _ r vs k, amendments_length j, double_is j) in
    let ps = pairs_back 8 j _ _ r vs more l (nones_none (19 - suc (suc (suc (length vs))))) k in
    λ x. is_canon IDENT r i (allowed_first IDENT (POINT ∷ POINT ∷ amendments j) 0 0 r i (a ∷ b ∷ vs) e) x ∷ is_canon POINT r a (allowed_first POINT (POINT ∷ amendments j) _ _ r a (b ∷ vs) f) x ∷ is_canon POINT r b (allowed_first POINT (amendments j) _ _ r b vs g) x ∷ ps x

-- ---- THE LAWS: from values to a body and back

pub slots_back : (t : MessageType) (n m : ℕ) (r : List ℕ) (vs : List Value) → is_count t n ≡ true → allowed_from (take n (table_of t)) 0 0 r vs ≡ true → slots (body_from t m (padded vs)) ≡ padded vs
unfolding is_count count_with slots body_from padded plain
slots_back type.Af n m r vs c e =
    let h = count_pairs n c in
    let f = subst (λ (i : ℕ). allowed_from (take i (table_of type.Af)) 0 0 r vs ≡ true) h.0 e in
    af_slots_lem ((n - 3) / 2) m r vs h.1 (subst (λ (ks : List ℕ). allowed_from (IDENT ∷ POINT ∷ POINT ∷ ks) 0 0 r vs ≡ true) (take-amendments ((n - 3) / 2) 8 h.1) f)
slots_back type.Az n m r vs c e = fixed_slots type.Az 4 n r vs refl c e
slots_back type.Dz n m r vs c e = fixed_slots type.Dz 6 n r vs refl c e
slots_back type.Fz n m r vs c e = fixed_slots type.Fz 7 n r vs refl c e
slots_back type.Rz n m r vs c e = fixed_slots type.Rz 3 n r vs refl c e
slots_back type.Tz n m r vs c e = fixed_slots type.Tz 4 n r vs refl c e
slots_back type.Uz n m r vs c e = fixed_slots type.Uz 7 n r vs refl c e
slots_back type.Rt n m r vs c e = fixed_slots type.Rt 0 n r vs refl c e
slots_back type.To n m r vs c e = fixed_slots type.To 0 n r vs refl c e
slots_back type.Hb n m r vs c e = fixed_slots type.Hb 0 n r vs refl c e

-- whatever the rule
pub values_back : (ρ : Rule) (t : MessageType) (n m : ℕ) (r : List ℕ) (vs : List Value) → is_count t n ≡ true → allowed_from (kinds_of ρ t n) 0 0 r vs ≡ true → field_count (body_from t m (padded vs)) ≡ n → (values_in (body_from t m (padded vs)) ≡ vs) × (all_none (spare (body_from t m (padded vs))) ≡ true)
unfolding values_in spare padded
values_back ρ t n m r vs c e' k =
    let e = kinds_allowed ρ t n 0 0 r vs e' in
    let b = body_from t m (padded vs) in
    let more : List Value = replicate (19 - length vs) none in
    let l : length vs ≡ field_count b = allowed_length (take n (table_of t)) 0 0 r vs e ∙ length-take-le n (table_of t) (rw (table_length New t) at (count_kinds New t n c)) ∙ sym k in
    let s = slots_back t n m r vs c e in
    (ap (take (field_count b)) s ∙ take_at vs more (field_count b) l, ap (λ (w : List Value). all_none (drop (field_count b) w)) s ∙ ap all_none (drop_at vs more (field_count b) l) ∙ nones_none (19 - length vs))
