-- The amendments of an AF that a line can have, one after the other: what is held of each and its type give each other, and which of its fields
-- they are. Assumes nothing.
use mathlib.Core.Path.{◌≡◌, refl, sym, ap, ◌∙◌, subst}
use mathlib.Core.Bool.{true}
use mathlib.Core.List.{List, [], ◌∷◌, map}
use Prim.Native.Nat.{ℕ, zero, suc, ◌+◌, ◌*◌, ◌≤◌}
use native.Mathlib.Omega.{arith}
use lib.Count.{ones}
use lib.ListN.{take}
use Rattle.text.proofs.Logic.{true_false}
use Rattle.rules.specs.Kind.{POINT}
use Rattle.rules.specs.declared.Rule.{Rule}
use Rattle.rules.specs.declared.Rule.TheVariants.{New, Old}
use Rattle.fields.specs.declared.heads.MessageType.TheVariants as type
use Rattle.table.specs.Field.{AMENDMENT, IDENT, CONTENT, kind_by, is_mark, content_of, plain, is_kind_value, is_value}
use Rattle.table.specs.declared.kinds.Value.{Value}
use Rattle.table.proofs.Eight.{each_mark}
use Rattle.table.proofs.OldKinds.{kind_allowed}
use Rattle.table.proofs.Tables.{kinds_by}
use Rattle.table.specs.Show.{allowed_from}
use Rattle.table.specs.Table.{amendments, count_with, is_count, table_of, kinds_of}
use Rattle.messages.specs.Body.{amended_in, held_from, held_of, value_of_word, value_of_ident, slots_of, pairs_of, slots, field_count, values_in}
use Rattle.messages.specs.declared.Amended.{Amended}
use Rattle.messages.specs.declared.Amended.TheVariants as amended
use Rattle.messages.specs.declared.Amendment.{Amendment}
use Rattle.messages.specs.declared.Af.{Af}
use Rattle.messages.specs.declared.Body.TheVariants as body
use Rattle.messages.proofs.Bodies.{is_canon, allowed_first, allowed_rest, double, double_is, take-amendments, mark_value, count_pairs}

-- an amendment that is held gives back its content
pub amended_back : (x : Amended) → amended_in (held_of x) ≡ x
unfolding amended_in
amended_back (amended.Ident i) = refl
amended_back (amended.Aircraft x) = refl
amended_back (amended.Speed x) = refl
amended_back (amended.Fix x) = refl
amended_back (amended.Time x) = refl
amended_back (amended.Assigned x) = refl
amended_back (amended.Requested x) = refl
amended_back amended.Route = refl
amended_back amended.Nothing = refl

-- and the type of an amendment that some text gives keeps its mark and its content
amended_on : (v : Value) (r : List ℕ) (m : ℕ) → is_mark m ≡ true → is_kind_value (content_of m) r v ≡ true → held_of (amended_in (held_from (value_of_word m) v)) ≡ held_from (value_of_word m) v
unfolding amended_in content_of
amended_on v r =
    each_mark (λ (m : ℕ). is_kind_value (content_of m) r v ≡ true → held_of (amended_in (held_from (value_of_word m) v)) ≡ held_from (value_of_word m) v)
    (λ q. ap (held_from (value_of_word 1)) (is_canon (content_of 1) r v q))
    (λ q. ap (held_from (value_of_word 2)) (is_canon (content_of 2) r v q))
    (λ q. ap (held_from (value_of_word 4)) (is_canon (content_of 4) r v q))
    (λ q. ap (held_from (value_of_word 8)) (is_canon (content_of 8) r v q))
    (λ q. ap (held_from (value_of_word 16)) (is_canon (content_of 16) r v q))
    (λ q. ap (held_from (value_of_word 32)) (is_canon (content_of 32) r v q))
    (λ q. ap (held_from (value_of_word 64)) (is_canon (content_of 64) r v q))
    (λ q. ap (held_from (value_of_word 128)) (is_canon (content_of 128) r v q))

-- the first of some amendments that a line can have: its number is a mark, its content what this asks for, and the others may follow
-- j amendments under the rule
abbrev pub amendments_by : Rule → ℕ → List ℕ
amendments_by ρ j = map (kind_by ρ) (amendments j)

pub record Leads (ρ : Rule) (x : Amendment) (j : ℕ) (r : List ℕ) (xs : List Amendment) : Type 0 where
  pub number : is_mark x.mark ≡ true
  pub value : is_kind_value (kind_by ρ (content_of x.mark)) r x.content ≡ true
  pub left : ℕ
  pub marks_left : ℕ
  pub others : allowed_from (amendments_by ρ j) left marks_left r (pairs_of xs) ≡ true

amendment_by : (ρ : Rule) → kind_by ρ AMENDMENT ≡ AMENDMENT
amendment_by New = refl
amendment_by Old = refl

content_value : (ρ : Rule) (p : ℕ) (r : List ℕ) (v : Value) → is_value (kind_by ρ CONTENT) p r v ≡ is_kind_value (kind_by ρ (content_of p)) r v
unfolding is_value plain
content_value New p r v = refl
content_value Old p r v = refl

pub leads : (ρ : Rule) (j p m : ℕ) (r : List ℕ) (x : Amendment) (xs : List Amendment) → allowed_from (amendments_by ρ (suc j)) p m r (pairs_of (x ∷ xs)) ≡ true → Leads ρ x j r xs
leads ρ j p m r x xs e' =
    let n = value_of_word x.mark in
    let vs = x.content ∷ pairs_of xs in
    let ks = kind_by ρ CONTENT ∷ amendments_by ρ j in
    let e : allowed_from (AMENDMENT ∷ ks) p m r (n ∷ vs) ≡ true = rw (amendment_by ρ) at e' in
    let k = mark_value p r n (allowed_first AMENDMENT ks p m r n vs e) in
    let f = allowed_rest AMENDMENT ks p m r n vs e in
    let g = allowed_first (kind_by ρ CONTENT) (amendments_by ρ j) _ _ r x.content (pairs_of xs) f in
    record {
      number = k.0;
      value = subst (λ (q : ℕ). is_kind_value (kind_by ρ (content_of q)) r x.content ≡ true) k.2 (sym (content_value ρ _ r x.content) ∙ g);
      left = _;
      marks_left = _;
      others = allowed_rest (kind_by ρ CONTENT) (amendments_by ρ j) _ _ r x.content (pairs_of xs) f;
    }

amended_all : (ρ : Rule) (j p m : ℕ) (r : List ℕ) (xs : List Amendment) → allowed_from (amendments_by ρ j) p m r (pairs_of xs) ≡ true → map (λ (x : Amendment). held_of (amended_in x)) xs ≡ xs
unfolding allowed_from
amended_all ρ j p m r [] e = refl
amended_all ρ zero p m r (x ∷ xs) e = true_false e refl
amended_all ρ (suc j) p m r (x ∷ xs) e =
    let f = leads ρ j p m r x xs e in
    let h = amended_on x.content r x.mark f.number (kind_allowed ρ (content_of x.mark) r x.content f.value) in
    let i = amended_all ρ j f.left f.marks_left r xs f.others in
    λ z. h z ∷ i z

pub take_pairs : (j : ℕ) (xs : List Amendment) → take (double j) (pairs_of xs) ≡ pairs_of (take j xs)
take_pairs zero xs = refl
take_pairs (suc j) [] = refl
take_pairs (suc j) (x ∷ xs) = ap (λ (l : List Value). value_of_word x.mark ∷ x.content ∷ l) (take_pairs j xs)

-- the fields of an AF: its ident, two points, and as many amendments as marks are set
module _ (a : Af) (c : is_count type.Af (field_count (body.Af a)) ≡ true) where
  abbrev pub some : ℕ
  some = ones a.marks

  count : (field_count (body.Af a) ≡ suc (suc (suc (double some)))) × (some ≤ 8)
  unfolding field_count count_with
  count = (omega (arith, double_is some), omega (arith, (count_pairs (3 + 2 * some) c).1))

  pub af_kinds : take (field_count (body.Af a)) (table_of type.Af) ≡ IDENT ∷ POINT ∷ POINT ∷ amendments some
  af_kinds = rw count.0 (ap (λ (ks : List ℕ). IDENT ∷ POINT ∷ POINT ∷ ks) (take-amendments some 8 count.1))

  pub af_values : values_in (body.Af a) ≡ value_of_ident a.ident ∷ value_of_word a.from.0 ∷ value_of_word a.to.0 ∷ pairs_of (take some (slots_of a))
  unfolding values_in slots
  af_values = rw count.0 (ap (λ (vs : List Value). value_of_ident a.ident ∷ value_of_word a.from.0 ∷ value_of_word a.to.0 ∷ vs) (take_pairs some (slots_of a)))

  -- what the first three leave may be anything
  pub af_amendments : (ρ : Rule) (r : List ℕ) → allowed_from (kinds_of ρ type.Af (field_count (body.Af a))) 0 0 r (values_in (body.Af a)) ≡ true
      → (p : ℕ) × (m : ℕ) × (allowed_from (amendments_by ρ some) p m r (pairs_of (take some (slots_of a))) ≡ true)
  af_amendments ρ r e =
      let f = value_of_word a.from.0 in
      let t = value_of_word a.to.0 in
      let ps = pairs_of (take some (slots_of a)) in
      let point = kind_by ρ POINT in
      let x = allowed_rest (kind_by ρ IDENT) (point ∷ point ∷ amendments_by ρ some) 0 0 r (value_of_ident a.ident) (f ∷ t ∷ ps) (rw (kinds_by ρ type.Af (field_count (body.Af a)), af_kinds, af_values) at e) in
      (_, _, allowed_rest point (amendments_by ρ some) _ _ r t ps (allowed_rest point (point ∷ amendments_by ρ some) _ _ r f (t ∷ ps) x))

-- THE LAW of typed amendments: those of an AF that a line can have are what their types keep
pub amendments_kept : (ρ : Rule) (a : Af) (r : List ℕ) → is_count type.Af (field_count (body.Af a)) ≡ true → allowed_from (kinds_of ρ type.Af (field_count (body.Af a))) 0 0 r (values_in (body.Af a)) ≡ true
    → map (λ (x : Amendment). held_of (amended_in x)) (take (ones a.marks) (slots_of a)) ≡ take (ones a.marks) (slots_of a)
amendments_kept ρ a r c e =
    let (p, m, x) = af_amendments a c ρ r e in
    amended_all ρ (ones a.marks) p m r (take (ones a.marks) (slots_of a)) x
