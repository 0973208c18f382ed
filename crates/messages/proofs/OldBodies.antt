-- THE LAW of the old feed's bodies (document 02, l): none has an aircraft with a last letter, in DZ, in FZ, in UZ or in an amendment 03, nor an AZ whose
-- clock has a prefix. Assumes nothing.
use mathlib.Core.Path.{◌≡◌, refl, sym, ap, ◌∙◌}
use mathlib.Core.Bool.{Bool, true, false}
use mathlib.Core.List.Memᴰ
use mathlib.Core.List.{List, [], ◌∷◌, ◌++◌, Memᴰ}
use mathlib.Core.Logic.{◌⊎◌, inl, inr}
use Prim.Native.Nat.{ℕ, zero, suc}
use lib.Count.{ones}
use lib.ListN.{take}
use borrow.Author.Tests.{eqb-true}
use Rattle.text.specs.Text.{text_of}
use Rattle.text.proofs.Logic.{and_right, true_false}
use Rattle.rules.specs.Form.{is_clock}
use Rattle.rules.specs.Kind.{CLOCK, is_form}
use Rattle.rules.specs.declared.Rule.TheVariants.{Old}
use Rattle.fields.specs.Aircraft.{is_aircraft_value, is_letter_by}
use Rattle.fields.specs.declared.aircraft.Aircraft.{Aircraft}
use Rattle.fields.proofs.WordLaws.{word_form}
use Rattle.table.specs.Amends.{is_mark, content_of}
use Rattle.table.specs.Field.{IDENT, OLD_AIRCRAFT, kind_by, aircraft_in, plain, is_kind_value, is_value}
use Rattle.table.specs.declared.kinds.Value.{Value}
use Rattle.table.specs.Show.{allowed_from}
use Rattle.table.specs.Table.{count_with, table_by, kinds_of}
use Rattle.table.proofs.Eight.{each_mark}
use Rattle.messages.specs.Body.{amended_in, held_from, value_of_word, value_of_ident, value_of_aircraft, slots_of, pairs_of, slots, field_count, values_in}
use Rattle.messages.specs.Allowed.{is_whole, kinds_in, is_body}
use Rattle.messages.specs.Lacks.{craft_in, amended_craft, aircrafts_in, Lacks}
use Rattle.messages.specs.declared.Amendment.{Amendment}
use Rattle.messages.specs.declared.Az.{Az}
use Rattle.messages.specs.declared.Body.{Body}
use Rattle.messages.specs.declared.Body.TheVariants as body
use Rattle.messages.proofs.Amendments.{amendments_by, leads, af_amendments}
use Rattle.messages.proofs.Theorems.{counted, allowed}
use Rattle.messages.proofs.InOrder.{first, next, word_in, body_fielded}

-- no letter is among them
abbrev Bare : List Aircraft → Type 0
Bare [] = Unit
Bare (x ∷ xs) = (x.letter ≡ 0) × Bare xs

both_bare : (xs ys : List Aircraft) → Bare xs → Bare ys → Bare (xs ++ ys)
both_bare [] ys p q = q
both_bare (x ∷ xs) ys p q = (p.0, both_bare xs ys p.1 q)

bare_among : (xs : List Aircraft) → Bare xs → (x : Aircraft) → Memᴰ x xs → x.letter ≡ 0
bare_among [] p x m = absurd (Memᴰ.not-nil m)
bare_among (y ∷ xs) p x m = go (Memᴰ.cases_cons m) (bare_among xs p.1 x)
  where
    go : (x ≡ y) ⊎ Memᴰ x xs → (Memᴰ x xs → x.letter ≡ 0) → x.letter ≡ 0
    go (inl e) rest = ap (λ (z : Aircraft). z.letter) e ∙ p.0
    go (inr n) rest = rest n

value_bare : (r : List ℕ) (v : Value) → is_kind_value OLD_AIRCRAFT r v ≡ true → v.c ≡ 0
unfolding is_kind_value
value_bare r v e = eqb-true v.c 0 (and_right (is_aircraft_value (aircraft_in v)) (is_letter_by Old v.c) e)

-- the second value of DZ, FZ and UZ
second_bare : (ks : List ℕ) (r : List ℕ) (i v : Value) (vs : List Value) → allowed_from (IDENT ∷ OLD_AIRCRAFT ∷ ks) 0 0 r (i ∷ v ∷ vs) ≡ true → v.c ≡ 0
unfolding is_value plain
second_bare ks r i v vs e = value_bare r v (next (first IDENT (OLD_AIRCRAFT ∷ ks) 0 0 r i (v ∷ vs) e)).value

-- ---- AF: the content by its mark

content_bare : (v : Value) (r : List ℕ) (m : ℕ) → is_mark m ≡ true → is_kind_value (kind_by Old (content_of m)) r v ≡ true → Bare (craft_in (amended_in (held_from (value_of_word m) v)))
unfolding content_of amended_in
content_bare v r =
    each_mark (λ (m : ℕ). is_kind_value (kind_by Old (content_of m)) r v ≡ true → Bare (craft_in (amended_in (held_from (value_of_word m) v))))
    (λ e. tt) (λ e. (value_bare r v e, tt)) (λ e. tt) (λ e. tt) (λ e. tt) (λ e. tt) (λ e. tt) (λ e. tt)

amended_bare : (j p m : ℕ) (r : List ℕ) (xs : List Amendment) → allowed_from (amendments_by Old j) p m r (pairs_of xs) ≡ true → Bare (amended_craft xs)
unfolding allowed_from
amended_bare j p m r [] e = tt
amended_bare zero p m r (x ∷ xs) e = true_false e refl
amended_bare (suc j) p m r (x ∷ xs) e =
    let f = leads Old j p m r x xs e in
    both_bare (craft_in (amended_in x)) (amended_craft xs) (content_bare x.content r x.mark f.number f.value) (amended_bare j f.left f.marks_left r xs f.others)

-- ---- by type

values : (b : Body) (r : List ℕ) (t : Bool) → is_whole b ≡ false → is_body Old b r t ≡ true → allowed_from (kinds_in Old b) 0 0 r (values_in b) ≡ true
values b r t q e = allowed Old b r t (body_fielded Old b r t q e)

all_bare : (b : Body) (r : List ℕ) (t : Bool) → is_body Old b r t ≡ true → Bare (aircrafts_in b)
unfolding kinds_in kinds_of table_by values_in field_count count_with slots is_whole
all_bare (body.Dz m) r t e = (second_bare _ r (value_of_ident m.ident) (value_of_aircraft m.aircraft) _ (values (body.Dz m) r t refl e), tt)
all_bare (body.Fz p) r t e = (second_bare _ r (value_of_ident p.ident) (value_of_aircraft p.aircraft) _ (values (body.Fz p) r t refl e), tt)
all_bare (body.Uz p) r t e = (second_bare _ r (value_of_ident p.ident) (value_of_aircraft p.aircraft) _ (values (body.Uz p) r t refl e), tt)
all_bare (body.Af a) r t e =
    let g = body_fielded Old (body.Af a) r t refl e in
    let (p, m, x) = af_amendments a (counted Old (body.Af a) r t g) Old r (allowed Old (body.Af a) r t g) in
    amended_bare (ones a.marks) p m r (take (ones a.marks) (slots_of a)) x
all_bare (body.Az m) r t e = tt
all_bare (body.Rz m) r t e = tt
all_bare (body.Tz m) r t e = tt
all_bare body.Rt r t e = tt
all_bare body.To r t e = tt
all_bare body.Hb r t e = tt

az_clock : (m : Az) (r : List ℕ) (t : Bool) → is_body Old (body.Az m) r t ≡ true → is_clock (text_of m.clock.0) ≡ true
unfolding kinds_in kinds_of table_by values_in field_count count_with slots is_whole is_value is_kind_value plain is_form
az_clock m r t e =
    let f = next (next (next (first IDENT _ 0 0 r (value_of_ident m.ident) _ (values (body.Az m) r t refl e)))) in
    word_form CLOCK m.clock.0 (word_in CLOCK f.left r (value_of_word m.clock.0) refl f.value)

-- THE LAW
pub old_lacks : (b : Body) (r : List ℕ) (t : Bool) → is_body Old b r t ≡ true → Lacks b
old_lacks b r t e = record {
  letter = bare_among (aircrafts_in b) (all_bare b r t e);
  prefix = λ m q. az_clock m r t (ap (λ (c : Body). is_body Old c r t) (sym q) ∙ e);
}
