-- THE LAW of named parts: of a body that reads each named part is the field at document 01's place, and no field is left out. Assumes
-- nothing.
use Rattle.std.specs.Prelude.{Ok}
use mathlib.Core.Path.{◌≡◌, refl, sym, ap, ◌∙◌}
use mathlib.Core.Bool.{Bool, true}
use mathlib.Core.List.{List, [], ◌∷◌, map}
use Prim.Native.Nat.{ℕ, zero, suc, ◌+◌, ◌*◌, ◌-◌}
use native.Mathlib.Omega.{arith}
use lib.Count.{ones}
use lib.ListN.{length, get_or, take, drop, length-take}
use lib.Seq.{drop-drop, get_or-drop}
use Rattle.text.proofs.Logic.{true_false}
use Rattle.rules.specs.Kind.{POINT}
use Rattle.rules.specs.declared.Rule.{Rule}
use Rattle.fields.specs.declared.heads.MessageType.{MessageType}
use Rattle.table.specs.Spacing.{Fields, fields_of, fields_in}
use Rattle.table.specs.Amends.{mark_text, is_mark, content_of}
use Rattle.table.specs.FieldKind.{IDENT, AMENDMENT, CONTENT}
use Rattle.table.specs.Field.{plain, trace_of, shown_kind, shown}
use Rattle.table.specs.declared.kinds.Value.{Value}
use Rattle.table.specs.Show.{texts_from, allowed_from}
use Rattle.table.proofs.OldKinds.{kinds_texts}
use Rattle.table.specs.Table.{amendments, is_count, count_with, has_fields, count_in, route_by, free_in}
use Rattle.table.proofs.Eight.{each_mark}
use Rattle.messages.specs.Body.{amended_in, held_from, type_in, value_of_word, value_of_ident, slots_of, pairs_of, slots, field_count, values_in}
use Rattle.messages.specs.Allowed.{kinds_in}
use Rattle.messages.specs.Named.{Part, number_text, content_text, amendment_parts, named, Stand, places_from, AreFields}
use Rattle.messages.specs.Read.{body_read}
use Rattle.messages.specs.declared.Amendment.{Amendment}
use Rattle.messages.specs.declared.Af.{Af}
use Rattle.messages.specs.declared.Body.{Body}
use Rattle.messages.specs.declared.Body.TheVariants as body
use Rattle.messages.proofs.Bodies.{allowed_first, allowed_rest, double, double_is, mark_value, count_pairs}
use Rattle.messages.proofs.Amendments.{af_kinds, af_values}
use Rattle.messages.proofs.ReadWays.{by_table}
use Rattle.messages.proofs.Theorems.{fields_held, counted, parts}
use Rattle.messages.proofs.InOrder.{table_in, fielded_values}

abbrev texts : List Part → List (List ℕ)
texts ps = map (λ (p : Part). p.text) ps

abbrev places : List Part → List ℕ
places ps = map (λ (p : Part). p.place) ps

-- ---- the texts of the values are those of the parts

-- of an amendment, by its mark
amended_texts : (v : Value) (r : List ℕ) (m : ℕ) → is_mark m ≡ true
    → (mark_text m ≡ number_text (amended_in (held_from (value_of_word m) v))) × (shown_kind (content_of m) r v ≡ content_text r (amended_in (held_from (value_of_word m) v)))
unfolding mark_text content_of shown_kind amended_in
amended_texts v r =
    each_mark (λ (m : ℕ). (mark_text m ≡ number_text (amended_in (held_from (value_of_word m) v))) × (shown_kind (content_of m) r v ≡ content_text r (amended_in (held_from (value_of_word m) v))))
    (refl, refl) (refl, refl) (refl, refl) (refl, refl) (refl, refl) (refl, refl) (refl, refl) (refl, refl)

shown_mark : (p : ℕ) (r : List ℕ) (v : Value) → shown AMENDMENT p r v ≡ mark_text v.a
unfolding shown
shown_mark p r v = refl

shown_content : (p : ℕ) (r : List ℕ) (v : Value) → shown CONTENT p r v ≡ shown_kind (content_of p) r v
unfolding shown plain
shown_content p r v = refl

amendments_texts : (j n p m : ℕ) (r : List ℕ) (xs : List Amendment) → allowed_from (amendments j) p m r (pairs_of xs) ≡ true
    → texts_from (amendments j) p r (pairs_of xs) ≡ texts (amendment_parts n r xs)
unfolding texts_from allowed_from
amendments_texts zero n p m r [] e = refl
amendments_texts zero n p m r (x ∷ xs) e = true_false e refl
amendments_texts (suc j) n p m r [] e = true_false e refl
amendments_texts (suc j) n p m r (x ∷ xs) e =
    let v = value_of_word x.mark in
    let vs = x.content ∷ pairs_of xs in
    let k = mark_value p r v (allowed_first AMENDMENT (CONTENT ∷ amendments j) p m r v vs e) in
    let f = allowed_rest AMENDMENT (CONTENT ∷ amendments j) p m r v vs e in
    let t = amended_texts x.content r x.mark k.0 in
    let a = shown_mark p r v ∙ t.0 in
    let b = shown_content (trace_of AMENDMENT (shown AMENDMENT p r v)) r x.content ∙ ap (λ (q : ℕ). shown_kind (content_of q) r x.content) k.2 ∙ t.1 in
    let i = amendments_texts j (suc n) _ _ r xs (allowed_rest CONTENT (amendments j) _ _ r x.content (pairs_of xs) f) in
    λ z. a z ∷ b z ∷ i z

-- of an AF with o amendments
af_texts : (a : Af) (o : ℕ) (r : List ℕ) (xs : List Amendment)
    → allowed_from (IDENT ∷ POINT ∷ POINT ∷ amendments o) 0 0 r (value_of_ident a.ident ∷ value_of_word a.from.0 ∷ value_of_word a.to.0 ∷ pairs_of xs) ≡ true
    → texts_from (IDENT ∷ POINT ∷ POINT ∷ amendments o) 0 r (value_of_ident a.ident ∷ value_of_word a.from.0 ∷ value_of_word a.to.0 ∷ pairs_of xs)
    ≡ shown_kind IDENT r (value_of_ident a.ident) ∷ shown_kind POINT r (value_of_word a.from.0) ∷ shown_kind POINT r (value_of_word a.to.0) ∷ texts (amendment_parts 1 r xs)
unfolding texts_from shown plain
af_texts a o r xs e =
    let i = value_of_ident a.ident in
    let f = value_of_word a.from.0 in
    let t = value_of_word a.to.0 in
    let u = allowed_rest POINT (POINT ∷ amendments o) _ _ r f (t ∷ pairs_of xs) (allowed_rest IDENT (POINT ∷ POINT ∷ amendments o) 0 0 r i (f ∷ t ∷ pairs_of xs) e) in
    let w = amendments_texts o 1 _ _ r xs (allowed_rest POINT (amendments o) _ _ r t (pairs_of xs) u) in
    λ z. shown_kind IDENT r i ∷ shown_kind POINT r f ∷ shown_kind POINT r t ∷ w z

-- the texts of values by their kinds are those of the parts ps, where the values are allowed
abbrev Texts : List Part → List ℕ → List ℕ → List Value → Type 0
Texts ps r ks vs = allowed_from ks 0 0 r vs ≡ true → texts_from ks 0 r vs ≡ texts ps

named_texts : (b : Body) (r : List ℕ) → is_count (type_in b) (field_count b) ≡ true → Texts (named b r) r (table_in b) (values_in b)
unfolding named texts_from shown shown_kind plain values_in field_count count_with slots
named_texts (body.Af a) r c = rw (af_kinds a c, af_values a c) (af_texts a (ones a.marks) r (take (ones a.marks) (slots_of a)))
named_texts (body.Az m) r c = λ e. refl
named_texts (body.Dz m) r c = λ e. refl
named_texts (body.Fz p) r c = λ e. refl
named_texts (body.Rz m) r c = λ e. refl
named_texts (body.Tz m) r c = λ e. refl
named_texts (body.Uz p) r c = λ e. refl
named_texts body.Rt r c = λ e. refl
named_texts body.To r c = λ e. refl
named_texts body.Hb r c = λ e. refl

-- ---- the places are 1, 2 and so on

amendments_places : (n : ℕ) (r : List ℕ) (xs : List Amendment) → places (amendment_parts n r xs) ≡ places_from (2 * n + 2) (double (length xs))
amendments_places n r [] = refl
amendments_places n r (x ∷ xs) =
    let a : 2 * n + 3 ≡ suc (2 * n + 2) = omega arith in
    let b : 2 * suc n + 2 ≡ suc (suc (2 * n + 2)) = omega arith in
    let i = amendments_places (suc n) r xs ∙ ap (λ (k : ℕ). places_from k (double (length xs))) b in
    λ z. (2 * n + 2) ∷ a z ∷ i z

af_places : (r : List ℕ) (o : ℕ) (xs : List Amendment) → length xs ≡ o → 1 ∷ 2 ∷ 3 ∷ places (amendment_parts 1 r xs) ≡ places_from 1 (3 + 2 * o)
af_places r o xs l =
    let n : 3 + 2 * o ≡ suc (suc (suc (double (length xs)))) = omega (arith, double_is (length xs)) in
    rw n (ap (λ (ks : List ℕ). 1 ∷ 2 ∷ 3 ∷ ks) (amendments_places 1 r xs))

named_places : (b : Body) (r : List ℕ) → is_count (type_in b) (field_count b) ≡ true → places (named b r) ≡ places_from 1 (field_count b)
unfolding named field_count count_with
named_places (body.Af a) r c =
    let o = ones a.marks in
    af_places r o (take o (slots_of a)) (omega (arith, length-take o (slots_of a), (count_pairs (3 + 2 * o) c).1))
named_places (body.Az m) r c = refl
named_places (body.Dz m) r c = refl
named_places (body.Fz p) r c = refl
named_places (body.Rz m) r c = refl
named_places (body.Tz m) r c = refl
named_places (body.Uz p) r c = refl
named_places body.Rt r c = refl
named_places body.To r c = refl
named_places body.Hb r c = refl

-- ---- so each part is the field at its place

stand_from : (s : List ℕ) (i n : ℕ) (ps : List Part) → drop i (fields_in (fields_of s)) ≡ texts ps → places ps ≡ places_from (suc i) n → Stand s ps
stand_from s i n [] e h = tt
stand_from s i zero (p ∷ ps) e h = absurd (let z : ◌≡◌ {A = ℕ} 0 1 = cc in omega arith)
stand_from s i (suc n) (p ∷ ps) e h =
    let fs = fields_in (fields_of s) in
    let k : p.place ≡ suc i = cc in
    let j : p.place - 1 ≡ i + 0 = omega arith in
    let l : places ps ≡ places_from (suc (suc i)) n = cc in
    let m : suc i ≡ i + 1 = omega arith in (
      ap (λ (x : ℕ). get_or fs x []) j ∙ sym (get_or-drop i fs 0 []) ∙ ap (λ (gs : List (List ℕ)). get_or gs 0 []) e,
      stand_from s (suc i) n ps (ap (λ (x : ℕ). drop x fs) m ∙ sym (drop-drop 1 i fs) ∙ ap (drop 1) e) l,
    )

-- THE LAW
pub body_named : (ρ : Rule) (t : MessageType) (s : List ℕ) (b : Body) (u : Bool) → has_fields t ≡ true → body_read ρ t s ≡ Ok (b, u) → (type_in b ≡ t) × AreFields s (named b (free_in ρ t s))
unfolding kinds_in
body_named ρ t s b u f e =
    let r = route_by ρ t s in
    let h = fields_held ρ t s b u (sym (by_table ρ t s f) ∙ e) in
    let c = counted ρ b r u h.good in
    let w : texts_from (kinds_in ρ b) 0 r (values_in b) ≡ texts (named b r) = kinds_texts ρ (type_in b) (field_count b) 0 r (values_in b) ∙ named_texts b r c (fielded_values ρ b r u h.good) in
    let x : fields_of s ≡ Fields (texts (named b r)) u = sym (ap fields_of h.text) ∙ (parts ρ b r u h.good).2 ∙ ap (λ (fs : List (List ℕ)). Fields fs u) w in
    let p : places (named b r) ≡ places_from 1 (count_in s) = named_places b r c ∙ ap (places_from 1) h.fields in
    (h.type, rw f (record { stand = stand_from s 0 (count_in s) (named b r) (ap fields_in x) p; every = p }))
