-- THE FLIGHT'S KEY (document 01, "Fields"): "The flight's key is the part before the slash". Of a body that reads it is the first field up to
-- its slash, and the word of a key. Assumes nothing.
use Rattle.std.specs.Prelude.{Ok}
use mathlib.Core.Path.{◌≡◌, refl, sym, ◌∙◌, subst}
use mathlib.Core.Bool.{Bool, true, false, not, ◌&&◌, ◌||◌}
use mathlib.Core.List.{List, ◌∷◌}
use Prim.Native.Nat.{ℕ, suc, ◌+◌, ◌*◌}
use native.Mathlib.Omega.{arith}
use lib.Count.{ones}
use lib.Dec.{eqb}
use lib.ListN.{length, take}
use Rattle.text.specs.Text.{text_of, slashed}
use Rattle.text.proofs.Logic.{and_left, true_false}
use Rattle.shapes.specs.Cut.{up_to, before}
use Rattle.shapes.proofs.Joins.{joined_before, whole_before}
use Rattle.rules.specs.Kind.{KEY, NUMBER}
use Rattle.rules.specs.declared.Rule.{Rule}
use Rattle.fields.specs.Word.{is_word}
use Rattle.fields.specs.Pair.{slash, pair_text, is_pair}
use Rattle.fields.specs.Ident.{is_ident_value}
use Rattle.fields.specs.declared.heads.MessageType.{MessageType}
use Rattle.fields.specs.declared.idents.Ident.{Ident}
use Rattle.fields.proofs.WordLaws.{word_form}
use Rattle.fields.proofs.Slashes.{key_slashless}
use Rattle.table.specs.Field.{IDENT, TZ_IDENT, ident_in, is_two, plain, is_kind_value, is_value}
use Rattle.table.specs.declared.kinds.Value.{Value}
use Rattle.table.specs.Show.{allowed_from}
use Rattle.table.specs.Table.{count_with, has_fields, route_by, free_in}
use Rattle.messages.specs.Body.{type_in, key_in, value_of_ident, slots, field_count, values_in}
use Rattle.messages.specs.Named.{named, field_at, Stand}
use Rattle.messages.specs.Read.{body_read}
use Rattle.messages.specs.declared.Body.{Body}
use Rattle.messages.specs.declared.Body.TheVariants as body
use Rattle.messages.proofs.Bodies.{allowed_first}
use Rattle.messages.proofs.ReadWays.{by_table}
use Rattle.messages.proofs.Theorems.{fields_held}
use Rattle.messages.proofs.InOrder.{table_in, fielded_values}
use Rattle.messages.proofs.Named.{body_named}

-- ---- an ident: before its slash stands its key

pair_word_lem : (a b : ℕ) → is_pair KEY NUMBER a b ≡ true → is_word KEY a ≡ true
unfolding is_pair
pair_word_lem a b e = and_left (is_word KEY a) (eqb b 0 || is_word NUMBER b) e

pair_before : (a b : ℕ) → is_pair KEY NUMBER a b ≡ true → before slash (pair_text a b) ≡ text_of a
unfolding pair_text slashed
pair_before a b e = go (eqb b 0) refl
  where
    n : up_to slash (text_of a) ≡ length (text_of a)
    n = key_slashless (text_of a) (word_form KEY a (pair_word_lem a b e))

    go : (t : Bool) → eqb b 0 ≡ t → before slash (pair_text a b) ≡ text_of a
    go true q = rw q (whole_before slash (text_of a) n)
    go false q = rw q (joined_before slash (text_of a) (text_of b) n)

ident_first : (ks : List ℕ) (r : List ℕ) (v : Value) (vs : List Value) → allowed_from (IDENT ∷ ks) 0 0 r (v ∷ vs) ≡ true → is_ident_value (ident_in v) ≡ true
unfolding is_value is_kind_value plain
ident_first ks r v vs e = and_left (is_ident_value (ident_in v)) (is_two v) (allowed_first IDENT ks 0 0 r v vs e)

ident_first_tz : (ks : List ℕ) (r : List ℕ) (v : Value) (vs : List Value) → allowed_from (TZ_IDENT ∷ ks) 0 0 r (v ∷ vs) ≡ true → is_ident_value (ident_in v) ≡ true
unfolding is_value is_kind_value plain
ident_first_tz ks r v vs e =
    let some = not (eqb v.b 0) in
    and_left (is_ident_value (ident_in v)) some (and_left (is_ident_value (ident_in v) && some) (is_two v) (allowed_first TZ_IDENT ks 0 0 r v vs e))

-- ---- a body: its ident is the first of its named parts

-- i is the ident of b, and one that some text gives
record Keyed (b : Body) (s r : List ℕ) : Type 0 where
  ident : Ident
  is : key_in b ≡ ident.key.0
  good : is_ident_value ident ≡ true
  first : Stand s (named b r) → field_at 1 s ≡ pair_text ident.key.0 ident.number.0

af_take : (o : ℕ) (r : List ℕ) (v : Value) (ks : List ℕ) (vs : List Value) → allowed_from (take (3 + 2 * o) (IDENT ∷ ks)) 0 0 r (take (3 + 2 * o) (v ∷ vs)) ≡ true → is_ident_value (ident_in v) ≡ true
af_take o r v ks vs e =
    let z : 3 + 2 * o ≡ suc (2 + 2 * o) = omega arith in
    ident_first (take (2 + 2 * o) ks) r v (take (2 + 2 * o) vs) (subst (λ (k : ℕ). allowed_from (take k (IDENT ∷ ks)) 0 0 r (take k (v ∷ vs)) ≡ true) z e)

keyed : (b : Body) (s r : List ℕ) → has_fields (type_in b) ≡ true → allowed_from (table_in b) 0 0 r (values_in b) ≡ true → Keyed b s r
unfolding values_in field_count count_with slots named
keyed (body.Af m) s r f e = record { ident = m.ident; is = refl; good = af_take (ones m.marks) r (value_of_ident m.ident) _ _ e; first = λ p. p.0 }
keyed (body.Az m) s r f e = record { ident = m.ident; is = refl; good = ident_first _ r (value_of_ident m.ident) _ e; first = λ p. p.0 }
keyed (body.Dz m) s r f e = record { ident = m.ident; is = refl; good = ident_first _ r (value_of_ident m.ident) _ e; first = λ p. p.0 }
keyed (body.Fz m) s r f e = record { ident = m.ident; is = refl; good = ident_first _ r (value_of_ident m.ident) _ e; first = λ p. p.0 }
keyed (body.Rz m) s r f e = record { ident = m.ident; is = refl; good = ident_first _ r (value_of_ident m.ident) _ e; first = λ p. p.0 }
keyed (body.Tz m) s r f e = record { ident = m.ident; is = refl; good = ident_first_tz _ r (value_of_ident m.ident) _ e; first = λ p. p.0 }
keyed (body.Uz m) s r f e = record { ident = m.ident; is = refl; good = ident_first _ r (value_of_ident m.ident) _ e; first = λ p. p.0 }
keyed body.Rt s r f e = true_false f refl
keyed body.To s r f e = true_false f refl
keyed body.Hb s r f e = true_false f refl

-- THE LAW: "1 for the ident"; the key is the word of a key, and the part of that field before the slash
pub body_key : (ρ : Rule) (t : MessageType) (s : List ℕ) (b : Body) (u : Bool) → has_fields t ≡ true → body_read ρ t s ≡ Ok (b, u)
    → (is_word KEY (key_in b) ≡ true) × (text_of (key_in b) ≡ before slash (field_at 1 s))
body_key ρ t s b u f e =
    let h = fields_held ρ t s b u (sym (by_table ρ t s f) ∙ e) in
    let n = body_named ρ t s b u f e in
    let g : has_fields (type_in b) ≡ true = rw h.type f in
    let k = keyed b s (free_in ρ t s) g (rw f (fielded_values ρ b (route_by ρ t s) u h.good)) in
    let i = k.ident in (
      rw k.is (pair_word_lem i.key.0 i.number.0 k.good),
      rw (k.is, k.first n.1.stand) (sym (pair_before i.key.0 i.number.0 k.good)),
    )

-- RT, TO and HB have none
pub no_key : (b : Body) → has_fields (type_in b) ≡ false → key_in b ≡ 0
no_key (body.Af m) e = true_false refl e
no_key (body.Az m) e = true_false refl e
no_key (body.Dz m) e = true_false refl e
no_key (body.Fz p) e = true_false refl e
no_key (body.Rz m) e = true_false refl e
no_key (body.Tz m) e = true_false refl e
no_key (body.Uz p) e = true_false refl e
no_key body.Rt e = refl
no_key body.To e = refl
no_key body.Hb e = refl
