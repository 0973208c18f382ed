-- The values of a body that a line can have, one after the other: each is one that some text of its kind gives. Assumes nothing.
use mathlib.Core.Path.{◌≡◌, sym, ◌∙◌}
use mathlib.Core.Bool.{Bool, true, false, ◌&&◌}
use mathlib.Core.List.{List, ◌∷◌}
use Prim.Native.Nat.{ℕ}
use lib.ListN.{take}
use Rattle.text.proofs.Logic.{and_left}
use Rattle.rules.specs.declared.Rule.{Rule}
use Rattle.fields.specs.Word.{is_word}
use Rattle.table.specs.Field.{is_one, trace_of, marks_of, is_value, shown}
use Rattle.table.specs.declared.kinds.Value.{Value}
use Rattle.table.specs.Show.{allowed_from}
use Rattle.table.specs.Table.{table_of}
use Rattle.table.proofs.OldKinds.{kinds_allowed}
use Rattle.messages.specs.Body.{type_in, field_count, values_in}
use Rattle.messages.specs.Allowed.{is_whole, kinds_in, is_fielded, is_body}
use Rattle.messages.specs.declared.Body.{Body}
use Rattle.messages.proofs.Bodies.{allowed_first, allowed_rest}
use Rattle.messages.proofs.Theorems.{allowed}

-- the table's kinds of its fields
abbrev pub table_in : Body → List ℕ
table_in b = take (field_count b) (table_of (type_in b))

module _ (ρ : Rule) where
  pub body_fielded : (b : Body) (r : List ℕ) (t : Bool) → is_whole b ≡ false → is_body ρ b r t ≡ true → is_fielded ρ b r ≡ true
  unfolding is_body
  body_fielded b r t q e = rw q at e

  pub fielded_values : (b : Body) (r : List ℕ) (t : Bool) → is_fielded ρ b r ≡ true → allowed_from (table_in b) 0 0 r (values_in b) ≡ true
  unfolding kinds_in
  fielded_values b r t e = kinds_allowed ρ (type_in b) (field_count b) 0 0 r (values_in b) (allowed ρ b r t e)

  pub body_values : (b : Body) (r : List ℕ) (t : Bool) → is_whole b ≡ false → is_body ρ b r t ≡ true → allowed_from (table_in b) 0 0 r (values_in b) ≡ true
  body_values b r t q e = fielded_values b r t (body_fielded b r t q e)

-- what the values before it left may be anything
pub record First (k : ℕ) (ks : List ℕ) (r : List ℕ) (v : Value) (vs : List Value) : Type 0 where
  pub left : ℕ
  pub value : is_value k left r v ≡ true
  pub left_after : ℕ
  pub marks_after : ℕ
  pub others : allowed_from ks left_after marks_after r vs ≡ true

pub first : (k : ℕ) (ks : List ℕ) (p m : ℕ) (r : List ℕ) (v : Value) (vs : List Value) → allowed_from (k ∷ ks) p m r (v ∷ vs) ≡ true → First k ks r v vs
first k ks p m r v vs e =
    record {
      left = p;
      value = allowed_first k ks p m r v vs e;
      left_after = trace_of k (shown k p r v);
      marks_after = marks_of k m (shown k p r v);
      others = allowed_rest k ks p m r v vs e;
    }

pub next : {k j : ℕ} {ks r : List ℕ} {v w : Value} {vs : List Value} → First k (j ∷ ks) r v (w ∷ vs) → First j ks r w vs
next {k} {j} {ks} {r} {v} {w} {vs} f = first j ks f.left_after f.marks_after r w vs f.others

-- a kind that is held as its text; q says that k is such a kind
pub word_in : (k p : ℕ) (r : List ℕ) (v : Value) → is_value k p r v ≡ (is_word k v.a && is_one v) → is_value k p r v ≡ true → is_word k v.a ≡ true
word_in k p r v q e = and_left (is_word k v.a) (is_one v) (sym q ∙ e)
