-- The cases of a body with fields: its spacing and count are wrong exactly if no right fields have its text, and a
-- fault at a place is that of the first field that is not right. Assumes nothing.
use Rattle.std.specs.Prelude.{Err, Result}
use mathlib.Core.Path.{◌≡◌, refl, sym, ◌∙◌}
use mathlib.Core.Bool.{Bool, true, false}
use mathlib.Core.List.{List}
use Prim.Native.Nat.{ℕ, suc}
use native.Mathlib.Omega.{arith}
use lib.Dec.{eqb}
use lib.ListN.{length, length-take}
use borrow.Author.Tests.{eqb-true, not-false}
use Rattle.text.proofs.Logic.{not_fails}
use Rattle.rules.specs.declared.Rule.{Rule}
use Rattle.fields.specs.declared.heads.MessageType.{MessageType}
use Rattle.table.specs.Spacing.{body_of, all_fields, Fields, fields_of}
use Rattle.table.proofs.SpacingLaws.{fields_text_lem, fields_body}
use Rattle.table.specs.Read.{fault_at, answer_of}
use Rattle.table.specs.declared.walk.Fault.TheVariants.{Spacing}
use Rattle.table.specs.Read.{field_number}
use Rattle.table.proofs.FieldCases.{table_tied}
use Rattle.table.proofs.Refusals.{spacing, spacing_only, is_fault, Bad, bad_at, bad_only, fault_spacing}
use Rattle.table.specs.Table.{table_of, table_by, is_count, has_fields, kinds_of, count_in, answer_by}
use Rattle.table.proofs.TableWays.{kinds_length}
use Rattle.table.proofs.Tables.{table_few, table_length}
use Rattle.line.specs.Cases.{Faulty}
use Rattle.table.specs.declared.kinds.NotRead.{NotRead}
use Rattle.table.specs.declared.kinds.Value.{Value}

-- ---- a body with a fault has fields

-- a type that is kept whole has no field that could be wrong
pub faulty_fields : (ρ : Rule) (t : MessageType) (b : List ℕ) (i n : ℕ) → Faulty ρ t b i n → has_fields t ≡ true
unfolding kinds_of
faulty_fields ρ t b i n f =
    let k = kinds_length ρ t (length f.fields) f.count in
    let l = length-take (length f.fields) (table_by ρ t) in
    not_fails (has_fields t) (λ e. omega (arith, f.first.inside, k, l, table_length ρ t, eqb-true (length (table_of t)) 0 (not-false (eqb (length (table_of t)) 0) e)))

-- ---- the fields of a body are counted

module _ (ρ : Rule) (t : MessageType) (b : List ℕ) where
  module _ (fs : List (List ℕ)) (u : Bool) (every : all_fields fs ≡ true) (text : body_of fs u ≡ b) where
    split_is : fields_of b ≡ Fields fs u
    split_is = rw text at (fields_body fs u every)

    count_is : count_in b ≡ length fs
    unfolding count_in
    count_is = rw split_is

    by_kinds : is_count t (length fs) ≡ true → answer_by ρ t b ≡ answer_of (kinds_of ρ t (length fs)) b
    unfolding answer_by
    by_kinds c = rw (count_is, c)

  -- ---- spacing or count wrong

  pub no_fields : answer_by ρ t b ≡ Err Spacing → (fs : List (List ℕ)) (u : Bool) → all_fields fs ≡ true → is_count t (length fs) ≡ true → body_of fs u ≡ b → ⊥
  no_fields e fs u every c text =
      let n = kinds_length ρ t (length fs) c in
      spacing (kinds_of ρ t (length fs)) b (rw n (table_few t (length fs) c)) (sym (by_kinds fs u every text c) ∙ e) fs u every (sym n) text

  pub fields_none : ((fs : List (List ℕ)) (u : Bool) → all_fields fs ≡ true → is_count t (length fs) ≡ true → body_of fs u ≡ b → ⊥) → answer_by ρ t b ≡ Err Spacing
  unfolding answer_by
  fields_none h = go (is_count t (count_in b)) refl
    where
      go : (c : Bool) → is_count t (count_in b) ≡ c → answer_by ρ t b ≡ Err Spacing
      go true q = rw q (spacing_only (kinds_of ρ t (count_in b)) b (λ fs u every n text. h fs u every (rw (count_is fs u every text) at q) text))
      go false q = rw q

  -- ---- the first field that is not right, with any fault

  pub fault_faulty : (j : ℕ) (a : Result Value NotRead) → is_fault a ≡ true → answer_by ρ t b ≡ Err (fault_at j a) → (i : ℕ) × (j ≡ suc i) × Faulty ρ t b i (field_number a)
  unfolding answer_by
  fault_faulty j a h e = go (is_count t (count_in b)) refl
    where
      from : is_count t (count_in b) ≡ true → (i : ℕ) × (j ≡ suc i) × Bad (kinds_of ρ t (count_in b)) b i (field_number a) → (i : ℕ) × (j ≡ suc i) × Faulty ρ t b i (field_number a)
      from q (i, z, f) =
          let n : count_in b ≡ length f.fields = sym (f.count ∙ kinds_length ρ t (count_in b) q) in (
            i,
            z,
            record {
              fields = f.fields;
              trailing = f.trailing;
              text = f.text;
              every = (fields_text_lem b f.fields f.trailing f.split).1;
              count = rw n at q;
              first = rw n at f.first;
            },
          )

      go : (c : Bool) → is_count t (count_in b) ≡ c → (i : ℕ) × (j ≡ suc i) × Faulty ρ t b i (field_number a)
      go true q = from q (bad_at (kinds_of ρ t (count_in b)) b j a (table_tied ρ t (count_in b)) h (rw q at e))
      go false q = absurd (fault_spacing j a h (rw q at e))

  pub faulty_fault : (i : ℕ) (a : Result Value NotRead) → is_fault a ≡ true → Faulty ρ t b i (field_number a) → answer_by ρ t b ≡ Err (fault_at (suc i) a)
  faulty_fault i a h f =
      let n = kinds_length ρ t (length f.fields) f.count in
      by_kinds f.fields f.trailing f.every f.text f.count
      ∙ bad_only (kinds_of ρ t (length f.fields)) b i a (rw n (table_few t (length f.fields) f.count)) (table_tied ρ t (length f.fields)) h (record {
        fields = f.fields;
        trailing = f.trailing;
        split = split_is f.fields f.trailing f.every f.text;
        text = f.text;
        count = sym n;
        first = f.first;
      })
