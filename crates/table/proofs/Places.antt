-- What is asked for at a place of the table, under either rule: of a field that is no amendment's the kind that the rule has for the table's, and of an
-- amendment's content what its number asks for. Assumes nothing.
use mathlib.Core.Path.{◌≡◌, refl, sym, ap, ◌∙◌, subst}
use mathlib.Core.Bool.{true}
use mathlib.Core.List.{List, [], ◌∷◌, Memᴰ}
use Prim.Native.Nat.{ℕ, zero, suc, ◌+◌, ◌*◌, ◌<◌}
use native.Mathlib.Omega.{arith}
use lib.ListN.{length, take}
use Rattle.rules.specs.declared.Rule.{Rule}
use Rattle.fields.specs.declared.heads.MessageType.{MessageType}
use Rattle.fields.specs.declared.heads.MessageType.TheVariants as type
use Rattle.table.specs.FieldKind.{PLAN_TIME, AMENDMENT, CONTENT, kind_by}
use Rattle.table.specs.Amends.{Amends, the_eight}
use Rattle.table.specs.Fault.{kind_at, field_at, Asked, Content, Plain}
use Rattle.table.specs.Table.{amendments, table_of, is_count, table_by, kinds_of}
use Rattle.table.proofs.KindRules.{at_by}
use Rattle.table.proofs.Tables.{table_few}

-- the kind of a field that is there is the table's, by the rule
kind_there : (ks : List ℕ) (n i : ℕ) → i < n → kind_at (take n ks) i ≡ kind_at ks i
kind_there ks zero i h = absurd (omega arith)
kind_there [] (suc n) i h = refl
kind_there (k ∷ ks) (suc n) zero h = refl
kind_there (k ∷ ks) (suc n) (suc i) h = kind_there ks n i (omega arith)

pub kind_by_lem : (ρ : Rule) (t : MessageType) (n i : ℕ) → i < n → kind_at (kinds_of ρ t n) i ≡ kind_by ρ (kind_at (table_of t) i)
unfolding kinds_of table_by
kind_by_lem ρ t n i h = kind_there (table_by ρ t) n i h ∙ at_by ρ (table_of t) i

content_there : (j n : ℕ) → n < j → kind_at (amendments j) (2 * n + 1) ≡ CONTENT
content_there zero n h = absurd (omega arith)
content_there (suc j) zero h = refl
content_there (suc j) (suc n) h =
    let e : 2 * suc n + 1 ≡ suc (suc (2 * n + 1)) = omega arith in
    ap (kind_at (amendments (suc j))) e ∙ content_there j n (omega arith)

-- k is neither a content's kind, nor a plan's time, nor an amendment's number
pub record IsPlain (k : ℕ) : Type 0 where
  pub no_content_lem : (σ : Rule) → k ≡ kind_by σ CONTENT → ⊥
  pub no_time : k ≡ PLAN_TIME → ⊥
  pub no_number : k ≡ AMENDMENT → ⊥

-- a field by the table
module _ (ρ : Rule) (t : MessageType) (fs : List (List ℕ)) (i : ℕ) (h : i < length fs) {k : ℕ} (e : kind_by ρ (kind_at (table_of t) i) ≡ k) (p : IsPlain k) where
  field_kind : kind_at (kinds_of ρ t (length fs)) i ≡ k
  field_kind = kind_by_lem ρ t (length fs) i h ∙ e

  pub field_asked : Asked (kinds_of ρ t (length fs)) fs i k
  field_asked =
      subst (λ (j : ℕ). Asked (kinds_of ρ t (length fs)) fs i j) field_kind
      (Plain (λ σ q. p.no_content_lem σ (sym field_kind ∙ q)) (λ q. p.no_time (sym field_kind ∙ q)) (λ q. p.no_number (sym field_kind ∙ q)))

  pub field_no_time : kind_at (kinds_of ρ t (length fs)) i ≡ PLAN_TIME → ⊥
  field_no_time q = p.no_time (sym field_kind ∙ q)

-- an amendment's content by its number
module _ (ρ : Rule) (fs : List (List ℕ)) (c : is_count type.Af (length fs) ≡ true) (n : ℕ) (h : 2 * n + 4 < length fs) where
  pub content_kind : kind_at (kinds_of ρ type.Af (length fs)) (2 * n + 4) ≡ kind_by ρ CONTENT
  content_kind =
      let i : 2 * n + 4 ≡ suc (suc (suc (2 * n + 1))) = omega arith in
      let few : n < 8 = omega (arith, table_few type.Af (length fs) c, h) in
      kind_by_lem ρ type.Af (length fs) (2 * n + 4) h ∙ ap (kind_by ρ) (ap (kind_at (table_of type.Af)) i ∙ content_there 8 n few)

  pub content_asked : (a : Amends) → Memᴰ a the_eight → field_at fs (2 * n + 3) ≡ a.number → Asked (kinds_of ρ type.Af (length fs)) fs (2 * n + 4) (kind_by ρ a.content)
  content_asked a m e = Content ρ (2 * n + 3) (omega arith) content_kind a m (sym e)
