-- WHAT IS WRONG WITH A FIELD (document 01, "Fields", "Answer numbers"): the case of each field of a body, told of the kinds of its table and the
-- bytes of its fields alone, and the first field that is at fault. No reader stands in it; `proofs/FieldCases` shows that the reader answers by
-- these cases. Assumes nothing.
use Prim.Native.Char.{code}
use Rattle.std.specs.Prelude.{ℕ, suc, ◌<◌, ◌≡◌, Bool, true, false, cond, eqb, length, get_or}
use mathlib.Core.List.{List, [], Memᴰ}
use Rattle.rules.specs.Form.{is_ident, is_tz_ident, is_position, is_route}
use Rattle.rules.specs.Kind.{FIX, TIME, is_form}
use Rattle.rules.specs.declared.Rule.{Rule}
use Rattle.fields.specs.Aircraft as aircraft
use Rattle.table.specs.FieldKind.{IDENT, TZ_IDENT, AIRCRAFT, ROUTE, PLAN_TIME, AMENDMENT, CONTENT, kind_by}
use Rattle.table.specs.Amends.{Amends, the_eight}

-- the kind of the field i, and its bytes; the ident is the field 0
abbrev pub kind_at : List ℕ → ℕ → ℕ
kind_at ks i = get_or ks i 0

abbrev pub field_at : List (List ℕ) → ℕ → List ℕ
field_at fs i = get_or fs i []

-- ---- a field by its form

-- "Fields", line by line (rules/specs/Form); an aircraft goes by its readings
unfoldable pub has_form : ℕ → List ℕ → Bool
has_form k s = cond (eqb k IDENT) (is_ident s) (cond (eqb k TZ_IDENT) (is_tz_ident s) (cond (eqb k ROUTE) (is_route s) (is_form k s)))

-- 0: a reading; 9: "a field without a reading"
pub data FormCase (k : ℕ) (s : List ℕ) : ℕ → Type 0 where
  Readings : {n : ℕ} (ρ : Rule) → k ≡ kind_by ρ AIRCRAFT → aircraft.Case ρ s n → FormCase k s n
  Formed : ((ρ : Rule) → k ≡ kind_by ρ AIRCRAFT → ⊥) → has_form k s ≡ true → FormCase k s 0
  Unformed : ((ρ : Rule) → k ≡ kind_by ρ AIRCRAFT → ⊥) → has_form k s ≡ false → FormCase k s 9

-- ---- the fields of a body: ks are the kinds of its table, fs its fields

module _ (ks : List ℕ) (fs : List (List ℕ)) where
  -- the kind whose form the field i is to have; an amendment's number has none
  pub data Asked (i : ℕ) : ℕ → Type 0 where
    -- "a number .. and its content": the content that the number before it asks for
    Content : (ρ : Rule) (j : ℕ) → i ≡ suc j → kind_at ks i ≡ kind_by ρ CONTENT → (a : Amends) → Memᴰ a the_eight → a.number ≡ field_at fs j → Asked i (kind_by ρ a.content)
    -- the time of FZ and UZ
    Time : kind_at ks i ≡ PLAN_TIME → Asked i TIME
    -- any other: what the table says
    Plain : ((ρ : Rule) → kind_at ks i ≡ kind_by ρ CONTENT → ⊥) → (kind_at ks i ≡ PLAN_TIME → ⊥) → (kind_at ks i ≡ AMENDMENT → ⊥) → Asked i (kind_at ks i)

  -- the field i is the time of an FZ or UZ, "it has E", and the fix before it is no position
  pub record NoPosition (i : ℕ) : Type 0 where
    pub time : kind_at ks i ≡ PLAN_TIME
    pub has_E : get_or (field_at fs i) 0 0 ≡ code "E"
    pub fix : ℕ
    pub before : i ≡ suc fix
    pub is_fix : kind_at ks fix ≡ FIX
    pub no_position : is_position (field_at fs fix) ≡ false

  -- the number in the field i stands in a number's field before it
  pub record Came (i : ℕ) : Type 0 where
    pub at : ℕ
    pub earlier : at < i
    pub number : kind_at ks at ≡ AMENDMENT
    pub same : field_at fs at ≡ field_at fs i

  -- FieldCase i n: the field i is in the case of the number n, 0 where nothing is wrong with it
  pub data FieldCase (i : ℕ) : ℕ → Type 0 where
    -- 0, 9: by its form
    ByForm : {k n : ℕ} → Asked i k → FormCase k (field_at fs i) n → (n ≡ 0 → NoPosition i → ⊥) → FieldCase i n
    -- 9: "Of the E rule, the time's own form comes first"; then "the fix must be a position, else the time field is at fault"
    ERule : FormCase TIME (field_at fs i) 0 → NoPosition i → FieldCase i 9
    -- 10: "an AF number field that is none of the eight (never 9)"
    NoneOfEight : kind_at ks i ≡ AMENDMENT → ((a : Amends) → Memᴰ a the_eight → a.number ≡ field_at fs i → ⊥) → FieldCase i 10
    -- 10: "or come twice"
    Twice : kind_at ks i ≡ AMENDMENT → Came i → FieldCase i 10
    -- 0: one of the eight, come for the first time
    Fresh : kind_at ks i ≡ AMENDMENT → (a : Amends) → Memᴰ a the_eight → a.number ≡ field_at fs i → (Came i → ⊥) → FieldCase i 0

  -- "then fields from the left": nothing is wrong before the field i, which is in the case of n
  pub record FirstFault (i n : ℕ) : Type 0 where
    pub inside : i < length fs
    pub before : (j : ℕ) → j < i → FieldCase j 0
    pub here : FieldCase i n
