-- THE CASES of document 01's answer numbers for a line under the rule ρ, one for each row of its table, with the place that the row
-- gives (0 where it gives none). `proofs/Cases` shows that each line has the number and the place of its case, and of
-- no other. Assumes nothing.
use Rattle.std.specs.Prelude.{ℕ, suc, ◌-◌, ◌≤◌, ◌<◌, ◌≡◌, Bool, true, false, List, length}
use Rattle.text.specs.Place.{all_in}
use Rattle.rules.specs.declared.Rule.{Rule}
use Rattle.rules.specs.declared.Rule.TheVariants.{New, Old}
use Rattle.fields.specs.Head.{sequence_in, stamp_in, facility_in, sequence_part, stamp_part, facility_part, type_part, body_part}
use Rattle.fields.specs.MessageType.{type_text}
use Rattle.fields.specs.declared.heads.MessageType.{MessageType}
use Rattle.fields.specs.declared.heads.MessageType.TheVariants as type
use Rattle.table.specs.Spacing.{body_of, all_fields}
use Rattle.table.specs.Fault.{FieldCase, FirstFault}
use Rattle.table.specs.Table.{is_count, has_fields, has_type, kinds_of}
use Rattle.table.specs.Plan.{is_long_plan}
use Rattle.messages.specs.declared.Reading.{Reading}
use Rattle.line.specs.Line.{line_by, is_allowed_by}

-- "line under 18 bytes"; of the old feed "1 under nine bytes"
abbrev pub fewest : Rule → ℕ
fewest New = 18
fewest Old = 9

-- the bytes before the type, from which an FZ is counted
abbrev pub untyped : Rule → ℕ
untyped New = 16
untyped Old = 7

-- that many to 2,048 bytes, each 32 to 126
pub record Framed (ρ : Rule) (s : List ℕ) : Type 0 where
  pub enough : fewest ρ ≤ length s
  pub few : length s ≤ 2048
  pub printable : all_in 32 126 s ≡ true

-- the head is right up to its type
pub record Stamped (ρ : Rule) (s : List ℕ) : Type 0 where
  pub framed : Framed ρ s
  pub sequence : (sequence_in ρ).form (sequence_part ρ s) ≡ true
  pub stamp : (stamp_in ρ).form (stamp_part ρ s) ≡ true
  pub facility : (facility_in ρ).form (facility_part ρ s) ≡ true

-- and the type is t, one that the rule has
pub record Headed (ρ : Rule) (s : List ℕ) (t : MessageType) : Type 0 where
  pub stamped : Stamped ρ s
  pub given : has_type ρ t ≡ true
  pub type : type_part ρ s ≡ type_text t

-- a body whose spacing and count are right: its field i is the first at fault, in the case of the number n (table/specs/Fault)
pub record Faulty (ρ : Rule) (t : MessageType) (b : List ℕ) (i n : ℕ) : Type 0 where
  pub fields : List (List ℕ)
  pub trailing : Bool
  pub text : body_of fields trailing ≡ b
  pub every : all_fields fields ≡ true
  pub count : is_count t (length fields) ≡ true
  pub first : FirstFault (kinds_of ρ t (length fields)) fields i n

-- the line s, of the type t and with the fields fs, has such a body, and nothing is wrong before its field i
pub record RightUpTo (ρ : Rule) (s : List ℕ) (t : MessageType) (fs : List (List ℕ)) (i : ℕ) : Type 0 where
  pub head : Headed ρ s t
  pub no_long_plan : is_long_plan ρ t (length s) ≡ false
  pub trailing : Bool
  pub text : body_of fs trailing ≡ body_part ρ s
  pub every : all_fields fs ≡ true
  pub count : is_count t (length fs) ≡ true
  pub inside : i < length fs
  pub before : (j : ℕ) → j < i → FieldCase (kinds_of ρ t (length fs)) fs j 0

-- Case ρ s n p: under the rule ρ the line s is in the case of the number n, with the place p
pub data Case (ρ : Rule) (s : List ℕ) : ℕ → ℕ → Type 0 where
  -- 0: taken
  Taken : (x : Reading) (r : List ℕ) → is_allowed_by ρ x r ≡ true → line_by ρ x r ≡ s → Case ρ s 0 0
  -- 1: line under 18 bytes; of the old feed under nine
  Short : length s < fewest ρ → Case ρ s 1 0
  -- 2: line over 2,048 bytes
  Long : 2048 < length s → Case ρ s 2 0
  -- 3: a byte outside 32 to 126
  Unprintable : fewest ρ ≤ length s → length s ≤ 2048 → all_in 32 126 s ≡ false → Case ρ s 3 0
  -- 4, 5, 6, 7: sequence, stamp, facility, type wrong
  NoSequence : Framed ρ s → (sequence_in ρ).form (sequence_part ρ s) ≡ false → Case ρ s 4 0
  NoStamp : Framed ρ s → (sequence_in ρ).form (sequence_part ρ s) ≡ true → (stamp_in ρ).form (stamp_part ρ s) ≡ false → Case ρ s 5 0
  NoFacility : Framed ρ s → (sequence_in ρ).form (sequence_part ρ s) ≡ true → (stamp_in ρ).form (stamp_part ρ s) ≡ true → (facility_in ρ).form (facility_part ρ s) ≡ false → Case ρ s 6 0
  NoType : Stamped ρ s → ((t : MessageType) → has_type ρ t ≡ true → type_part ρ s ≡ type_text t → ⊥) → Case ρ s 7 0
  -- 8: body spacing or field count wrong
  Spacing : (t : MessageType) → Headed ρ s t → is_long_plan ρ t (length s) ≡ false → has_fields t ≡ true → ((fs : List (List ℕ)) (u : Bool) → all_fields fs ≡ true → is_count t (length fs) ≡ true → body_of fs u ≡ body_part ρ s → ⊥) → Case ρ s 8 0
  -- 9: a field without a reading; its place is given, 1 for the ident
  Field : (t : MessageType) (i : ℕ) → Headed ρ s t → is_long_plan ρ t (length s) ≡ false → Faulty ρ t (body_part ρ s) i 9 → Case ρ s 9 (suc i)
  -- 10: an AF number field that is none of the eight, or come twice; its place
  Number : (t : MessageType) (i : ℕ) → Headed ρ s t → is_long_plan ρ t (length s) ≡ false → Faulty ρ t (body_part ρ s) i 10 → Case ρ s 10 (suc i)
  -- 11: FZ over 439 bytes, counted from its type
  LongPlan : Headed ρ s type.Fz → 439 < length s - untyped ρ → Case ρ s 11 0
