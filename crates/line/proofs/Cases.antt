-- THE CASES of a line under the rule ρ: each line has the answer number and the place of its case, and of no other. Assumes nothing.
use Rattle.std.specs.Prelude.{Err, None, Ok, Option, Result, Some}
use mathlib.Core.Path.{◌≡◌, refl, sym, ap, ◌∙◌, subst}
use mathlib.Core.Bool.{Bool, true, false}
use mathlib.Core.List.{List}
use Prim.Native.Nat.{ℕ, suc, ◌-◌, ◌≤◌, ◌<◌}
use native.Mathlib.Nat.{suc_inj}
use native.Mathlib.Omega.{arith}
use lib.Dec.{ltb}
use lib.ListN.{length}
use borrow.Author.Tests.{ltb-true, ltb-false, lt-ltb}
use Rattle.text.specs.Place.{all_in}
use Rattle.text.proofs.Logic.{true_false}
use Rattle.shapes.specs.Picture.{is_of, fits}
use Rattle.rules.specs.Frame.{longest_line, longest_plan}
use Rattle.rules.specs.declared.Rule.{Rule}
use Rattle.rules.specs.declared.Rule.TheVariants.{New, Old}
use Rattle.fields.specs.Head.{sequence_in, stamp_in, facility_in, sequence_part, stamp_part, facility_part, type_part, body_part, type_at, head_length}
use Rattle.fields.specs.MessageType.{type_text}
use Rattle.fields.specs.declared.heads.MessageType.{MessageType}
use Rattle.fields.specs.declared.heads.MessageType.TheVariants.{Fz}
use Rattle.table.specs.Read.{padded, fault_number, fault_place}
use Rattle.table.specs.declared.walk.Fault.{Fault}
use Rattle.table.specs.declared.walk.Fault.TheVariants as fault
use Rattle.table.specs.Table.{has_fields, has_type, kinds_of, answer_by, values_by}
use Rattle.table.specs.Plan.{is_long_plan}
use Rattle.table.specs.Fault.{FieldCase}
use Rattle.table.proofs.CountWays.{each_type}
use Rattle.table.proofs.FieldCases.{field_one}
use Rattle.table.proofs.SpacingLaws.{unique}
use Rattle.messages.specs.declared.Reading.{Reading}
use Rattle.messages.specs.Read.{typed_of, body_read, body_number}
use Rattle.messages.proofs.ReadWays.{by_table, kept_whole}
use Rattle.line.specs.Cases.{fewest, untyped, Framed, Headed, Faulty, RightUpTo, Case, Taken, Short, Long, Unprintable, NoSequence, NoStamp, NoFacility, NoType, Spacing, Field, Number, LongPlan}
use Rattle.line.specs.Messages.{AnswerOf, answer_to, number_of, place_of}
use Rattle.line.specs.Read.{type_by, head_of, with_body, rest_of, by_head, read_by, head_number, refusal_number, refusal_place, number_by, place_by, free_of}
use Rattle.line.specs.declared.front.Head.{Head}
use Rattle.line.specs.declared.Refusal.{Refusal}
use Rattle.line.specs.declared.Refusal.TheVariants as refusal
use Rattle.line.proofs.Heads.{made_of, type_by_sound, type_by_complete}
use Rattle.line.proofs.Ways.{line_short, line_long, line_byte, line_head, rest_long}
use Rattle.line.proofs.Lines.{reads_allowed, allowed_reads, line_numbers}
use Rattle.line.proofs.Theorems.{answer_told}
use Rattle.line.proofs.CasesBodies.{faulty_fields, no_fields, fields_none, fault_faulty, faulty_fault}
use Rattle.table.specs.declared.kinds.NotRead.TheVariants.{Nothing, Number}
use Rattle.messages.specs.declared.Body.{Body}

-- the line is in the case of the answer that it reads as
abbrev Own : Rule → List ℕ → Type 0
Own ρ s = Case ρ s (number_by (read_by ρ s)) (place_by (read_by ρ s))

-- only an FZ has a limit of its own
plan_type : (ρ : Rule) (t : MessageType) (n : ℕ) → is_long_plan ρ t n ≡ true → (t ≡ Fz) × (longest_plan < n - type_at ρ)
unfolding fits is_of
plan_type ρ t n =
    each_type (λ t. is_long_plan ρ t n ≡ true → (t ≡ Fz) × (longest_plan < n - type_at ρ)) (λ e. true_false e refl) (λ e. true_false e refl) (λ e. true_false e refl)
    (λ e. (refl, ltb-true longest_plan (n - type_at ρ) e)) (λ e. true_false e refl) (λ e. true_false e refl) (λ e. true_false e refl) (λ e. true_false e refl)
    (λ e. true_false e refl) (λ e. true_false e refl) t

-- THE NUMBER of a line is that of its head where this is refused, else that of its body
with_number : (h : Head) (b : Result (Body × Bool) Fault) → number_by (with_body h b) ≡ body_number b
with_number h (Ok (b, t)) = refl
with_number h (Err x) = refl

head_number_lem : (ρ : Rule) (s : List ℕ) (h : Result Head Refusal) → (head_number h ≡ 0 → ⊥) → number_by (by_head ρ s h) ≡ head_number h
head_number_lem ρ s (Ok h) n = absurd (n refl)
head_number_lem ρ s (Err x) n = refl

-- the document's numbers of bytes are those of the head's parts
fewest_is : (ρ : Rule) → fewest ρ ≡ head_length ρ
fewest_is New = refl
fewest_is Old = refl

untyped_is : (ρ : Rule) → untyped ρ ≡ type_at ρ
untyped_is New = refl
untyped_is Old = refl

-- ---- what each case's facts make of a line, step by step

module _ (ρ : Rule) (s : List ℕ) where
  framed_reads : Framed ρ s → {h : (Result Head Refusal)} → head_of ρ s ≡ h → by_head ρ s h ≡ read_by ρ s
  framed_reads f e = line_head ρ s (rw (← (fewest_is ρ)) f.enough) f.few f.printable e

  pub framed_number : Framed ρ s → (head_number (head_of ρ s) ≡ 0 → ⊥) → number_by (read_by ρ s) ≡ head_number (head_of ρ s)
  framed_number f n = ap number_by (sym (framed_reads f refl)) ∙ head_number_lem ρ s (head_of ρ s) n

  no_sequence_reads : Framed ρ s → (sequence_in ρ).form (sequence_part ρ s) ≡ false → Err refusal.NoSequence ≡ read_by ρ s
  unfolding head_of
  no_sequence_reads f p = framed_reads f {h = Err refusal.NoSequence} (rw p)

  no_stamp_reads : Framed ρ s → (sequence_in ρ).form (sequence_part ρ s) ≡ true → (stamp_in ρ).form (stamp_part ρ s) ≡ false → Err refusal.NoStamp ≡ read_by ρ s
  unfolding head_of
  no_stamp_reads f p q = framed_reads f {h = Err refusal.NoStamp} (rw (p, q))

  no_facility_reads : Framed ρ s → (sequence_in ρ).form (sequence_part ρ s) ≡ true → (stamp_in ρ).form (stamp_part ρ s) ≡ true → (facility_in ρ).form (facility_part ρ s) ≡ false → Err refusal.NoFacility ≡ read_by ρ s
  unfolding head_of
  no_facility_reads f p q r = framed_reads f {h = Err refusal.NoFacility} (rw (p, q, r))

  no_type_reads : Framed ρ s → (sequence_in ρ).form (sequence_part ρ s) ≡ true → (stamp_in ρ).form (stamp_part ρ s) ≡ true → (facility_in ρ).form (facility_part ρ s) ≡ true → type_by ρ (type_part ρ s) ≡ None → Err refusal.NoType ≡ read_by ρ s
  unfolding head_of
  no_type_reads f p q r e = framed_reads f {h = Err refusal.NoType} (rw (p, q, r, e))

  module _ (t : MessageType) (k : Headed ρ s t) where
    headed_reads : rest_of ρ (made_of ρ s t) s ≡ read_by ρ s
    unfolding head_of
    headed_reads = framed_reads k.stamped.framed {h = Ok (made_of ρ s t)} (rw (k.stamped.sequence, k.stamped.stamp, k.stamped.facility, k.type, type_by_complete ρ t k.given))

    long_reads : is_long_plan ρ t (length s) ≡ true → Err refusal.LongPlan ≡ read_by ρ s
    long_reads e = rest_long ρ (made_of ρ s t) s e ∙ headed_reads

    body_reads : is_long_plan ρ t (length s) ≡ false → {r : (Result (Body × Bool) Fault)} → body_read ρ t (body_part ρ s) ≡ r → with_body (made_of ρ s t) r ≡ read_by ρ s
    unfolding rest_of
    body_reads e {r} q = let z : with_body (made_of ρ s t) r ≡ rest_of ρ (made_of ρ s t) s = rw (e, q) in z ∙ headed_reads

    pub headed_number : is_long_plan ρ t (length s) ≡ false → number_by (read_by ρ s) ≡ body_number (body_read ρ t (body_part ρ s))
    headed_number e = ap number_by (sym (body_reads e refl)) ∙ with_number (made_of ρ s t) (body_read ρ t (body_part ρ s))

    table_reads : is_long_plan ρ t (length s) ≡ false → has_fields t ≡ true → {a : (Result (Bool × ℕ) Fault)} → answer_by ρ t (body_part ρ s) ≡ a → with_body (made_of ρ s t) (typed_of t (padded (values_by ρ t (body_part ρ s))) a) ≡ read_by ρ s
    table_reads e h q = body_reads e (by_table ρ t (body_part ρ s) h ∙ ap (typed_of t (padded (values_by ρ t (body_part ρ s)))) q)

  -- ---- each line is in the case of its answer: its tests one after another, in document 01's order

  -- a line that is refused with x is in its own case if it is in x's
  at : (x : Refusal) → Err x ≡ read_by ρ s → Case ρ s (refusal_number x) (refusal_place x) → Own ρ s
  at x e c = subst (λ (r : Result Reading Refusal). Case ρ s (number_by r) (place_by r)) e c

  taken_at : (x : Reading) → Ok x ≡ read_by ρ s → Own ρ s
  taken_at x e = let a = reads_allowed ρ s x (sym e) in subst (λ (r : Result Reading Refusal). Case ρ s (number_by r) (place_by r)) e (Taken x (free_of ρ s) a.0 a.1)

  -- a place is one more than an index
  placed : (n j i : ℕ) → j ≡ suc i → Case ρ s n (suc i) → Case ρ s n j
  placed n j i z c = subst (λ (p : ℕ). Case ρ s n p) (sym z) c

  body_case : (t : MessageType) → Headed ρ s t → is_long_plan ρ t (length s) ≡ false → Own ρ s
  body_case t k l = go (has_fields t) refl
    where
      refused : has_fields t ≡ true → (x : Fault) → answer_by ρ t (body_part ρ s) ≡ Err x → Case ρ s (fault_number x) (fault_place x)
      refused h fault.Spacing q = Spacing t k l h (no_fields ρ t (body_part ρ s) q)
      refused h (fault.Field j) q = let (i, z, f) = fault_faulty ρ t (body_part ρ s) j (Err Nothing) refl q in placed 9 j i z (Field t i k l f)
      refused h (fault.Number j) q = let (i, z, f) = fault_faulty ρ t (body_part ρ s) j (Err Number) refl q in placed 10 j i z (Number t i k l f)

      by : has_fields t ≡ true → (a : Result (Bool × ℕ) Fault) → answer_by ρ t (body_part ρ s) ≡ a → Own ρ s
      by h (Ok (u, m)) q = taken_at _ (table_reads t k l h q)
      by h (Err x) q = at (refusal.Body x) (table_reads t k l h q) (refused h x q)

      go : (c : Bool) → has_fields t ≡ c → Own ρ s
      go true h = by h (answer_by ρ t (body_part ρ s)) refl
      go false h = taken_at _ (body_reads t k l (kept_whole ρ t (body_part ρ s) h))

  headed_case : (t : MessageType) → Headed ρ s t → Own ρ s
  headed_case t k = go (is_long_plan ρ t (length s)) refl
    where
      go : (c : Bool) → is_long_plan ρ t (length s) ≡ c → Own ρ s
      go true e = let p = plan_type ρ t (length s) e in at refusal.LongPlan (long_reads t k e) (LongPlan (subst (λ (u : MessageType). Headed ρ s u) p.0 k) (rw (untyped_is ρ) p.1))
      go false e = body_case t k e

  framed_case : Framed ρ s → Own ρ s
  framed_case f = sequence ((sequence_in ρ).form (sequence_part ρ s)) refl
    where
      typed : (sequence_in ρ).form (sequence_part ρ s) ≡ true → (stamp_in ρ).form (stamp_part ρ s) ≡ true → (facility_in ρ).form (facility_part ρ s) ≡ true → (d : Option MessageType) → type_by ρ (type_part ρ s) ≡ d → Own ρ s
      typed p q r (Some t) e =
          let d = type_by_sound ρ (type_part ρ s) t e in
          headed_case t (record { stamped = record { framed = f; sequence = p; stamp = q; facility = r }; given = d.1; type = sym d.0 })
      typed p q r None e =
          at refusal.NoType (no_type_reads f p q r e)
          (NoType (record { framed = f; sequence = p; stamp = q; facility = r })
          (λ t g x. let z : None ≡ Some t = sym e ∙ ap (type_by ρ) x ∙ type_by_complete ρ t g in let y : ◌≡◌ {A = ℕ} 0 1 = cc in omega arith))

      facility : (sequence_in ρ).form (sequence_part ρ s) ≡ true → (stamp_in ρ).form (stamp_part ρ s) ≡ true → (c : Bool) → (facility_in ρ).form (facility_part ρ s) ≡ c → Own ρ s
      facility p q true r = typed p q r (type_by ρ (type_part ρ s)) refl
      facility p q false r = at refusal.NoFacility (no_facility_reads f p q r) (NoFacility f p q r)

      stamp : (sequence_in ρ).form (sequence_part ρ s) ≡ true → (c : Bool) → (stamp_in ρ).form (stamp_part ρ s) ≡ c → Own ρ s
      stamp p true q = facility p q ((facility_in ρ).form (facility_part ρ s)) refl
      stamp p false q = at refusal.NoStamp (no_stamp_reads f p q) (NoStamp f p q)

      sequence : (c : Bool) → (sequence_in ρ).form (sequence_part ρ s) ≡ c → Own ρ s
      sequence true p = stamp p ((stamp_in ρ).form (stamp_part ρ s)) refl
      sequence false p = at refusal.NoSequence (no_sequence_reads f p) (NoSequence f p)

  -- THE LAW: each line is in the case of its number and its place
  pub case_of : Case ρ s (number_by (read_by ρ s)) (place_by (read_by ρ s))
  case_of = enough (ltb (length s) (head_length ρ)) refl
    where
      printable : head_length ρ ≤ length s → length s ≤ longest_line → (c : Bool) → all_in 32 126 s ≡ c → Own ρ s
      printable h k true e = framed_case (record { enough = rw (fewest_is ρ) h; few = k; printable = e })
      printable h k false e = at refusal.Unprintable (line_byte ρ s h k e) (Unprintable (rw (fewest_is ρ) h) k e)

      few : head_length ρ ≤ length s → (c : Bool) → ltb longest_line (length s) ≡ c → Own ρ s
      few h true e = let k = ltb-true longest_line (length s) e in at refusal.Long (line_long ρ s h k) (Long k)
      few h false e = printable h (ltb-false longest_line (length s) e) (all_in 32 126 s) refl

      enough : (c : Bool) → ltb (length s) (head_length ρ) ≡ c → Own ρ s
      enough true e = let k = ltb-true (length s) (head_length ρ) e in at refusal.Short (line_short ρ s k) (Short (rw (fewest_is ρ) k))
      enough false e = few (ltb-false (length s) (head_length ρ) e) (ltb longest_line (length s)) refl

  -- ---- and in no other: the facts of a case make the line read as that case's answer

  refused : (x : Refusal) → Err x ≡ read_by ρ s → (number_by (read_by ρ s) ≡ refusal_number x) × (place_by (read_by ρ s) ≡ refusal_place x)
  refused x e = (ap number_by (sym e), ap place_by (sym e))

  -- letters that are no type's of the rule have no type
  no_type : ((t : MessageType) → has_type ρ t ≡ true → type_part ρ s ≡ type_text t → ⊥) → type_by ρ (type_part ρ s) ≡ None
  no_type none = go (type_by ρ (type_part ρ s)) refl
    where
      go : (d : Option MessageType) → type_by ρ (type_part ρ s) ≡ d → type_by ρ (type_part ρ s) ≡ None
      go (Some t) e = let d = type_by_sound ρ (type_part ρ s) t e in absurd (none t d.1 (sym d.0))
      go None e = e

  -- a line over 2,048 bytes has those of its head
  enough_long : longest_line < length s → head_length ρ ≤ length s
  enough_long h = go ρ
    where
      go : (ρ : Rule) → head_length ρ ≤ length s
      go New = omega arith
      go Old = omega arith

  -- THE LAW: the case that a line is in has its number and its place
  pub case_only : (n p : ℕ) → Case ρ s n p → (number_by (read_by ρ s) ≡ n) × (place_by (read_by ρ s) ≡ p)
  unfolding fits is_of
  case_only n p (Taken x r a e) = let q = ap (read_by ρ) (sym e) ∙ (allowed_reads ρ x r a).0 in (ap number_by q, ap place_by q)
  case_only n p (Short h) = refused refusal.Short (line_short ρ s (rw (← (fewest_is ρ)) h))
  case_only n p (Long h) = refused refusal.Long (line_long ρ s (enough_long h) h)
  case_only n p (Unprintable h k e) = refused refusal.Unprintable (line_byte ρ s (rw (← (fewest_is ρ)) h) k e)
  case_only n p (NoSequence f a) = refused refusal.NoSequence (no_sequence_reads f a)
  case_only n p (NoStamp f a b) = refused refusal.NoStamp (no_stamp_reads f a b)
  case_only n p (NoFacility f a b c) = refused refusal.NoFacility (no_facility_reads f a b c)
  case_only n p (NoType f d) = refused refusal.NoType (no_type_reads f.framed f.sequence f.stamp f.facility (no_type d))
  case_only n p (Spacing t k l h d) = refused (refusal.Body fault.Spacing) (table_reads t k l h (fields_none ρ t (body_part ρ s) d))
  case_only n p (Field t i k l f) = refused (refusal.Body (fault.Field (suc i))) (table_reads t k l (faulty_fields ρ t (body_part ρ s) i 9 f) (faulty_fault ρ t (body_part ρ s) i (Err Nothing) refl f))
  case_only n p (Number t i k l f) = refused (refusal.Body (fault.Number (suc i))) (table_reads t k l (faulty_fields ρ t (body_part ρ s) i 10 f) (faulty_fault ρ t (body_part ρ s) i (Err Number) refl f))
  case_only n p (LongPlan k h) = refused refusal.LongPlan (long_reads Fz k (lt-ltb 439 (length s - type_at ρ) (rw (← (untyped_is ρ)) h)))

  -- so no line is in two cases with different numbers or places
  pub one_case : (n p m q : ℕ) → Case ρ s n p → Case ρ s m q → (n ≡ m) × (p ≡ q)
  one_case n p m q c d =
      let x = case_only n p c in
      let y = case_only m q d in
      (sym x.0 ∙ y.0, sym x.1 ∙ y.1)

  -- and no line is in the case of a number above 11: 18 stays unused
  pub case_to_11 : (n p : ℕ) → Case ρ s n p → n ≤ 11
  case_to_11 n p c = omega (arith, (case_only n p c).0, line_numbers (read_by ρ s))

-- ---- a line that is right up to its field i

module _ (ρ : Rule) (s : List ℕ) (t : MessageType) (fs : List (List ℕ)) (i : ℕ) (u : RightUpTo ρ s t fs i) where
  abbrev here : ℕ → Type 0
  here n = FieldCase (kinds_of ρ t (length fs)) fs i n

  -- is answered 9 with its place where it has no reading
  pub wrong_there : here 9 → (number_by (read_by ρ s) ≡ 9) × (place_by (read_by ρ s) ≡ suc i)
  wrong_there c = case_only ρ s 9 (suc i) (Field t i u.head u.no_long_plan faulty)
    where
      faulty : Faulty ρ t (body_part ρ s) i 9
      faulty =
          record {
            fields = fs;
            trailing = u.trailing;
            text = u.text;
            every = u.every;
            count = u.count;
            first = record { inside = u.inside; before = u.before; here = c };
          }

  -- a line has one type, and its body one way to be fields
  same_type : (t' : MessageType) → Headed ρ s t' → t' ≡ t
  same_type t' k = let e : Some t' ≡ Some t = sym (type_by_complete ρ t' k.given) ∙ ap (type_by ρ) (sym k.type ∙ u.head.type) ∙ type_by_complete ρ t u.head.given in cc

  its_case : (t' : MessageType) (n : ℕ) → Headed ρ s t' → Faulty ρ t' (body_part ρ s) i n → here n
  its_case t' n k f =
      let e = (unique f.fields fs f.trailing u.trailing f.every u.every (f.text ∙ sym u.text)).0 in
      rw (same_type t' k, e) at f.first.here

  -- and with no number where it is right
  pub right_there : here 0 → place_by (read_by ρ s) ≡ suc i → ⊥
  right_there c = go (number_by (read_by ρ s)) (place_by (read_by ρ s)) (case_of ρ s)
    where
      none : (t' : MessageType) (j n : ℕ) → Headed ρ s t' → Faulty ρ t' (body_part ρ s) j n → suc j ≡ suc i → n ≡ 0
      none t' j n k f e = field_one (kinds_of ρ t (length fs)) fs (its_case t' n k (subst (λ (x : ℕ). Faulty ρ t' (body_part ρ s) x n) (suc_inj e) f)) c

      go : (n p : ℕ) → Case ρ s n p → p ≡ suc i → ⊥
      go n p (Taken x r a q) e = omega (arith, e)
      go n p (Short h) e = omega (arith, e)
      go n p (Long h) e = omega (arith, e)
      go n p (Unprintable h k q) e = omega (arith, e)
      go n p (NoSequence f a) e = omega (arith, e)
      go n p (NoStamp f a b) e = omega (arith, e)
      go n p (NoFacility f a b d) e = omega (arith, e)
      go n p (NoType f q) e = omega (arith, e)
      go n p (Spacing t' k l h d) e = omega (arith, e)
      go n p (Field t' j k l f) e = omega (arith, none t' j 9 k f e)
      go n p (Number t' j k l f) e = omega (arith, none t' j 10 k f e)
      go n p (LongPlan k h) e = omega (arith, e)

-- ---- the same of what the readers answer

module _ (ρ : Rule) (s : List ℕ) where
  pub answer_case : Case ρ s (number_of ρ (answer_to ρ s)) (place_of ρ (answer_to ρ s))
  answer_case = let q = answer_told ρ s in rw (q.0, q.1) (case_of ρ s)

  pub answer_only : (n p : ℕ) → Case ρ s n p → (number_of ρ (answer_to ρ s) ≡ n) × (place_of ρ (answer_to ρ s) ≡ p)
  answer_only n p c =
      let q = answer_told ρ s in
      let d = case_only ρ s n p c in
      (q.0 ∙ d.0, q.1 ∙ d.1)

  -- what `line::read` and `line::read_old` promise of their answers
  pub told : {r : AnswerOf ρ} → r ≡ answer_to ρ s → (r ≡ answer_to ρ s) × Case ρ s (number_of ρ r) (place_of ρ r)
  told e = (e, subst (λ (x : AnswerOf ρ). Case ρ s (number_of ρ x) (place_of ρ x)) (sym e) answer_case)
