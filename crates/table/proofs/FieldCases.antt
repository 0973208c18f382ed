-- THE CASES of the fields of a body: what the reader answers of a field after those before it is the field's case, and a field is in one case only.
-- Assumes nothing.
use Rattle.std.specs.Prelude.{Result}
use mathlib.Core.Path.{◌≡◌, refl, sym, ap, ◌∙◌, subst}
use mathlib.Core.Bool.{Bool, true, false, cond}
use mathlib.Core.List.{List, [], ◌∷◌, map, Memᴰ}
use mathlib.Core.Logic.{◌⊎◌, inl, inr}
use Prim.Native.Char.{code}
use Prim.Native.Nat.{ℕ, zero, suc, ◌<◌}
use native.Mathlib.Nat.{suc_inj}
use native.Mathlib.Omega.{arith}
use lib.Bits.{bit_and, and_zero_l, and_self}
use lib.Dec.{eqb}
use lib.ListN.{length, take, get_or}
use borrow.Author.Tests.{eqb-true, eqb-false, eq-eqb}
use Rattle.text.proofs.Logic.{true_false}
use Rattle.rules.specs.Form.{is_time, is_position}
use Rattle.rules.specs.Kind.{FIX, TIME}
use Rattle.rules.specs.declared.Rule.{Rule}
use Rattle.rules.specs.declared.Rule.TheVariants.{New, Old}
use Rattle.table.specs.Amends.{Amends, the_eight, mark_of, mark_text, is_mark, content_of}
use Rattle.table.specs.Field.{AIRCRAFT, PLAN_TIME, AMENDMENT, CONTENT, kind_by, read_kind, read_in, trace_of, marks_of}
use Rattle.table.specs.Fault.{kind_at, field_at, FormCase, Formed, Unformed, Asked, Content, Time, Plain, NoPosition, FieldCase, ByForm, ERule, NoneOfEight, Twice, Fresh}
use Rattle.fields.specs.declared.heads.MessageType.{MessageType}
use Rattle.table.specs.Table.{table_of, table_by, kinds_of}
use Rattle.table.proofs.CountWays.{each_type}
use Rattle.table.proofs.KindRules.{some_rule, no_rule, one_rule, is_content, content_time, content_number, by_amendment, by_fix, by_plan_time, by_content}
use Rattle.table.proofs.Eight.{eight_or_none, mark_zero, eight_marks, mark_is, text_mark, mark_some}
use Rattle.table.proofs.MarkSets.{marks_apart, both_apart}
use Rattle.table.specs.Read.{field_number}
use Rattle.table.proofs.FieldForms.{form_own, form_one, in_number, in_time, in_content, in_plain, number_left, fix_left, time_form}
use Rattle.table.specs.declared.kinds.NotRead.{NotRead}
use Rattle.table.specs.declared.kinds.Value.{Value}

-- ---- what the fields before one leave for it, and what is answered of it

abbrev pub trace_at : List ℕ → List (List ℕ) → ℕ → ℕ
trace_at ks fs zero = 0
trace_at ks fs (suc i) = trace_of (kind_at ks i) (field_at fs i)

abbrev pub marks_at : List ℕ → List (List ℕ) → ℕ → ℕ
marks_at ks fs zero = 0
marks_at ks fs (suc i) = marks_of (kind_at ks i) (marks_at ks fs i) (field_at fs i)

abbrev pub read_at : List ℕ → List (List ℕ) → ℕ → Result Value NotRead
read_at ks fs i = read_in (kind_at ks i) (trace_at ks fs i) (marks_at ks fs i) (field_at fs i)

-- ---- the tables: a content stands after a number, the time of FZ and UZ after the fix

abbrev follow : ℕ → ℕ → Bool
follow q k = cond (is_content k) (eqb q AMENDMENT) (cond (eqb k PLAN_TIME) (eqb q FIX) true)

-- q is the kind before
abbrev pub tied : ℕ → List ℕ → Bool
tied q [] = true
tied q (k ∷ ks) = cond (follow q k) (tied k ks) false

abbrev kind_before : ℕ → List ℕ → ℕ → ℕ
kind_before q ks zero = q
kind_before q ks (suc i) = kind_at ks i

tied_at : (q : ℕ) (ks : List ℕ) → tied q ks ≡ true → (i : ℕ) → i < length ks → follow (kind_before q ks i) (kind_at ks i) ≡ true
tied_at q [] e i h = absurd (omega arith)
tied_at q (k ∷ ks) e zero h = go (follow q k) refl
  where
    go : (b : Bool) → follow q k ≡ b → follow q k ≡ true
    go true p = p
    go false p = true_false (rw p at e) refl
tied_at q (k ∷ ks) e (suc i) h = go (follow q k) refl (tied_at k ks) i (omega arith)
  where
    go : (b : Bool) → follow q k ≡ b → (tied k ks ≡ true → (i : ℕ) → i < length ks → follow (kind_before k ks i) (kind_at ks i) ≡ true)
        → (i : ℕ) → i < length ks → follow (kind_before q (k ∷ ks) (suc i)) (kind_at ks i) ≡ true
    go true p ih zero l = ih (rw p at e) zero l
    go true p ih (suc i) l = ih (rw p at e) (suc i) l
    go false p ih i l = true_false (rw p at e) refl

-- the first of tied kinds are tied
tied_take : (q : ℕ) (ks : List ℕ) (n : ℕ) → tied q ks ≡ true → tied q (take n ks) ≡ true
tied_take q ks zero e = refl
tied_take q [] (suc n) e = refl
tied_take q (k ∷ ks) (suc n) e = go (follow q k) refl (tied_take k ks n)
  where
    go : (b : Bool) → follow q k ≡ b → (tied k ks ≡ true → tied k (take n ks) ≡ true) → tied q (take (suc n) (k ∷ ks)) ≡ true
    go true p ih = rw p (ih (rw p at e))
    go false p ih = true_false (rw p at e) refl

-- and kinds are by any rule as they are
tied_by : (ρ : Rule) (q : ℕ) (ks : List ℕ) → tied (kind_by ρ q) (map (kind_by ρ) ks) ≡ tied q ks
tied_by ρ q [] = refl
tied_by ρ q (k ∷ ks) = rw (by_content ρ k, by_amendment ρ q, by_plan_time ρ k, by_fix ρ q, tied_by ρ k ks)

-- those of every table are tied
pub table_tied : (ρ : Rule) (t : MessageType) (n : ℕ) → tied 0 (kinds_of ρ t n) ≡ true
unfolding kinds_of table_by
table_tied ρ t n = tied_take 0 (table_by ρ t) n (first ρ ∙ each_type (λ t. tied 0 (table_of t) ≡ true) refl refl refl refl refl refl refl refl refl refl t)
  where
    first : (ρ : Rule) → tied 0 (table_by ρ t) ≡ tied 0 (table_of t)
    first New = tied_by New 0 (table_of t)
    first Old = tied_by Old 0 (table_of t)

module _ (ks : List ℕ) (fs : List (List ℕ)) where
  -- ---- the marks are those of the numbers that came

  -- a number's mark that is in stands in a number's field before
  pub came : (i : ℕ) (s : List ℕ) → eqb (mark_of s) 0 ≡ false → (bit_and (marks_at ks fs i) (mark_of s) ≡ 0 → ⊥)
      → (j : ℕ) × (j < i) × (kind_at ks j ≡ AMENDMENT) × (field_at fs j ≡ s)
  unfolding marks_of
  came zero s n e = absurd (e (and_zero_l (mark_of s)))
  came (suc i) s n e = go (eqb (kind_at ks i) AMENDMENT) refl (eqb (mark_of s) (mark_of (field_at fs i))) refl (came i s n)
    where
      later : (j : ℕ) × (j < i) × (kind_at ks j ≡ AMENDMENT) × (field_at fs j ≡ s) → (j : ℕ) × (j < suc i) × (kind_at ks j ≡ AMENDMENT) × (field_at fs j ≡ s)
      later (j, l, k, f) = (j, omega arith, k, f)

      -- another number, or none: it has nothing in common with s
      other : eqb (mark_of s) (mark_of (field_at fs i)) ≡ false → (c : Bool) → eqb (mark_of (field_at fs i)) 0 ≡ c → bit_and (mark_of (field_at fs i)) (mark_of s) ≡ 0
      other q true z = rw (eqb-true (mark_of (field_at fs i)) 0 z) (and_zero_l (mark_of s))
      other q false z = marks_apart (mark_of (field_at fs i)) (mark_of s) (mark_is (field_at fs i) z) (mark_is s n) q

      go : (b : Bool) → eqb (kind_at ks i) AMENDMENT ≡ b → (c : Bool) → eqb (mark_of s) (mark_of (field_at fs i)) ≡ c
          → ((bit_and (marks_at ks fs i) (mark_of s) ≡ 0 → ⊥) → (j : ℕ) × (j < i) × (kind_at ks j ≡ AMENDMENT) × (field_at fs j ≡ s))
          → (j : ℕ) × (j < suc i) × (kind_at ks j ≡ AMENDMENT) × (field_at fs j ≡ s)
      go true x true q ih =
          let z = eqb-true (mark_of s) (mark_of (field_at fs i)) q in
          (i, omega arith, eqb-true (kind_at ks i) AMENDMENT x, sym (text_mark (field_at fs i) (rw z at n)) ∙ ap mark_text (sym z) ∙ text_mark s n)
      go true x false q ih = later (ih (λ z. e (rw x ((both_apart (marks_at ks fs i) (mark_of (field_at fs i)) (mark_of s)).1 z (other q (eqb (mark_of (field_at fs i)) 0) refl)))))
      go false x c q ih = later (ih (λ z. e (rw x z)))

  -- and a number that stands in a number's field before has its mark in
  pub stays : (i : ℕ) (s : List ℕ) → bit_and (marks_at ks fs i) (mark_of s) ≡ 0 → (j : ℕ) → j < i → kind_at ks j ≡ AMENDMENT → field_at fs j ≡ s → mark_of s ≡ 0
  unfolding marks_of
  stays zero s e j l k f = absurd (omega arith)
  stays (suc i) s e j l k f = go (eqb j i) refl (stays i s)
    where
      both : eqb (kind_at ks i) AMENDMENT ≡ true → (bit_and (marks_at ks fs i) (mark_of s) ≡ 0) × (bit_and (mark_of (field_at fs i)) (mark_of s) ≡ 0)
      both x = (both_apart (marks_at ks fs i) (mark_of (field_at fs i)) (mark_of s)).0 (rw x at e)

      less : (b : Bool) → eqb (kind_at ks i) AMENDMENT ≡ b → bit_and (marks_at ks fs i) (mark_of s) ≡ 0
      less true x = (both x).0
      less false x = rw x at e

      go : (b : Bool) → eqb j i ≡ b → (bit_and (marks_at ks fs i) (mark_of s) ≡ 0 → (j : ℕ) → j < i → kind_at ks j ≡ AMENDMENT → field_at fs j ≡ s → mark_of s ≡ 0)
          → mark_of s ≡ 0
      go true q ih =
          let z = eqb-true j i q in
          let g : field_at fs i ≡ s = ap (field_at fs) (sym z) ∙ f in
          sym (and_self (mark_of s)) ∙ (rw g at (both (eq-eqb (kind_at ks i) AMENDMENT (ap (kind_at ks) (sym z) ∙ k))).1)
      go false q ih = ih (less (eqb (kind_at ks i) AMENDMENT) refl) j (let n = eqb-false j i q in omega arith) k f

  -- ---- what is answered of a field is its case

  -- an amendment's number
  number_own : (i : ℕ) → kind_at ks i ≡ AMENDMENT → FieldCase ks fs i (field_number (read_at ks fs i))
  number_own i k = subst (FieldCase ks fs i) (sym (ap (λ j. field_number (read_in j (trace_at ks fs i) m s)) k ∙ in_number (trace_at ks fs i) m s)) (go (eight_or_none s))
    where
      s : List ℕ
      s = field_at fs i

      m : ℕ
      m = marks_at ks fs i

      one : (a : Amends) → Memᴰ a the_eight → a.number ≡ s → eqb (mark_of s) 0 ≡ false → (b : Bool) → eqb (bit_and m (mark_of s)) 0 ≡ b
          → FieldCase ks fs i (cond (eqb (mark_of s) 0) 10 (cond (eqb (bit_and m (mark_of s)) 0) 0 10))
      one a h e n true q =
          rw (n, q) (Fresh k a h e (λ c. eqb-false (mark_of s) 0 n (stays i s (eqb-true (bit_and m (mark_of s)) 0 q) c.at c.earlier c.number c.same)))
      one a h e n false q =
          let (j, l, x, f) = came i s n (eqb-false (bit_and m (mark_of s)) 0 q) in
          rw (n, q) (Twice k (record { at = j; earlier = l; number = x; same = f }))

      go : ((a : Amends) × Memᴰ a the_eight × (a.number ≡ s)) ⊎ (mark_of s ≡ 0) → FieldCase ks fs i (cond (eqb (mark_of s) 0) 10 (cond (eqb (bit_and m (mark_of s)) 0) 0 10))
      go (inl (a, h, e)) = one a h e (mark_some (mark_of s) (subst (λ t. is_mark (mark_of t) ≡ true) e (eight_marks a h).0)) (eqb (bit_and m (mark_of s)) 0) refl
      go (inr z) = rw (eq-eqb (mark_of s) 0 z) (NoneOfEight k (mark_zero s z))

  -- the time of an FZ or UZ, after a fix
  time_own : (j : ℕ) → kind_at ks (suc j) ≡ PLAN_TIME → kind_at ks j ≡ FIX → FieldCase ks fs (suc j) (field_number (read_at ks fs (suc j)))
  time_own j k x = subst (FieldCase ks fs (suc j)) (sym told) (go (is_time s) refl (eqb (get_or s 0 0) (code "E")) refl (is_position f) refl)
    where
      s : List ℕ
      s = field_at fs (suc j)

      f : List ℕ
      f = field_at fs j

      left : eqb (trace_at ks fs (suc j)) 1 ≡ is_position f
      left = ap (λ n. eqb (trace_of n f) 1) x ∙ fix_left f

      told : field_number (read_at ks fs (suc j)) ≡ cond (is_time s) (cond (eqb (get_or s 0 0) (code "E")) (cond (is_position f) 0 9) 0) 9
      told =
          ap (λ n. field_number (read_in n (trace_at ks fs (suc j)) (marks_at ks fs (suc j)) s)) k
          ∙ in_time (trace_at ks fs (suc j)) (marks_at ks fs (suc j)) s
          ∙ ap (λ b. cond (is_time s) (cond (eqb (get_or s 0 0) (code "E")) (cond b 0 9) 0) 9) left

      right : is_time s ≡ true → FormCase TIME s 0
      right q = Formed (no_rule AIRCRAFT TIME refl) (time_form s ∙ q)

      go : (b : Bool) → is_time s ≡ b → (c : Bool) → eqb (get_or s 0 0) (code "E") ≡ c → (d : Bool) → is_position f ≡ d
          → FieldCase ks fs (suc j) (cond (is_time s) (cond (eqb (get_or s 0 0) (code "E")) (cond (is_position f) 0 9) 0) 9)
      go false q c e d p = rw q (ByForm (Time k) (Unformed (no_rule AIRCRAFT TIME refl) (time_form s ∙ q)) (λ z n. omega arith))
      go true q false e d p = rw (q, e) (ByForm (Time k) (right q) (λ z n. eqb-false (get_or s 0 0) (code "E") e n.has_E))
      go true q true e true p = rw (q, e, p) (ByForm (Time k) (right q) (λ z n. true_false p (ap (λ i. is_position (field_at fs i)) (suc_inj n.before) ∙ n.no_position)))
      go true q true e false p =
          rw (q, e, p) (ERule (right q) (record { time = k; has_E = eqb-true (get_or s 0 0) (code "E") e; fix = j; before = refl; is_fix = x; no_position = p }))

  -- a content, after a number that is right
  content_own : (ρ : Rule) (j : ℕ) → kind_at ks (suc j) ≡ kind_by ρ CONTENT → kind_at ks j ≡ AMENDMENT → field_number (read_at ks fs j) ≡ 0
      → FieldCase ks fs (suc j) (field_number (read_at ks fs (suc j)))
  content_own ρ j k x e = go (eight_or_none f)
    where
      f : List ℕ
      f = field_at fs j

      s : List ℕ
      s = field_at fs (suc j)

      -- what is answered of the number
      number : ◌≡◌ {A = ℕ} (cond (eqb (mark_of f) 0) 10 (cond (eqb (bit_and (marks_at ks fs j) (mark_of f)) 0) 0 10)) 0
      number = sym (ap (λ n. field_number (read_in n (trace_at ks fs j) (marks_at ks fs j) f)) x ∙ in_number (trace_at ks fs j) (marks_at ks fs j) f) ∙ e

      asks : (a : Amends) → Memᴰ a the_eight → a.number ≡ f → content_of (trace_at ks fs (suc j)) ≡ a.content
      asks a h q = ap content_of (ap (λ n. trace_of n f) x ∙ number_left f ∙ ap mark_of (sym q)) ∙ (eight_marks a h).2

      go : ((a : Amends) × Memᴰ a the_eight × (a.number ≡ f)) ⊎ (mark_of f ≡ 0) → FieldCase ks fs (suc j) (field_number (read_at ks fs (suc j)))
      go (inl (a, h, q)) =
          let p = trace_at ks fs (suc j) in
          let m = marks_at ks fs (suc j) in
          let r : read_at ks fs (suc j) ≡ read_kind (kind_by ρ a.content) s = ap (λ n. read_in n p m s) k ∙ in_content ρ p m s ∙ ap (λ n. read_kind (kind_by ρ n) s) (asks a h q) in
          subst (λ y. FieldCase ks fs (suc j) (field_number y)) (sym r)
          (ByForm (Content ρ j refl k a h q) (form_own (kind_by ρ a.content) s) (λ z n. content_time ρ k n.time))
      go (inr z) = let y : ◌≡◌ {A = ℕ} 10 0 = rw (eq-eqb (mark_of f) 0 z) at number in absurd (omega arith)

  plain_own : (i : ℕ) → eqb (kind_at ks i) AMENDMENT ≡ false → is_content (kind_at ks i) ≡ false → eqb (kind_at ks i) PLAN_TIME ≡ false → FieldCase ks fs i (field_number (read_at ks fs i))
  plain_own i x y z =
      let t = eqb-false (kind_at ks i) PLAN_TIME z in
      subst (λ r. FieldCase ks fs i (field_number r)) (sym (in_plain (kind_at ks i) (trace_at ks fs i) (marks_at ks fs i) (field_at fs i) x y z))
      (ByForm (Plain (no_rule CONTENT (kind_at ks i) y) t (eqb-false (kind_at ks i) AMENDMENT x)) (form_own (kind_at ks i) (field_at fs i)) (λ e n. t n.time))

  -- THE LAW: after fields that are right, what is answered of a field is its case
  pub field_own : tied 0 ks ≡ true → (i : ℕ) → i < length ks → ((j : ℕ) → j < i → field_number (read_at ks fs j) ≡ 0) → FieldCase ks fs i (field_number (read_at ks fs i))
  field_own t i h right = by i h right (tied_at 0 ks t i h) (eqb (kind_at ks i) AMENDMENT) refl (is_content (kind_at ks i)) refl (eqb (kind_at ks i) PLAN_TIME) refl
    where
      by : (i : ℕ) → i < length ks → ((j : ℕ) → j < i → field_number (read_at ks fs j) ≡ 0) → follow (kind_before 0 ks i) (kind_at ks i) ≡ true
          → (a : Bool) → eqb (kind_at ks i) AMENDMENT ≡ a → (b : Bool) → is_content (kind_at ks i) ≡ b → (c : Bool) → eqb (kind_at ks i) PLAN_TIME ≡ c
          → FieldCase ks fs i (field_number (read_at ks fs i))
      by i h right f true x b y c z = number_own i (eqb-true (kind_at ks i) AMENDMENT x)
      by i h right f false x false y false z = plain_own i x y z
      by zero h right f false x true y c z = let w : false ≡ true = rw y at f in true_false w refl
      by zero h right f false x false y true z = let w : false ≡ true = rw (y, z) at f in true_false w refl
      by (suc j) h right f false x true y c z =
          let (ρ, k) = some_rule CONTENT (kind_at ks (suc j)) y in
          content_own ρ j k (eqb-true (kind_at ks j) AMENDMENT (rw y at f)) (right j (omega arith))
      by (suc j) h right f false x false y true z = time_own j (eqb-true (kind_at ks (suc j)) PLAN_TIME z) (eqb-true (kind_at ks j) FIX (rw (y, z) at f))

  -- ---- a field is in one case

  asked_one : {i k n : ℕ} → Asked ks fs i k → Asked ks fs i n → k ≡ n
  asked_one (Content ρ j e k a h q) (Content ρ' j' e' k' a' h' q') =
      let z : j ≡ j' = omega arith in
      let c : a.content ≡ a'.content = sym (eight_marks a h).2 ∙ ap (λ t. content_of (mark_of t)) (q ∙ ap (field_at fs) z ∙ sym q') ∙ (eight_marks a' h').2 in
      ap (kind_by ρ) c ∙ ap (λ σ. kind_by σ a'.content) (one_rule CONTENT (λ y. omega (arith, y)) ρ ρ' (sym k ∙ k'))
  asked_one (Content ρ j e k a h q) (Time t) = absurd (content_time ρ k t)
  asked_one (Content ρ j e k a h q) (Plain c t n) = absurd (c ρ k)
  asked_one (Time t) (Content ρ j e k a h q) = absurd (content_time ρ k t)
  asked_one (Time t) (Time t') = refl
  asked_one (Time t) (Plain c n m) = absurd (n t)
  asked_one (Plain c t n) (Content ρ j e k a h q) = absurd (c ρ k)
  asked_one (Plain c t n) (Time t') = absurd (t t')
  asked_one (Plain c t n) (Plain c' t' n') = refl

  -- a number's field is asked for no form
  no_form : {i k : ℕ} → Asked ks fs i k → kind_at ks i ≡ AMENDMENT → ⊥
  no_form (Content ρ j e k a h q) x = content_number ρ k x
  no_form (Time t) x = omega arith
  no_form (Plain c t n) x = n x

  no_time : {i : ℕ} → NoPosition ks fs i → kind_at ks i ≡ AMENDMENT → ⊥
  no_time n x = let t = n.time in omega arith

  form_rule : {i k n : ℕ} → Asked ks fs i k → FormCase k (field_at fs i) n → (n ≡ 0 → NoPosition ks fs i → ⊥) → FormCase TIME (field_at fs i) 0 → NoPosition ks fs i → ⊥
  form_rule {i} {k} {n} a f g t p = g (form_one f (subst (λ j. FormCase j (field_at fs i) 0) (asked_one (Time p.time) a) t)) p

  pub field_one : {i n m : ℕ} → FieldCase ks fs i n → FieldCase ks fs i m → n ≡ m
  field_one {i} {n} {m} (ByForm a f g) (ByForm a' f' g') = form_one f (subst (λ j. FormCase j (field_at fs i) m) (asked_one a' a) f')
  field_one (ByForm a f g) (ERule t p) = absurd (form_rule a f g t p)
  field_one (ByForm a f g) (NoneOfEight k e) = absurd (no_form a k)
  field_one (ByForm a f g) (Twice k c) = absurd (no_form a k)
  field_one (ByForm a f g) (Fresh k x h e c) = absurd (no_form a k)
  field_one (ERule t p) (ByForm a f g) = absurd (form_rule a f g t p)
  field_one (ERule t p) (ERule t' p') = refl
  field_one (ERule t p) (NoneOfEight k e) = absurd (no_time p k)
  field_one (ERule t p) (Twice k c) = absurd (no_time p k)
  field_one (ERule t p) (Fresh k x h e c) = absurd (no_time p k)
  field_one (NoneOfEight k e) (ByForm a f g) = absurd (no_form a k)
  field_one (NoneOfEight k e) (ERule t p) = absurd (no_time p k)
  field_one (NoneOfEight k e) (NoneOfEight k' e') = refl
  field_one (NoneOfEight k e) (Twice k' c) = refl
  field_one (NoneOfEight k e) (Fresh k' x h q c) = absurd (e x h q)
  field_one (Twice k c) (ByForm a f g) = absurd (no_form a k)
  field_one (Twice k c) (ERule t p) = absurd (no_time p k)
  field_one (Twice k c) (NoneOfEight k' e) = refl
  field_one (Twice k c) (Twice k' c') = refl
  field_one (Twice k c) (Fresh k' x h q d) = absurd (d c)
  field_one (Fresh k x h q d) (ByForm a f g) = absurd (no_form a k)
  field_one (Fresh k x h q d) (ERule t p) = absurd (no_time p k)
  field_one (Fresh k x h q d) (NoneOfEight k' e) = absurd (e x h q)
  field_one (Fresh k x h q d) (Twice k' c) = absurd (d c)
  field_one (Fresh k x h q d) (Fresh k' x' h' q' d') = refl
