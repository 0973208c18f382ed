-- THE THEOREMS of what is refused by any list of kinds: the spacing, and the first field that is not right. Assumes nothing.
use Rattle.std.specs.Prelude.{Err, Ok, Result}
use mathlib.Core.Path.{◌≡◌, refl, sym, ap, ◌∙◌, subst}
use mathlib.Core.Bool.{Bool, true, false}
use mathlib.Core.List.{List, [], ◌∷◌}
use mathlib.Core.Logic.{◌⊎◌, inl, inr}
use Prim.Native.Nat.{ℕ, zero, suc, ◌+◌, ◌≤◌, ◌<◌}
use native.Mathlib.Omega.{arith}
use lib.Dec.{eqb}
use lib.ListN.{length, drop, drop_of_length-le}
use lib.Seq.{drop-cons}
use borrow.Author.Tests.{eqb-true, eqb-false}
use Rattle.text.proofs.Logic.{true_false}
use Rattle.table.specs.Spacing.{body_of, all_fields, Split, Fields, Wrong, fields_of}
use Rattle.table.proofs.SpacingLaws.{fields_text_lem, fields_body}
use Rattle.table.specs.Field.{read_in, trace_of, marks_of}
use Rattle.table.specs.Fault.{FieldCase, FirstFault}
use Rattle.table.specs.Read.{fault_at, or_else, answer_from, counted, answers, answer_of, field_number, fault_number, fault_place, answer_number, answer_place}
use Rattle.table.specs.declared.walk.Fault.TheVariants.{Spacing, Field, Number}
use Rattle.table.proofs.FieldCases.{trace_at, marks_at, read_at, tied, field_own, field_one}
use Rattle.table.proofs.Theorems.{counted_known, counted_is, parted, not_taken}
use Rattle.table.specs.declared.kinds.NotRead.TheVariants.{Nothing, Number}
use Rattle.table.specs.declared.walk.Fault.{Fault}
use Rattle.table.specs.declared.kinds.NotRead.{NotRead}
use Rattle.table.specs.declared.kinds.Value.{Value}

-- no list of fields is field_number by its spacing
no_spacing : (i : ℕ) (t : Bool) (ks : List ℕ) (p m : ℕ) (fs : List (List ℕ)) → answer_from i t ks p m fs ≡ Err Spacing → ⊥
unfolding answer_from
no_spacing i t [] p m fs e = not_taken t m Spacing (sym e)
no_spacing i t (k ∷ ks) p m [] e = not_taken t m Spacing (sym e)
no_spacing i t (k ∷ ks) p m (f ∷ fs) e = go (read_in k p m f) refl (no_spacing (suc i) t ks (trace_of k f) (marks_of k m f) fs)
  where
    go : (a : Result Value NotRead) → read_in k p m f ≡ a → (answer_from (suc i) t ks (trace_of k f) (marks_of k m f) fs ≡ Err Spacing → ⊥) → ⊥
    go (Ok v) q ih = ih (rw q at e)
    go (Err Nothing) q ih = let d : Err (Field i) ≡ Err Spacing = rw q at e in let z : ◌≡◌ {A = ℕ} 0 1 = cc in omega arith
    go (Err Number) q ih = let d : Err (Number i) ≡ Err Spacing = rw q at e in let z : ◌≡◌ {A = ℕ} 0 1 = cc in omega arith

-- 3. the spacing is refused exactly if no right number of fields has this text
pub spacing : (ks body : List ℕ) → length ks ≤ 19 → answer_of ks body ≡ Err Spacing → (fs : List (List ℕ)) (t : Bool) → all_fields fs ≡ true → length fs ≡ length ks → body_of fs t ≡ body → ⊥
unfolding answer_of answers
spacing ks body few e fs t a n x =
    let q : fields_of body ≡ Fields fs t = rw x at (fields_body fs t a) in
    no_spacing 1 t ks 0 0 fs (rw (q, counted_is ks fs n few) at e)

pub spacing_only : (ks body : List ℕ) → ((fs : List (List ℕ)) (t : Bool) → all_fields fs ≡ true → length fs ≡ length ks → body_of fs t ≡ body → ⊥) → answer_of ks body ≡ Err Spacing
unfolding answer_of answers
spacing_only ks body h = go (fields_of body) refl
  where
    go : (p : Split) → fields_of body ≡ p → answer_of ks body ≡ Err Spacing
    go Wrong q = rw q
    go (Fields fs t) q = at (counted ks fs) refl
      where
        at : (b : Bool) → counted ks fs ≡ b → answer_of ks body ≡ Err Spacing
        at true c = let x = fields_text_lem body fs t q in absurd (h fs t x.1 (counted_known ks fs c).0 x.0)
        at false c = rw (q, c)

-- an answer that is no value
abbrev pub is_fault : Result Value NotRead → Bool
is_fault (Ok v) = false
is_fault (Err Nothing) = true
is_fault (Err Number) = true

-- A FAULT AT A FIELD has the number of the field's answer, and its place
pub fault_number_lem : (i : ℕ) (a : Result Value NotRead) → is_fault a ≡ true → (fault_number (fault_at i a) ≡ field_number a) × (fault_place (fault_at i a) ≡ i)
fault_number_lem i (Err Nothing) h = (refl, refl)
fault_number_lem i (Err Number) h = (refl, refl)
fault_number_lem i (Ok v) h = true_false h refl

-- two faults are one only with one place
fault_same : (n j : ℕ) (a b : Result Value NotRead) → is_fault a ≡ true → is_fault b ≡ true → ◌≡◌ {A = Result (Bool × ℕ) Fault} (Err (fault_at n b)) (Err (fault_at j a)) → (j ≡ n) × (b ≡ a)
fault_same n j (Ok v) b h g e = true_false h refl
fault_same n j (Err Nothing) (Ok v) h g e = true_false g refl
fault_same n j (Err Nothing) (Err Nothing) h g e = ((cc), refl)
fault_same n j (Err Nothing) (Err Number) h g e = ((cc), (cc))
fault_same n j (Err Number) (Ok v) h g e = true_false g refl
fault_same n j (Err Number) (Err Nothing) h g e = ((cc), (cc))
fault_same n j (Err Number) (Err Number) h g e = ((cc), refl)

-- and none is the spacing
pub fault_spacing : (j : ℕ) (a : Result Value NotRead) → is_fault a ≡ true → ◌≡◌ {A = Result (Bool × ℕ) Fault} (Err Spacing) (Err (fault_at j a)) → ⊥
fault_spacing j (Ok v) h e = true_false h refl
fault_spacing j (Err Nothing) h e = let z : ◌≡◌ {A = ℕ} 0 1 = cc in omega arith
fault_spacing j (Err Number) h e = let z : ◌≡◌ {A = ℕ} 0 1 = cc in omega arith

or_fault : (n : ℕ) (a : Result Value NotRead) (rest : Result (Bool × ℕ) Fault) → is_fault a ≡ true → or_else n a rest ≡ Err (fault_at n a)
or_fault n (Ok v) rest h = true_false h refl
or_fault n (Err Nothing) rest h = refl
or_fault n (Err Number) rest h = refl

-- a field is read, and field_number 0, or it is at fault
read_or_fault : (a : Result Value NotRead) → (field_number a ≡ 0) ⊎ (is_fault a ≡ true)
read_or_fault (Ok v) = inl refl
read_or_fault (Err Nothing) = inr refl
read_or_fault (Err Number) = inr refl

or_read : (n : ℕ) (a : Result Value NotRead) (rest : Result (Bool × ℕ) Fault) → field_number a ≡ 0 → or_else n a rest ≡ rest
or_read n (Ok v) rest h = refl
or_read n (Err Nothing) rest h = absurd (omega arith)
or_read n (Err Number) rest h = absurd (omega arith)

-- faults have numbers of their own
number_fault : (a b : Result Value NotRead) → is_fault a ≡ true → field_number b ≡ field_number a → b ≡ a
number_fault (Ok v) b h e = true_false h refl
number_fault (Err Nothing) (Ok v) h e = absurd (omega arith)
number_fault (Err Nothing) (Err Nothing) h e = refl
number_fault (Err Nothing) (Err Number) h e = absurd (omega arith)
number_fault (Err Number) (Ok v) h e = absurd (omega arith)
number_fault (Err Number) (Err Nothing) h e = absurd (omega arith)
number_fault (Err Number) (Err Number) h e = refl

-- 4. a fault is that of the first field that is not right
module _ (u : Bool) (ks : List ℕ) (fs : List (List ℕ)) (same : length fs ≡ length ks) where
  -- what is field_number from the field i on
  abbrev from : ℕ → Result (Bool × ℕ) Fault
  from i = answer_from (suc i) u (drop i ks) (trace_at ks fs i) (marks_at ks fs i) (drop i fs)

  turn : (i : ℕ) → i < length ks → from i ≡ or_else (suc i) (read_at ks fs i) (from (suc i))
  unfolding answer_from
  turn i h = rw (drop-cons ks i 0 h, drop-cons fs i [] (omega arith))

  done : (i : ℕ) → length ks ≤ i → from i ≡ Ok (u, marks_at ks fs i)
  unfolding answer_from
  done i h = rw (drop_of_length-le ks h)

  module _ (ties : tied 0 ks ≡ true) where
    -- the fields that are right are those that are read
    rights : (i : ℕ) → i ≤ length ks → ((j : ℕ) → j < i → field_number (read_at ks fs j) ≡ 0) → (j : ℕ) → j < i → FieldCase ks fs j 0
    rights i h r j l = subst (FieldCase ks fs j) (r j l) (field_own ks fs ties j (omega arith) (λ x g. r x (omega arith)))

    reads : (i : ℕ) → i ≤ length ks → ((j : ℕ) → j < i → FieldCase ks fs j 0) → (j : ℕ) → j < i → field_number (read_at ks fs j) ≡ 0
    reads zero h c j l = absurd (omega arith)
    reads (suc i) h c j l = go (eqb j i) refl (reads i (omega arith) (λ x g. c x (omega arith)))
      where
        go : (b : Bool) → eqb j i ≡ b → ((j : ℕ) → j < i → field_number (read_at ks fs j) ≡ 0) → field_number (read_at ks fs j) ≡ 0
        go true q ih = let z = eqb-true j i q in field_one ks fs (field_own ks fs ties j (omega arith) (λ x g. ih x (omega arith))) (c j l)
        go false q ih = ih j (let n = eqb-false j i q in omega arith)

    -- what is refused from the field i on, the fields before it being read; n fields are left
    first_from : (n i : ℕ) → n + i ≡ length ks → ((j : ℕ) → j < i → field_number (read_at ks fs j) ≡ 0)
        → (j : ℕ) (a : Result Value NotRead) → is_fault a ≡ true → from i ≡ Err (fault_at j a)
        → (x : ℕ) × (j ≡ suc x) × FirstFault ks fs x (field_number a)
    first_from zero i l r j a h e = not_taken u (marks_at ks fs i) (fault_at j a) (sym (sym (done i (omega arith)) ∙ e))
    first_from (suc n) i l r j a h e = go (read_or_fault (read_at ks fs i)) (first_from n (suc i) (omega arith))
      where
        t : or_else (suc i) (read_at ks fs i) (from (suc i)) ≡ Err (fault_at j a)
        t = sym (turn i (omega arith)) ∙ e

        more : field_number (read_at ks fs i) ≡ 0 → (x : ℕ) → x < suc i → field_number (read_at ks fs x) ≡ 0
        more q x g = at (eqb x i) refl
          where
            at : (b : Bool) → eqb x i ≡ b → field_number (read_at ks fs x) ≡ 0
            at true z = ap (λ y. field_number (read_at ks fs y)) (eqb-true x i z) ∙ q
            at false z = r x (let n = eqb-false x i z in omega arith)

        go : (field_number (read_at ks fs i) ≡ 0) ⊎ (is_fault (read_at ks fs i) ≡ true)
            → (((j : ℕ) → j < suc i → field_number (read_at ks fs j) ≡ 0) → (j : ℕ) (a : Result Value NotRead) → is_fault a ≡ true → from (suc i) ≡ Err (fault_at j a)
            → (x : ℕ) × (j ≡ suc x) × FirstFault ks fs x (field_number a))
            → (x : ℕ) × (j ≡ suc x) × FirstFault ks fs x (field_number a)
        go (inl q) ih = ih (more q) j a h (sym (or_read (suc i) (read_at ks fs i) (from (suc i)) q) ∙ t)
        go (inr q) ih =
            let x = fault_same (suc i) j a (read_at ks fs i) h q (sym (or_fault (suc i) (read_at ks fs i) (from (suc i)) q) ∙ t) in
            let c = subst (λ b. FieldCase ks fs i (field_number b)) x.1 (field_own ks fs ties i (omega arith) r) in
            (i, x.0, record { inside = omega arith; before = rights i (omega arith) r; here = c })

    fault_first : (j : ℕ) (a : Result Value NotRead) → is_fault a ≡ true → answer_from 1 u ks 0 0 fs ≡ Err (fault_at j a) → (x : ℕ) × (j ≡ suc x) × FirstFault ks fs x (field_number a)
    fault_first = first_from (length ks) 0 (omega arith) (λ j l. absurd (omega arith))

    -- and the other way round
    to_first : (i : ℕ) → i ≤ length ks → ((j : ℕ) → j < i → field_number (read_at ks fs j) ≡ 0) → from 0 ≡ from i
    to_first zero h r = refl
    to_first (suc i) h r = to_first i (omega arith) (λ j l. r j (omega arith)) ∙ turn i (omega arith) ∙ or_read (suc i) (read_at ks fs i) (from (suc i)) (r i (omega arith))

    first_fault : (i : ℕ) (a : Result Value NotRead) → is_fault a ≡ true → FirstFault ks fs i (field_number a) → answer_from 1 u ks 0 0 fs ≡ Err (fault_at (suc i) a)
    first_fault i a h f =
        let l : i < length ks = omega (arith, f.inside) in
        let r = reads i (omega arith) f.before in
        let z : read_at ks fs i ≡ a = number_fault a (read_at ks fs i) h (field_one ks fs (field_own ks fs ties i l r) f.here) in
        to_first i (omega arith) r ∙ turn i l ∙ ap (λ b. or_else (suc i) b (from (suc i))) z ∙ or_fault (suc i) a (from (suc i)) h

-- a body whose spacing and count are right, and whose field i is the first at fault, with the number n
pub record Bad (ks body : List ℕ) (i n : ℕ) : Type 0 where
  pub fields : List (List ℕ)
  pub trailing : Bool
  pub split : fields_of body ≡ Fields fields trailing
  pub text : body_of fields trailing ≡ body
  pub count : length fields ≡ length ks
  pub first : FirstFault ks fields i n

pub bad_only : (ks body : List ℕ) (i : ℕ) (a : Result Value NotRead) → length ks ≤ 19 → tied 0 ks ≡ true → is_fault a ≡ true → Bad ks body i (field_number a)
    → answer_of ks body ≡ Err (fault_at (suc i) a)
unfolding answer_of answers
bad_only ks body i a few ties h b =
    rw (b.split, counted_is ks b.fields b.count few) (first_fault b.trailing ks b.fields b.count ties i a h b.first)

-- so the number of the body is that of its first field that is not read, and the place is that field's
pub bad_number : (ks body : List ℕ) (i : ℕ) (a : Result Value NotRead) → length ks ≤ 19 → tied 0 ks ≡ true → is_fault a ≡ true → Bad ks body i (field_number a)
    → (answer_number (answer_of ks body) ≡ field_number a) × (answer_place (answer_of ks body) ≡ suc i)
bad_number ks body i a few ties h b = rw (bad_only ks body i a few ties h b) (fault_number_lem (suc i) a h)

-- a place is one more than an index
pub bad_at : (ks body : List ℕ) (j : ℕ) (a : Result Value NotRead) → tied 0 ks ≡ true → is_fault a ≡ true → answer_of ks body ≡ Err (fault_at j a)
    → (i : ℕ) × (j ≡ suc i) × Bad ks body i (field_number a)
bad_at ks body j a ties h e =
    let s = parted ks body (Err (fault_at j a)) e (fault_spacing j a h) in
    let (i, z, f) = fault_first s.trailing ks s.fields s.count ties j a h s.answer in (
      i,
      z,
      record {
        fields = s.fields;
        trailing = s.trailing;
        split = s.split;
        text = (fields_text_lem body s.fields s.trailing s.split).0;
        count = s.count;
        first = f;
      },
    )
