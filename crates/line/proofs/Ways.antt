-- The ways of the line's functions: each way out is a case of the definition. Assumes nothing.
use Rattle.std.specs.Prelude.{Err, None, Ok, Option, Result, Some}
use mathlib.Core.Path.{◌≡◌, refl, sym, ap, ◌∙◌}
use mathlib.Core.Bool.{Bool, true, false}
use mathlib.Core.List.{List, []}
use Prim.Native.Nat.{ℕ, ◌+◌, ◌-◌, ◌≤◌, ◌<◌}
use native.Mathlib.Omega.{arith}
use lib.ListN.{length, take, drop}
use borrow.Author.Tests.{lt-ltb, le-ltb}
use Rattle.text.specs.Place.{value, all_in}
use Rattle.text.specs.Text.{packed}
use Rattle.shapes.proofs.Laws.{rest_all}
use Rattle.rules.specs.Form.{is_facility}
use Rattle.rules.specs.Frame.{longest_line}
use Rattle.rules.specs.Kind.{SEQUENCE, STAMP, is_form}
use Rattle.rules.specs.declared.Rule.{Rule}
use Rattle.fields.specs.Head.{sequence_in, stamp_in, facility_in, sequence_part, stamp_part, facility_part, type_part, body_part, type_at, head_length}
use Rattle.fields.specs.Word.{word_of}
use Rattle.fields.specs.Typed.{as_sequence, as_stamp}
use Rattle.fields.specs.declared.frame.Sequence.{Sequence}
use Rattle.fields.specs.declared.frame.Stamp.{Stamp}
use Rattle.fields.specs.Facility.{facility_of}
use Rattle.fields.specs.MessageType.{type_of}
use Rattle.fields.specs.declared.heads.Facility.{Facility}
use Rattle.fields.specs.declared.heads.MessageType.{MessageType}
use Rattle.fields.proofs.WordLaws.{word_known, read_refused}
use Rattle.table.specs.Table.{has_fields, has_type, route_by, route_at_by, free_in, free_at_in}
use Rattle.shapes.specs.Picture.{starts_at}
use Rattle.table.specs.Plan.{is_long_plan}
use Rattle.messages.specs.Read.{body_read}
use Rattle.line.specs.Read.{type_by, head_of, with_body, rest_of, by_head, read_by, free_of, free_at}
use Rattle.line.specs.declared.front.Head.{Head}
use Rattle.line.specs.declared.Refusal.TheVariants.{Short, Long, Unprintable, NoSequence, NoStamp, NoFacility, NoType, LongPlan}
use Rattle.messages.specs.declared.Body.{Body}
use Rattle.table.specs.declared.walk.Fault.{Fault}
use Rattle.line.specs.declared.Refusal.{Refusal}

-- ---- one part of the head, as its own reader answers

-- a word that its type's reader gives, or not
sequence_word : (p : List ℕ) (x : Sequence) → as_sequence (word_of SEQUENCE p) ≡ Some x → word_of SEQUENCE p ≡ Some x.0
sequence_word p x e = go (word_of SEQUENCE p) refl e
  where
    go : (w : Option ℕ) → word_of SEQUENCE p ≡ w → as_sequence w ≡ Some x → word_of SEQUENCE p ≡ Some x.0
    go (Some t) q d = q ∙ ap (λ (y : Sequence). Some y.0) (let z : record { 0 = t } ≡ x = cc in z)
    go None q d = absurd (let y : ◌≡◌ {A = ℕ} 0 1 = cc in omega arith)

pub sequence_is : (p : List ℕ) (x : Sequence) → as_sequence (word_of SEQUENCE p) ≡ Some x → (is_form SEQUENCE p ≡ true) × (x.0 ≡ packed p)
sequence_is p x e = word_known SEQUENCE p (sequence_word p x e)

pub sequence_none : (p : List ℕ) → as_sequence (word_of SEQUENCE p) ≡ None → is_form SEQUENCE p ≡ false
sequence_none p e = go (word_of SEQUENCE p) refl e
  where
    go : (w : Option ℕ) → word_of SEQUENCE p ≡ w → as_sequence w ≡ None → is_form SEQUENCE p ≡ false
    go (Some t) q d = absurd (let y : ◌≡◌ {A = ℕ} 0 1 = cc in omega arith)
    go None q d = read_refused SEQUENCE p q

stamp_word : (p : List ℕ) (x : Stamp) → as_stamp (word_of STAMP p) ≡ Some x → word_of STAMP p ≡ Some x.0
stamp_word p x e = go (word_of STAMP p) refl e
  where
    go : (w : Option ℕ) → word_of STAMP p ≡ w → as_stamp w ≡ Some x → word_of STAMP p ≡ Some x.0
    go (Some t) q d = q ∙ ap (λ (y : Stamp). Some y.0) (let z : record { 0 = t } ≡ x = cc in z)
    go None q d = absurd (let y : ◌≡◌ {A = ℕ} 0 1 = cc in omega arith)

pub stamp_is : (p : List ℕ) (x : Stamp) → as_stamp (word_of STAMP p) ≡ Some x → (is_form STAMP p ≡ true) × (x.0 ≡ packed p)
stamp_is p x e = word_known STAMP p (stamp_word p x e)

pub stamp_none : (p : List ℕ) → as_stamp (word_of STAMP p) ≡ None → is_form STAMP p ≡ false
stamp_none p e = go (word_of STAMP p) refl e
  where
    go : (w : Option ℕ) → word_of STAMP p ≡ w → as_stamp w ≡ None → is_form STAMP p ≡ false
    go (Some t) q d = absurd (let y : ◌≡◌ {A = ℕ} 0 1 = cc in omega arith)
    go None q d = read_refused STAMP p q

pub facility_none : (p : List ℕ) → facility_of p ≡ None → is_facility p ≡ false
unfolding facility_of
facility_none p e = go (is_facility p) refl
  where
    go : (b : Bool) → is_facility p ≡ b → is_facility p ≡ false
    go true q = let z : Some (record { 0 = value 256 4 p }) ≡ None = rw q at e in absurd (let y : ◌≡◌ {A = ℕ} 0 1 = cc in omega arith)
    go false q = q

pub facility_is : (p : List ℕ) (x : Facility) → facility_of p ≡ Some x → (is_facility p ≡ true) × (x.0 ≡ value 256 4 p)
unfolding facility_of
facility_is p x e = go (is_facility p) refl
  where
    go : (b : Bool) → is_facility p ≡ b → (is_facility p ≡ true) × (x.0 ≡ value 256 4 p)
    go true q =
        let z : Some (record { 0 = value 256 4 p }) ≡ Some x = rw q at e in
        let y : record { 0 = value 256 4 p } ≡ x = cc in
        (q, sym (ap (λ (f : Facility). f.0) y))
    go false q = let z : None ≡ Some x = rw q at e in ((cc), (cc))

-- ---- the type, by the rule

module _ (ρ : Rule) (s : List ℕ) where
  pub no_letters : type_of s ≡ None → None ≡ type_by ρ s
  unfolding type_by
  no_letters e = rw e

  pub not_given : (t : MessageType) → type_of s ≡ Some t → has_type ρ t ≡ false → None ≡ type_by ρ s
  unfolding type_by
  not_given t e q = rw (e, q)

  pub given : (t : MessageType) → type_of s ≡ Some t → has_type ρ t ≡ true → Some t ≡ type_by ρ s
  unfolding type_by
  given t e q = rw (e, q)

-- ---- the head

module _ (ρ : Rule) (s : List ℕ) where
  pub no_sequence : (sequence_in ρ).form (sequence_part ρ s) ≡ false → Err NoSequence ≡ head_of ρ s
  unfolding head_of
  no_sequence e = rw e

  module _ (a : (sequence_in ρ).form (sequence_part ρ s) ≡ true) where
    pub no_stamp : (stamp_in ρ).form (stamp_part ρ s) ≡ false → Err NoStamp ≡ head_of ρ s
    unfolding head_of
    no_stamp e = rw (a, e)

    module _ (b : (stamp_in ρ).form (stamp_part ρ s) ≡ true) where
      pub no_facility : (facility_in ρ).form (facility_part ρ s) ≡ false → Err NoFacility ≡ head_of ρ s
      unfolding head_of
      no_facility e = rw (a, b, e)

      module _ (c : (facility_in ρ).form (facility_part ρ s) ≡ true) where
        pub no_type : type_by ρ (type_part ρ s) ≡ None → Err NoType ≡ head_of ρ s
        unfolding head_of
        no_type e = rw (a, b, c, e)

        pub all_read : {x y z : ℕ} → x ≡ (sequence_in ρ).kept (sequence_part ρ s) → y ≡ (stamp_in ρ).kept (stamp_part ρ s) → z ≡ (facility_in ρ).kept (facility_part ρ s)
            → (t : MessageType) → type_by ρ (type_part ρ s) ≡ Some t → Ok (record { sequence = x; stamp = y; facility = z; kind = t }) ≡ head_of ρ s
        unfolding head_of
        all_read p q r t e = rw (a, b, c, e, p, q, r)

-- ---- the body after the head

module _ (ρ : Rule) (h : Head) (s : List ℕ) where
  pub rest_long : is_long_plan ρ h.kind (length s) ≡ true → Err LongPlan ≡ rest_of ρ h s
  unfolding rest_of
  rest_long e = rw e

  pub rest_body : is_long_plan ρ h.kind (length s) ≡ false → {b : (Result (Body × Bool) Fault)} → body_read ρ h.kind (take (length s - head_length ρ) (body_part ρ s)) ≡ b → with_body h b ≡ rest_of ρ h s
  unfolding rest_of
  rest_body e q = rw (e, ← q, rest_all s (head_length ρ))

-- ---- the line

module _ (ρ : Rule) (s : List ℕ) where
  pub line_short : length s < head_length ρ → Err Short ≡ read_by ρ s
  unfolding read_by
  line_short h = rw (lt-ltb (length s) (head_length ρ) h)

  module _ (enough : head_length ρ ≤ length s) where
    pub line_long : longest_line < length s → Err Long ≡ read_by ρ s
    unfolding read_by
    line_long h = rw (le-ltb (length s) (head_length ρ) enough, lt-ltb longest_line (length s) h)

    module _ (few : length s ≤ longest_line) where
      pub line_byte : all_in 32 126 s ≡ false → Err Unprintable ≡ read_by ρ s
      unfolding read_by
      line_byte e = rw (le-ltb (length s) (head_length ρ) enough, le-ltb longest_line (length s) few, e)

      pub line_head : all_in 32 126 s ≡ true → {h : (Result Head Refusal)} → head_of ρ s ≡ h → by_head ρ s h ≡ read_by ρ s
      unfolding read_by
      line_head e q = rw (le-ltb (length s) (head_length ρ) enough, le-ltb longest_line (length s) few, e, q)

-- ---- the free text: its bytes, and where they start

-- of a part of a part, where it lies
pub part_of_part : (s : ℕ × ℕ) (a i : ℕ) {n : ℕ} → a + i ≡ n → starts_at (starts_at s a) i ≡ starts_at s n
part_of_part s a i {n} e = let z : i + (a + s.1) ≡ n + s.1 = omega arith in ap (λ (x : ℕ). (s.0, x)) z

-- the two bytes before the body are the type's letters
pub letters_are : (ρ : Rule) (s : List ℕ) {at : ℕ} → at ≡ head_length ρ → take (at - (at - 2)) (drop (at - 2) s) ≡ type_part ρ s
letters_are ρ s {at} e =
    let f : at - 2 ≡ type_at ρ = omega (arith, e) in
    let n : at - (at - 2) ≡ 2 = omega (arith, e) in
    rw (n, f)

module _ (ρ : Rule) (s : List ℕ) where
  pub free_short : length s < head_length ρ → ([] ≡ free_of ρ s) × (0 ≡ free_at ρ s)
  unfolding free_of free_at
  free_short h = let z = lt-ltb (length s) (head_length ρ) h in (rw z, rw z)

  module _ (enough : head_length ρ ≤ length s) where
    pub free_none : type_by ρ (type_part ρ s) ≡ None → ([] ≡ free_of ρ s) × (0 ≡ free_at ρ s)
    unfolding free_of free_at
    free_none e = let z = le-ltb (length s) (head_length ρ) enough in (rw (z, e), rw (z, e))

    free_is : (t : MessageType) → type_by ρ (type_part ρ s) ≡ Some t → (free_in ρ t (body_part ρ s) ≡ free_of ρ s) × (head_length ρ + free_at_in ρ t (body_part ρ s) ≡ free_at ρ s)
    unfolding free_of free_at
    free_is t e = let z = le-ltb (length s) (head_length ρ) enough in (rw (z, e), rw (z, e))

    module _ (t : MessageType) (e : type_by ρ (type_part ρ s) ≡ Some t) where
      pub free_whole : has_fields t ≡ false → (body_part ρ s ≡ free_of ρ s) × (head_length ρ ≡ free_at ρ s)
      free_whole f =
          let i = free_is t e in
          let z : body_part ρ s ≡ free_in ρ t (body_part ρ s) = rw f in
          let y : head_length ρ ≡ head_length ρ + free_at_in ρ t (body_part ρ s) = rw f (omega arith) in
          (z ∙ i.0, y ∙ i.1)

      pub free_route : has_fields t ≡ true → (route_by ρ t (body_part ρ s) ≡ free_of ρ s) × (head_length ρ + route_at_by ρ t (body_part ρ s) ≡ free_at ρ s)
      free_route f =
          let i = free_is t e in
          let z : route_by ρ t (body_part ρ s) ≡ free_in ρ t (body_part ρ s) = rw f in
          let y : head_length ρ + route_at_by ρ t (body_part ρ s) ≡ head_length ρ + free_at_in ρ t (body_part ρ s) = rw f in
          (z ∙ i.0, y ∙ i.1)
