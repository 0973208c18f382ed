-- The steps by which a line reads under the rule ρ, in document 01's order: a line reads exactly if it passes each of them. And
-- the tests that an allowed reading passes. Assumes nothing.
use Rattle.std.specs.Prelude.{Bool, Err, Ok, Result, Some}
use mathlib.Core.Path.{◌≡◌, refl, ap, ◌∙◌}
use mathlib.Core.Bool.{true, false, not, ◌&&◌}
use mathlib.Core.List.{List}
use Prim.Native.Nat.{ℕ, ◌≤◌}
use native.Mathlib.Omega.{arith}
use lib.Dec.{leb, ltb}
use lib.ListN.{length}
use borrow.Author.Tests.{ltb-false, leb-true, le-ltb, le-leb, not-true}
use Rattle.text.specs.Place.{all_in}
use Rattle.text.proofs.Logic.{and_left, and_right, and_four}
use Rattle.rules.specs.Frame.{longest_line}
use Rattle.rules.specs.declared.Rule.{Rule}
use Rattle.fields.specs.Head.{sequence_in, stamp_in, facility_in, head_length, body_part}
use Rattle.fields.specs.declared.heads.MessageType.{MessageType}
use Rattle.table.specs.Plan.{is_long_plan}
use Rattle.table.specs.Table.{has_type}
use Rattle.messages.specs.Body.{type_in}
use Rattle.messages.specs.Allowed.{body_text, is_body}
use Rattle.messages.specs.declared.Reading.{Reading}
use Rattle.messages.specs.Read.{body_read}
use Rattle.line.specs.Line.{line_by, is_head_by, has_size_by, is_allowed_by}
use Rattle.line.specs.Read.{head_of, with_body, rest_of, by_head, read_by, free_by, free_of}
use Rattle.line.specs.declared.front.Head.{Head}
use Rattle.line.specs.declared.Refusal.{Refusal}
use Rattle.line.specs.declared.Refusal.TheVariants.{Short, Long, Unprintable, LongPlan, Body}
use Rattle.line.proofs.Heads.{five_parts, IsHeadOf, where_holds, where_fails, head_sound, head_complete, headed_parts, headed_is, headed_printable}
use Rattle.messages.specs.declared.Body.{Body as BodyOf}
use Rattle.table.specs.declared.walk.Fault.{Fault}

-- the head of a reading of type k
abbrev pub head_in : Reading → MessageType → Head
head_in x k = record { sequence = x.sequence; stamp = x.stamp; facility = x.facility; kind = k }

-- k is the type that stands in the line
pub record Passes (ρ : Rule) (s : List ℕ) (x : Reading) (k : MessageType) : Type 0 where
  pub enough : head_length ρ ≤ length s
  pub short : length s ≤ longest_line
  pub printable : all_in 32 126 s ≡ true
  pub head : head_of ρ s ≡ Ok (head_in x k)
  pub plan : is_long_plan ρ k (length s) ≡ false
  pub body : body_read ρ k (body_part ρ s) ≡ Ok (x.body, x.trailing)

-- ---- what passes reads

pub passes_reads : (ρ : Rule) (s : List ℕ) (x : Reading) (k : MessageType) → Passes ρ s x k → read_by ρ s ≡ Ok x
unfolding read_by rest_of
passes_reads ρ s x k p = rw (le-ltb (length s) (head_length ρ) p.enough, le-ltb longest_line (length s) p.short, p.printable, p.head, p.plan, p.body)

-- ---- what reads passes: one law for each step, from the last

module _ (ρ : Rule) (x : Reading) where
  -- what is refused does not read
  refused : (y : Refusal) → Err y ≡ Ok x → ⊥
  refused y e = let z : ◌≡◌ {A = ℕ} 0 1 = cc in omega arith

  from_body : (h : Head) (r : Result (BodyOf × Bool) Fault) → with_body h r ≡ Ok x → (h ≡ head_in x h.kind) × (r ≡ Ok (x.body, x.trailing))
  from_body h (Ok (b, t)) e =
      let z : record { sequence = h.sequence; stamp = h.stamp; facility = h.facility; body = b; trailing = t } ≡ x = cc in
      (ap (λ (n : Reading). head_in n h.kind) z, ap (λ (n : Reading). Ok (n.body, n.trailing)) z)
  from_body h (Err y) e = absurd (refused (Body y) e)

  from_head : (s : List ℕ) (r : Result Head Refusal) → by_head ρ s r ≡ Ok x → (h : Head) × (r ≡ Ok h) × (rest_of ρ h s ≡ Ok x)
  from_head s (Ok h) e = (h, refl, e)
  from_head s (Err y) e = absurd (refused y e)

  pub reads_passes : (s : List ℕ) → read_by ρ s ≡ Ok x → (k : MessageType) × Passes ρ s x k
  unfolding read_by rest_of
  reads_passes s =
      where_fails (ltb (length s) (head_length ρ)) (Err Short) _ (Ok x) (refused Short)
      (λ a. where_fails (ltb longest_line (length s)) (Err Long) _ (Ok x) (refused Long)
      (λ b. where_holds (all_in 32 126 s) _ (Err Unprintable) (Ok x) (refused Unprintable)
      (λ c e. headed a b c (from_head s (head_of ρ s) e))))
    where
      headed : ltb (length s) (head_length ρ) ≡ false → ltb longest_line (length s) ≡ false → all_in 32 126 s ≡ true → (h : Head) × (head_of ρ s ≡ Ok h) × (rest_of ρ h s ≡ Ok x) → (k : MessageType) × Passes ρ s x k
      headed a b c (h, d, e) =
          where_fails (is_long_plan ρ h.kind (length s)) (Err LongPlan) (with_body h (body_read ρ h.kind (body_part ρ s))) (Ok x) (refused LongPlan)
          (λ f g. let r = from_body h (body_read ρ h.kind (body_part ρ s)) g in (
            h.kind,
            record {
              enough = ltb-false (length s) (head_length ρ) a;
              short = ltb-false longest_line (length s) b;
              printable = c;
              head = d ∙ ap Ok r.0;
              plan = f;
              body = r.1;
            },
          )) e

-- ---- the free text of a line that passes

module _ (ρ : Rule) (s : List ℕ) (x : Reading) (k : MessageType) (p : Passes ρ s x k) where
  pub passes_head : IsHeadOf ρ (head_in x k) s
  passes_head = head_sound ρ s (head_in x k) p.head

  pub passes_free : free_of ρ s ≡ free_by ρ (Some k) (body_part ρ s)
  unfolding free_of
  passes_free = rw (le-ltb (length s) (head_length ρ) p.enough, passes_head.type_read)

-- ---- the tests that an allowed reading passes

pub record Allows (ρ : Rule) (x : Reading) (r : List ℕ) : Type 0 where
  pub sequence_held : (sequence_in ρ).held x.sequence ≡ true
  pub stamp_held : (stamp_in ρ).held x.stamp ≡ true
  pub facility_held : (facility_in ρ).held x.facility ≡ true
  pub type_given : has_type ρ (type_in x.body) ≡ true
  pub body : is_body ρ x.body r x.trailing ≡ true
  pub short : length (line_by ρ x r) ≤ longest_line
  pub plan : is_long_plan ρ (type_in x.body) (length (line_by ρ x r)) ≡ false

module _ (ρ : Rule) (x : Reading) (r : List ℕ) where
  pub allows_allowed : Allows ρ x r → is_allowed_by ρ x r ≡ true
  unfolding is_allowed_by is_head_by has_size_by
  allows_allowed a = rw (a.sequence_held, a.stamp_held, a.facility_held, a.type_given, a.body, le-leb (length (line_by ρ x r)) longest_line a.short, a.plan)

  pub allowed_allows : is_allowed_by ρ x r ≡ true → Allows ρ x r
  unfolding is_allowed_by is_head_by has_size_by
  allowed_allows e =
      let few = leb (length (line_by ρ x r)) longest_line in
      let long = is_long_plan ρ (type_in x.body) (length (line_by ρ x r)) in
      let held = and_left (is_head_by ρ x && is_body ρ x.body r x.trailing) (few && not long) e in
      let size = and_right (is_head_by ρ x && is_body ρ x.body r x.trailing) (few && not long) e in
      let four = and_four ((sequence_in ρ).held x.sequence) ((stamp_in ρ).held x.stamp) ((facility_in ρ).held x.facility) (has_type ρ (type_in x.body)) (and_left (is_head_by ρ x) (is_body ρ x.body r x.trailing) held) in
      record {
        sequence_held = four.0;
        stamp_held = four.1;
        facility_held = four.2;
        type_given = four.3;
        body = and_right (is_head_by ρ x) (is_body ρ x.body r x.trailing) held;
        short = leb-true (length (line_by ρ x r)) longest_line (and_left few (not long) size);
        plan = not-true long (and_right few (not long) size);
      }

-- ---- from a line that passes the steps to an allowed reading, where its body is known

module _ (ρ : Rule) (s : List ℕ) (x : Reading) (k : MessageType) (p : Passes ρ s x k) (of-kind : type_in x.body ≡ k) (of_text : body_text ρ x.body (free_of ρ s) x.trailing ≡ body_part ρ s) where
  -- its text is the line
  pub passes_text : line_by ρ x (free_of ρ s) ≡ s
  unfolding line_by
  passes_text =
      let h = passes_head ρ s x k p in
      rw (of_text, of-kind, h.sequence_text, h.stamp_text, h.facility_text_lem, h.type_text_lem) (five_parts ρ s)

  pub passes_allows : is_body ρ x.body (free_of ρ s) x.trailing ≡ true → Allows ρ x (free_of ρ s)
  passes_allows e =
      let h = passes_head ρ s x k p in
      record {
        sequence_held = h.sequence_held;
        stamp_held = h.stamp_held;
        facility_held = h.facility_held;
        type_given = rw of-kind h.type_given;
        body = e;
        short = rw passes_text p.short;
        plan = rw (passes_text, of-kind) p.plan;
      }

-- ---- and back, from an allowed reading to its text

module _ (ρ : Rule) (x : Reading) (r : List ℕ) (a : Allows ρ x r) where
  pub text_body : body_part ρ (line_by ρ x r) ≡ body_text ρ x.body r x.trailing
  unfolding line_by
  text_body = (headed_parts ρ (head_in x (type_in x.body)) (body_text ρ x.body r x.trailing) a.sequence_held a.stamp_held a.facility_held).rest

  pub allows_passes : all_in 32 126 (body_text ρ x.body r x.trailing) ≡ true → body_read ρ (type_in x.body) (body_text ρ x.body r x.trailing) ≡ Ok (x.body, x.trailing) → Passes ρ (line_by ρ x r) x (type_in x.body)
  unfolding line_by
  allows_passes clean reads =
      let h = head_in x (type_in x.body) in
      let b = body_text ρ x.body r x.trailing in
      record {
        enough = omega (arith, (headed_parts ρ h b a.sequence_held a.stamp_held a.facility_held).size);
        short = a.short;
        printable = headed_printable ρ h b a.sequence_held a.stamp_held a.facility_held clean;
        head = head_complete ρ (line_by ρ x r) h (headed_is ρ h b a.sequence_held a.stamp_held a.facility_held a.type_given);
        plan = a.plan;
        body = rw text_body reads;
      }
