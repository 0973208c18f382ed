-- THE THEOREMS of demand 2 about messages, once over the rule ρ: what reads is allowed and its text is the line, and the text of every allowed message
-- reads as that message. They are the theorems of lines (`Lines`), since a message and its reading give each other. Assumes nothing.
use Rattle.std.specs.Prelude.{Err, Ok, Result}
use mathlib.Core.Path.{◌≡◌, refl, sym, ap, ◌∙◌}
use mathlib.Core.Bool.{true}
use mathlib.Core.List.{List}
use Prim.Native.Nat.{ℕ, ◌≤◌}
use native.Mathlib.Omega.{arith}
use borrow.Author.Tests.{eqb-true}
use Rattle.rules.specs.declared.Rule.{Rule}
use Rattle.rules.specs.declared.Rule.TheVariants.{New, Old}
use Rattle.messages.specs.Reading.{message_of, old_reading_of, old_message_of}
use Rattle.messages.specs.declared.Reading.{Reading}
use Rattle.line.specs.Line.{line_by, is_allowed_by}
use Rattle.line.specs.Messages.{MessageOf, reading_in, AnswerOf, answer_to, Took, number_of, place_of, read_as}
use Rattle.line.specs.Read.{read_by, newly, oldly, read_of, old_read_of, number_by, place_by, free_of}
use Rattle.line.proofs.Lines as lines
use Rattle.line.proofs.Lines.{refusal_numbers}
use Rattle.line.proofs.Steps.{allowed_allows}
use Rattle.line.specs.declared.Refusal.{Refusal}

-- ---- a message and its reading give each other

-- a line of the old feed is read with no sequence number
old_whole : (s : List ℕ) (x : Reading) → read_by Old s ≡ Ok x → old_reading_of (old_message_of x) ≡ x
old_whole s x e =
    let n = eqb-true x.sequence 0 (allowed_allows Old x (free_of Old s) (lines.reads_allowed Old s x e).0).sequence_held in
    λ i. record { sequence = sym n i; stamp = x.stamp; facility = x.facility; body = x.body; trailing = x.trailing }

pub answer_reading : (ρ : Rule) (s : List ℕ) → read_as ρ (answer_to ρ s) ≡ read_by ρ s
unfolding read_of old_read_of
answer_reading New s = go (read_by New s)
  where
    go : (x : Result Reading Refusal) → read_as New (newly x) ≡ x
    go (Ok x) = refl
    go (Err y) = refl
answer_reading Old s = go (read_by Old s) refl
  where
    go : (x : Result Reading Refusal) → read_by Old s ≡ x → read_as Old (oldly x) ≡ x
    go (Ok x) e = ap Ok (old_whole s x e)
    go (Err y) e = refl

took_reading : (ρ : Rule) (m : MessageOf ρ) → read_as ρ (Took ρ m) ≡ Ok (reading_in ρ m)
took_reading New m = refl
took_reading Old m = refl

pub message_reading : (ρ : Rule) (s : List ℕ) (m : MessageOf ρ) → answer_to ρ s ≡ Took ρ m → read_by ρ s ≡ Ok (reading_in ρ m)
message_reading ρ s m e = sym (answer_reading ρ s) ∙ ap (read_as ρ) e ∙ took_reading ρ m

pub reading_message : (ρ : Rule) (s : List ℕ) (m : MessageOf ρ) → read_by ρ s ≡ Ok (reading_in ρ m) → answer_to ρ s ≡ Took ρ m
unfolding read_of old_read_of
reading_message New s m e = ap newly e
reading_message Old s m e = ap oldly e

-- two messages with one reading are one
same_message : (ρ : Rule) (m n : MessageOf ρ) → reading_in ρ m ≡ reading_in ρ n → m ≡ n
same_message New m n e = ap message_of e
same_message Old m n e = ap old_message_of e

-- ---- THE THEOREMS

module _ (ρ : Rule) where
  -- what reads is allowed, and its text is the line
  pub reads_allowed : (s : List ℕ) (m : MessageOf ρ) → answer_to ρ s ≡ Took ρ m → (is_allowed_by ρ (reading_in ρ m) (free_of ρ s) ≡ true) × (line_by ρ (reading_in ρ m) (free_of ρ s) ≡ s)
  reads_allowed s m e = lines.reads_allowed ρ s (reading_in ρ m) (message_reading ρ s m e)

  -- the text of every allowed message reads as that message, and its free text is handed back
  pub allowed_reads : (m : MessageOf ρ) (r : List ℕ) → is_allowed_by ρ (reading_in ρ m) r ≡ true
      → (answer_to ρ (line_by ρ (reading_in ρ m) r) ≡ Took ρ m) × (free_of ρ (line_by ρ (reading_in ρ m) r) ≡ r)
  allowed_reads m r e = let a = lines.allowed_reads ρ (reading_in ρ m) r e in (reading_message ρ (line_by ρ (reading_in ρ m) r) m a.0, a.1)

  -- a line is refused exactly if no allowed message has it as its text
  pub refused_exactly : (s : List ℕ)
      → (((m : MessageOf ρ) → answer_to ρ s ≡ Took ρ m → ⊥) → (m : MessageOf ρ) (r : List ℕ) → is_allowed_by ρ (reading_in ρ m) r ≡ true → line_by ρ (reading_in ρ m) r ≡ s → ⊥)
      × (((m : MessageOf ρ) (r : List ℕ) → is_allowed_by ρ (reading_in ρ m) r ≡ true → line_by ρ (reading_in ρ m) r ≡ s → ⊥) → (m : MessageOf ρ) → answer_to ρ s ≡ Took ρ m → ⊥)
  refused_exactly s = (
    λ none m r a e. none m (ap (answer_to ρ) (sym e) ∙ (allowed_reads m r a).0),
    λ none m e. none m (free_of ρ s) (reads_allowed s m e).0 (reads_allowed s m e).1,
  )

  -- at most one has
  pub one_message : (m n : MessageOf ρ) (r q : List ℕ) → is_allowed_by ρ (reading_in ρ m) r ≡ true → is_allowed_by ρ (reading_in ρ n) q ≡ true
      → line_by ρ (reading_in ρ m) r ≡ line_by ρ (reading_in ρ n) q → (m ≡ n) × (r ≡ q)
  one_message m n r q a b e = let z = lines.one_reading ρ (reading_in ρ m) (reading_in ρ n) r q a b e in (same_message ρ m n z.0, z.1)

-- ---- the number and the place of a line are those of its reading

pub told_as : (ρ : Rule) (r : AnswerOf ρ) → (number_of ρ r ≡ number_by (read_as ρ r)) × (place_of ρ r ≡ place_by (read_as ρ r))
told_as New (Ok m) = (refl, refl)
told_as New (Err y) = (refl, refl)
told_as Old (Ok m) = (refl, refl)
told_as Old (Err y) = (refl, refl)

pub answer_told : (ρ : Rule) (s : List ℕ) → (number_of ρ (answer_to ρ s) ≡ number_by (read_by ρ s)) × (place_of ρ (answer_to ρ s) ≡ place_by (read_by ρ s))
answer_told ρ s = rw (answer_reading ρ s) at (told_as ρ (answer_to ρ s))

-- a line is answered 0 to 11
pub line_numbers : (ρ : Rule) (r : AnswerOf ρ) → number_of ρ r ≤ 11
line_numbers New (Ok m) = omega arith
line_numbers New (Err x) = (refusal_numbers x).1
line_numbers Old (Ok m) = omega arith
line_numbers Old (Err x) = (refusal_numbers x).1

-- and 0 exactly if it reads
pub number_zero : (ρ : Rule) (r : AnswerOf ρ) → number_of ρ r ≡ 0 → (m : MessageOf ρ) × (r ≡ Took ρ m)
number_zero New (Ok m) e = (m, refl)
number_zero New (Err x) e = absurd (omega (arith, (refusal_numbers x).0, e))
number_zero Old (Ok m) e = (m, refl)
number_zero Old (Err x) e = absurd (omega (arith, (refusal_numbers x).0, e))

pub zero_number : (ρ : Rule) (m : MessageOf ρ) → number_of ρ (Took ρ m) ≡ 0
zero_number New m = refl
zero_number Old m = refl
