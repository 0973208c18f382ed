-- THE THEOREMS of a line under the rule ρ, demand 2: what reads is allowed and its text is the line, and the text of every allowed reading
-- reads as it. The same of messages, of the feed and of the old feed, stands in `Theorems`. Assumes nothing.
use Rattle.std.specs.Prelude.{Err, None, Ok, Option, Result, Some}
use mathlib.Core.Path.{◌≡◌, refl, sym, ap, ◌∙◌}
use mathlib.Core.Bool.{Bool, true, false}
use mathlib.Core.List.{List}
use Prim.Native.Nat.{ℕ, ◌+◌, ◌≤◌}
use native.Mathlib.Omega.{arith}
use lib.Dec.{ltb}
use lib.ListN.{length, length-drop}
use lib.Seq.{take-length, drop-drop}
use borrow.Author.Tests.{ltb-false}
use Rattle.shapes.specs.Picture.{part}
use Rattle.rules.specs.declared.Rule.{Rule}
use Rattle.fields.specs.Head.{body_part, head_length, type_part}
use Rattle.fields.specs.declared.heads.MessageType.{MessageType}
use Rattle.messages.specs.Body.{type_in}
use Rattle.messages.specs.Allowed.{body_text, is_body}
use Rattle.messages.specs.declared.Reading.{Reading}
use Rattle.messages.proofs.Theorems.{body_sound, body_complete}
use Rattle.line.specs.Line.{line_by, is_allowed_by}
use Rattle.line.specs.Read.{type_by, read_by, refusal_number, number_by, free_by, free_of, free_at}
use Rattle.line.specs.declared.Refusal.{Refusal}
use Rattle.line.specs.declared.Refusal.TheVariants.{Short, Long, Unprintable, NoSequence, NoStamp, NoFacility, NoType, LongPlan, Body}
use Rattle.table.specs.Table.{has_fields, free_in, free_at_in}
use Rattle.table.proofs.RoutePlaces.{StandsAt, route_part_by}
use Rattle.table.specs.declared.walk.Fault.TheVariants.{Spacing, Field, Number}
use Rattle.line.proofs.Heads.{printable_left}
use Rattle.line.proofs.Steps.{reads_passes, passes_reads, passes_free, passes_text, passes_allows, allowed_allows, allows_allowed, allows_passes, text_body}

module _ (ρ : Rule) where
  -- what reads is allowed, and its text is the line
  pub reads_allowed : (s : List ℕ) (x : Reading) → read_by ρ s ≡ Ok x → (is_allowed_by ρ x (free_of ρ s) ≡ true) × (line_by ρ x (free_of ρ s) ≡ s)
  reads_allowed s x e =
      let (k, p) = reads_passes ρ x s e in
      let b : (type_in x.body ≡ k) × (is_body ρ x.body (free_of ρ s) x.trailing ≡ true) × (body_text ρ x.body (free_of ρ s) x.trailing ≡ body_part ρ s) =
      rw (passes_free ρ s x k p) (body_sound ρ k (body_part ρ s) x.body x.trailing (printable_left (head_length ρ) s p.printable) p.body) in
      (allows_allowed ρ x (free_of ρ s) (passes_allows ρ s x k p b.0 b.2 b.1), passes_text ρ s x k p b.0 b.2)

  -- the text of every allowed reading reads as it, and its free text is handed back
  pub allowed_reads : (x : Reading) (r : List ℕ) → is_allowed_by ρ x r ≡ true → (read_by ρ (line_by ρ x r) ≡ Ok x) × (free_of ρ (line_by ρ x r) ≡ r)
  allowed_reads x r e =
      let a = allowed_allows ρ x r e in
      let b = body_complete ρ x.body r x.trailing a.body in
      let p = allows_passes ρ x r a b.2 b.0 in (
        passes_reads ρ (line_by ρ x r) x (type_in x.body) p,
        passes_free ρ (line_by ρ x r) x (type_in x.body) p ∙ ap (free_by ρ (Some (type_in x.body))) (text_body ρ x r a) ∙ b.1,
      )

  -- a line is refused exactly if no allowed reading has it as its text
  pub refused_exactly : (s : List ℕ) → (((x : Reading) → read_by ρ s ≡ Ok x → ⊥) → (x : Reading) (r : List ℕ) → is_allowed_by ρ x r ≡ true → line_by ρ x r ≡ s → ⊥)
      × (((x : Reading) (r : List ℕ) → is_allowed_by ρ x r ≡ true → line_by ρ x r ≡ s → ⊥) → (x : Reading) → read_by ρ s ≡ Ok x → ⊥)
  refused_exactly s = (
    λ none x r a e. none x (ap (read_by ρ) (sym e) ∙ (allowed_reads x r a).0),
    λ none x e. none x (free_of ρ s) (reads_allowed s x e).0 (reads_allowed s x e).1,
  )

  -- at most one has
  pub one_reading : (x y : Reading) (r q : List ℕ) → is_allowed_by ρ x r ≡ true → is_allowed_by ρ y q ≡ true → line_by ρ x r ≡ line_by ρ y q → (x ≡ y) × (r ≡ q)
  one_reading x y r q a b e =
      let c = allowed_reads x r a in
      let d = allowed_reads y q b in
      ((cc), sym c.1 ∙ ap (free_of ρ) e ∙ d.1)

-- a refusal has one of the numbers 1 to 11: not the 0 of a line that reads, nor the 12 of a full board, nor 18, which stays unused
pub refusal_numbers : (x : Refusal) → (1 ≤ refusal_number x) × (refusal_number x ≤ 11)
refusal_numbers Short = (omega arith, omega arith)
refusal_numbers Long = (omega arith, omega arith)
refusal_numbers Unprintable = (omega arith, omega arith)
refusal_numbers NoSequence = (omega arith, omega arith)
refusal_numbers NoStamp = (omega arith, omega arith)
refusal_numbers NoFacility = (omega arith, omega arith)
refusal_numbers NoType = (omega arith, omega arith)
refusal_numbers LongPlan = (omega arith, omega arith)
refusal_numbers (Body Spacing) = (omega arith, omega arith)
refusal_numbers (Body (Field i)) = (omega arith, omega arith)
refusal_numbers (Body (Number i)) = (omega arith, omega arith)

-- so a line is answered 0 to 11
pub line_numbers : (r : Result Reading Refusal) → number_by r ≤ 11
line_numbers (Ok x) = omega arith
line_numbers (Err y) = (refusal_numbers y).1

-- ---- the free text is a part of the line

-- its bytes are those of the line from its place on, and they end inside the line
pub free_part : (ρ : Rule) (s : List ℕ) → (free_of ρ s ≡ part (free_at ρ s) (length (free_of ρ s)) s) × (free_at ρ s + length (free_of ρ s) ≤ length s)
unfolding free_of free_at
free_part ρ s = go (ltb (length s) (head_length ρ)) refl (type_by ρ (type_part ρ s)) refl
  where
    -- a part of the body is that part of the line, the head's bytes further on
    body : head_length ρ ≤ length s → {i : ℕ} {r : List ℕ} → StandsAt i r (body_part ρ s) → (r ≡ part (head_length ρ + i) (length r) s) × (head_length ρ + i + length r ≤ length s)
    body h {i} {r} a = (sym a.bytes ∙ rw (drop-drop i (head_length ρ) s), omega (arith, a.inside, length-drop (head_length ρ) s))

    by : head_length ρ ≤ length s → (t : MessageType) (c : Bool) → has_fields t ≡ c
        → (free_in ρ t (body_part ρ s) ≡ part (head_length ρ + free_at_in ρ t (body_part ρ s)) (length (free_in ρ t (body_part ρ s))) s)
        × (head_length ρ + free_at_in ρ t (body_part ρ s) + length (free_in ρ t (body_part ρ s)) ≤ length s)
    by h t true q = rw q (body h (route_part_by ρ t (body_part ρ s)))
    by h t false q = rw q (body h {i = 0} (record { bytes = take-length (body_part ρ s); inside = omega arith }))

    go : (c : Bool) → ltb (length s) (head_length ρ) ≡ c → (x : Option MessageType) → type_by ρ (type_part ρ s) ≡ x
        → (free_of ρ s ≡ part (free_at ρ s) (length (free_of ρ s)) s) × (free_at ρ s + length (free_of ρ s) ≤ length s)
    go true q x e = rw q (refl, omega arith)
    go false q None e = rw (q, e) (refl, omega arith)
    go false q (Some t) e = rw (q, e) (by (ltb-false (length s) (head_length ρ) q) t (has_fields t) refl)
