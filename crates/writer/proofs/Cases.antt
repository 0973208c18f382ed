-- THE CASES of a call of `write` or `write_old`: its number, the place after what it wrote and the buffer that it leaves are those of the document's case, and
-- of no other. Assumes nothing.
use Rattle.std.specs.Prelude.{Ok, Result}
use mathlib.Core.Path.{◌≡◌, refl, sym, ap, ◌∙◌}
use mathlib.Core.Bool.{Bool, true, false}
use mathlib.Core.List.{List}
use Prim.Native.Nat.{ℕ, ◌+◌}
use lib.ListN.{length}
use Rattle.text.specs.Text.{spliced, has_room, written_next, written_bytes}
use Rattle.text.proofs.Logic.{true_false}
use Rattle.rules.specs.declared.Rule.{Rule}
use Rattle.fields.specs.Answer.{write_answer}
use Rattle.messages.specs.declared.Reading.{Reading}
use Rattle.line.specs.Line.{line_by, is_allowed_by}
use Rattle.line.specs.Read.{read_by, free_of}
use Rattle.line.proofs.Lines.{reads_allowed, allowed_reads}
use Rattle.writer.specs.Cases.{place_after, WriteCase, NoLine, NoRoomLeft, Wrote}
use Rattle.text.specs.declared.NotWritten.{NotWritten}

module _ (ρ : Rule) (x : Reading) (r : List ℕ) where
  -- a line that reads so with this free text is the reading's line, and the reading is allowed
  line_of : (s : List ℕ) → read_by ρ s ≡ Ok x → free_of ρ s ≡ r → (is_allowed_by ρ x r ≡ true) × (s ≡ line_by ρ x r)
  line_of s e f =
      let a = reads_allowed ρ s x e in
      (rw f at a.0, sym (rw f at a.1))

  -- so two such lines are one
  one_line : (s s' : List ℕ) → read_by ρ s ≡ Ok x → free_of ρ s ≡ r → read_by ρ s' ≡ Ok x → free_of ρ s' ≡ r → s ≡ s'
  one_line s s' e f e' f' = (line_of s e f).1 ∙ sym (line_of s' e' f').1

  module _ (out : List ℕ) (at : ℕ) where
    abbrev Own : Result ℕ NotWritten → List ℕ → Type 0
    Own w o = WriteCase ρ x r out at (write_answer w) (place_after w) o

    write_own : Own (written_next (is_allowed_by ρ x r) (line_by ρ x r) out at) (written_bytes (is_allowed_by ρ x r) (line_by ρ x r) out at)
    unfolding written_next written_bytes
    write_own = go (is_allowed_by ρ x r) refl (has_room (line_by ρ x r) out at) refl
      where
        go : (a : Bool) → is_allowed_by ρ x r ≡ a → (h : Bool) → has_room (line_by ρ x r) out at ≡ h
            → Own (written_next (is_allowed_by ρ x r) (line_by ρ x r) out at) (written_bytes (is_allowed_by ρ x r) (line_by ρ x r) out at)
        go false q h p = rw q (NoLine (λ s e f. true_false (line_of s e f).0 q))
        go true q false p = let a = allowed_reads ρ x r q in rw (q, p) (NoRoomLeft (line_by ρ x r) a.0 a.1 p)
        go true q true p = let a = allowed_reads ρ x r q in rw (q, p) (Wrote (line_by ρ x r) a.0 a.1 p)

    -- a call that gives this is in its case
    pub in_write_case : {w : (Result ℕ NotWritten)} {o : List ℕ}
        → (w ≡ written_next (is_allowed_by ρ x r) (line_by ρ x r) out at) × (o ≡ written_bytes (is_allowed_by ρ x r) (line_by ρ x r) out at)
        → (w ≡ written_next (is_allowed_by ρ x r) (line_by ρ x r) out at) × ((o ≡ written_bytes (is_allowed_by ρ x r) (line_by ρ x r) out at) × Own w o)
    in_write_case e = (e.0, (e.1, rw (e.0, e.1) write_own))

-- ---- no call is in two cases

pub write_one_case : {ρ : Rule} {x : Reading} {r out : List ℕ} {at n n' i i' : ℕ} {o o' : List ℕ}
    → WriteCase ρ x r out at n i o → WriteCase ρ x r out at n' i' o' → (n ≡ n') × (i ≡ i') × (o ≡ o')
write_one_case (NoLine none) (NoLine none') = (refl, refl, refl)
write_one_case (NoLine none) (NoRoomLeft s' e' f' h') = absurd (none s' e' f')
write_one_case (NoLine none) (Wrote s' e' f' h') = absurd (none s' e' f')
write_one_case (NoRoomLeft s e f h) (NoLine none') = absurd (none' s e f)
write_one_case (NoRoomLeft s e f h) (NoRoomLeft s' e' f' h') = (refl, refl, refl)
write_one_case {ρ} {x} {r} {out} {at} (NoRoomLeft s e f h) (Wrote s' e' f' h') = true_false (ap (λ t. has_room t out at) (one_line ρ x r s s' e f e' f') ∙ h') h
write_one_case (Wrote s e f h) (NoLine none') = absurd (none' s e f)
write_one_case {ρ} {x} {r} {out} {at} (Wrote s e f h) (NoRoomLeft s' e' f' h') = true_false (ap (λ t. has_room t out at) (one_line ρ x r s' s e' f' e f) ∙ h) h'
write_one_case {ρ} {x} {r} {out} {at} (Wrote s e f h) (Wrote s' e' f' h') = let z = one_line ρ x r s s' e f e' f' in (refl, ap (λ t. at + length t) z, ap (spliced out at) z)
