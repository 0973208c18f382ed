-- THE THEOREMS of demand 2 about the calls that programs make, once over the rule. A call is its function's `ensures` as it stands in the source, `Post`,
-- for any arguments, answer and state at exit (those of the readers are line/proofs/Calls'); what a theorem says of a call under the rule New it says of
-- `line::read`, `line::free` and `writer::write`, and under Old of `line::read_old`, `line::free` and `writer::write_old`. Assumes nothing.
use Rattle.std.specs.Prelude.{Ok, Result}
use mathlib.Core.Path.{◌≡◌, sym, ap, ◌∙◌}
use mathlib.Core.Bool.{true, false}
use mathlib.Core.List.{List, Memᴰ}
use Prim.Native.Nat.{ℕ, ◌+◌, ◌-◌, ◌≤◌}
use lib.ListN.{length}
use borrow.Author.Tests.{le-leb}
use Rattle.text.specs.Text.{text_of, spliced, has_room, written_next, written_bytes}
use Rattle.text.proofs.Logic.{not_holds}
use Rattle.shapes.specs.Picture.{part}
use Rattle.rules.specs.Level.{Falls}
use Rattle.rules.specs.declared.Rule.{Rule}
use Rattle.rules.specs.declared.Rule.TheVariants.{New, Old}
use Rattle.rules.proofs.Levels.{never_falls}
use Rattle.fields.specs.Answer.{write_answer}
use Rattle.fields.specs.declared.plan.Level.{Level}
use Rattle.messages.specs.Levels.{levels_in}
use Rattle.line.specs.Line.{line_by, is_allowed_by}
use Rattle.line.specs.Messages.{MessageOf, reading_in, AnswerOf, Took}
use Rattle.line.proofs.Calls.{ReadCall, FreeCall, read_told, free_told}
use Rattle.line.proofs.Levels.{allowed_levels}
use Rattle.line.proofs.Theorems.{message_reading, reading_message, refused_exactly}
use Rattle.writer.proofs.Round.{written_same, read_same}
use Rattle.writer.proofs.write.Reads as write
use Rattle.writer.proofs.write_old.Reads as write-old
use Rattle.text.specs.declared.NotWritten.{NotWritten}

-- a message with its free text, written into a buffer at a place: the answer, and the buffer that is left
pub data WriteCall : (ρ : Rule) → MessageOf ρ → List ℕ → List ℕ → ℕ → Result ℕ NotWritten → List ℕ → Type 0 where
  Write : (κs : _) (a : _) (w : _) (s : _) → write.Post κs a w s → WriteCall New a.0 a.1.0.now a.1.1.0.now a.1.1.1.0 w s.1.1.0.now
  WriteOld : (κs : _) (a : _) (w : _) (s : _) → write-old.Post κs a w s → WriteCall Old a.0 a.1.0.now a.1.1.0.now a.1.1.1.0 w s.1.1.0.now

-- what it promises
write_told : {ρ : Rule} {m : MessageOf ρ} {f out : List ℕ} {at : ℕ} {w : (Result ℕ NotWritten)} {out' : List ℕ} → WriteCall ρ m f out at w out'
    → (w ≡ written_next (is_allowed_by ρ (reading_in ρ m) f) (line_by ρ (reading_in ρ m) f) out at) × (out' ≡ written_bytes (is_allowed_by ρ (reading_in ρ m) f) (line_by ρ (reading_in ρ m) f) out at)
write_told (Write κs a w s v) = (v.0, v.1.0)
write_told (WriteOld κs a w s v) = (v.0, v.1.0)

-- ---- THE THEOREMS

module _ (ρ : Rule) where
  -- what was read from a line, message and free text, and is written at a place where the line fits: the answer is taken,
  -- with the place after the line, and the buffer is as it was with exactly the line's bytes at that place
  pub write_after_read : {line f out out' : List ℕ} {at : ℕ} {m : MessageOf ρ} {w : (Result ℕ NotWritten)}
      → ReadCall ρ line (Took ρ m) → FreeCall ρ line f → WriteCall ρ m f out at w out' → at + length line ≤ length out
      → (w ≡ Ok (at + length line)) × (out' ≡ spliced out at line)
  unfolding has_room
  write_after_read {line} {f} {out} {out'} {at} {m} c d k fits =
      let v = write_told k in
      let t = rw (← (free_told d)) at (written_same ρ line out at (reading_in ρ m) (message_reading ρ line m (sym (read_told c))) (le-leb (at + length line) (length out) fits)) in
      (v.0 ∙ t.0, v.1 ∙ t.1)

  -- what was written, into any buffer and at any place, is read from the bytes that were written: the answer is exactly
  -- that message, and its free text is handed back
  pub read_after_write : {f g out out' : List ℕ} {at n : ℕ} {m : MessageOf ρ} {r : AnswerOf ρ} → let bytes = part at (n - at) out' in
      WriteCall ρ m f out at (Ok n) out' → ReadCall ρ bytes r → FreeCall ρ bytes g → (r ≡ Took ρ m) × (g ≡ f)
  read_after_write {f} {g} {out} {out'} {at} {n} {m} k c d =
      let v = write_told k in
      let t = rw (← v.1) at (read_same ρ (reading_in ρ m) f out at n (sym v.0)) in
      (read_told c ∙ reading_message ρ (part at (n - at) out') m t.0, free_told d ∙ t.1)

  -- a line is refused exactly if no allowed message has it as its text
  pub refused_call : {line : List ℕ} {r : AnswerOf ρ} → ReadCall ρ line r
      → (((m : MessageOf ρ) → r ≡ Took ρ m → ⊥) → (m : MessageOf ρ) (f : List ℕ) → is_allowed_by ρ (reading_in ρ m) f ≡ true → line_by ρ (reading_in ρ m) f ≡ line → ⊥)
      × (((m : MessageOf ρ) (f : List ℕ) → is_allowed_by ρ (reading_in ρ m) f ≡ true → line_by ρ (reading_in ρ m) f ≡ line → ⊥) → (m : MessageOf ρ) → r ≡ Took ρ m → ⊥)
  refused_call {line} c = rw (read_told c) (refused_exactly ρ line)

  -- "16 when writing it": a message one of whose levels falls, an FZ's, a UZ's or that of an 08 or 09, is not written, and the buffer stays
  pub falls_unwritten : {f out out' : List ℕ} {at : ℕ} {m : MessageOf ρ} {w : (Result ℕ NotWritten)} → WriteCall ρ m f out at w out'
      → (l : Level) → Memᴰ l (levels_in (reading_in ρ m).body) → Falls (text_of l.0) → (write_answer w ≡ 16) × (out' ≡ out)
  unfolding written_next written_bytes
  falls_unwritten {f} {out} {out'} {at} {m} k l i q =
      let v = write_told k in
      let x = reading_in ρ m in
      let n : is_allowed_by ρ x f ≡ false = not_holds (is_allowed_by ρ x f) (λ e. never_falls (text_of l.0) (allowed_levels ρ x f e l i) q) in
      (ap write_answer v.0 ∙ rw n, v.1 ∙ rw n)
