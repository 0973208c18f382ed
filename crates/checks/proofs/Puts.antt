-- The five parts of a line of text, written one after the other, are the line. Assumes nothing.
use mathlib.Core.Path.{◌≡◌}
use mathlib.Core.Bool.{true}
use mathlib.Core.List.{List, [], ◌∷◌, ◌++◌, append_assoc}
use Prim.Native.Nat.{ℕ, ◌+◌, ◌≤◌}
use native.Mathlib.Omega.{arith}
use lib.ListN.{length, length-append}
use Rattle.text.specs.Text.{is_packed, spliced}
use Rattle.text.proofs.Logic.{and_left, and_right}
use Rattle.rules.specs.Frame.{line_feed}
use Rattle.printer.specs.RowText.{space, line_text}
use Rattle.printer.specs.Parts.{part_text}
use Rattle.printer.specs.Asks.{counted}
use Rattle.printer.proofs.Counts.{next_fits, next_wrote}
use Rattle.checks.specs.Part.{is_verdict, verdict_text, longest_saying}
use Rattle.checks.specs.declared.Verdict.{Verdict}
use Rattle.checks.proofs.Lines.{text_few}

-- what was written so far: w, from place `at`
pub record Wrote (out : List ℕ) (at : ℕ) (w : List ℕ) (j : ℕ) (o : List ℕ) : Type 0 where
  pub place : j ≡ at + length w
  pub bytes : o ≡ spliced out at w

module _ (n : ℕ) (v : Verdict) (out : List ℕ) (at : ℕ) (good : is_verdict v ≡ true) (room : at + longest_saying ≤ length out) where
  abbrev p₁ : List ℕ
  p₁ = counted [] n space

  abbrev p₂ : List ℕ
  p₂ = counted [] v.answer space

  abbrev p₃ : List ℕ
  p₃ = counted [] v.place space

  abbrev p₄ : List ℕ
  p₄ = part_text v.kind ++ space ∷ []

  abbrev p₅ : List ℕ
  p₅ = part_text v.key ++ line_feed ∷ []

  whole : verdict_text n v ≡ p₁ ++ p₂ ++ p₃ ++ p₄ ++ p₅
  unfolding verdict_text line_text counted
  whole = simp append_assoc

  fits₅ : at + length (p₁ ++ p₂ ++ p₃ ++ p₄ ++ p₅) ≤ length out
  fits₅ = rw (← whole) (omega (arith, text_few n v good))

  fits₄ : at + length (p₁ ++ p₂ ++ p₃ ++ p₄) ≤ length out
  fits₄ = omega (arith, fits₅, length-append (p₁ ++ p₂ ++ p₃ ++ p₄) p₅)

  fits₃ : at + length (p₁ ++ p₂ ++ p₃) ≤ length out
  fits₃ = omega (arith, fits₄, length-append (p₁ ++ p₂ ++ p₃) p₄)

  fits₂ : at + length (p₁ ++ p₂) ≤ length out
  fits₂ = omega (arith, fits₃, length-append (p₁ ++ p₂) p₃)

  pub fits₁ : at + length p₁ ≤ length out
  fits₁ = omega (arith, fits₂, length-append p₁ p₂)

  pub kind_packed : is_packed v.kind ≡ true
  unfolding is_verdict
  kind_packed = and_left (is_packed v.kind) (is_packed v.key) good

  pub key_packed : is_packed v.key ≡ true
  unfolding is_verdict
  key_packed = and_right (is_packed v.kind) (is_packed v.key) good

  -- a part more
  more : (w p : List ℕ) → at + length (w ++ p) ≤ length out → {j : ℕ} {o : List ℕ} → Wrote out at w j o → {j' : ℕ} {o' : List ℕ} → j' ≡ j + length p → o' ≡ spliced o j p → Wrote out at (w ++ p) j' o'
  more w p h k e f = record { place = omega (arith, e, k.place, length-append w p); bytes = next_wrote out w p at h k.place k.bytes f }

  room_for : (w p : List ℕ) → at + length (w ++ p) ≤ length out → {j : ℕ} {o : List ℕ} → Wrote out at w j o → j + length p ≤ length o
  room_for w p h k = next_fits out w p at h k.place k.bytes

  module _ {j₁ : ℕ} {o₁ : List ℕ} (e₁ : (j₁ ≡ at + length p₁) × (o₁ ≡ spliced out at p₁)) where
    wrote₁ : Wrote out at p₁ j₁ o₁
    wrote₁ = record { place = e₁.0; bytes = e₁.1 }

    pub room₂ : j₁ + length p₂ ≤ length o₁
    room₂ = room_for p₁ p₂ fits₂ wrote₁

    module _ {j₂ : ℕ} {o₂ : List ℕ} (e₂ : (j₂ ≡ j₁ + length p₂) × (o₂ ≡ spliced o₁ j₁ p₂)) where
      wrote₂ : Wrote out at (p₁ ++ p₂) j₂ o₂
      wrote₂ = more p₁ p₂ fits₂ wrote₁ e₂.0 e₂.1

      pub room₃ : j₂ + length p₃ ≤ length o₂
      room₃ = room_for (p₁ ++ p₂) p₃ fits₃ wrote₂

      module _ {j₃ : ℕ} {o₃ : List ℕ} (e₃ : (j₃ ≡ j₂ + length p₃) × (o₃ ≡ spliced o₂ j₂ p₃)) where
        wrote₃ : Wrote out at (p₁ ++ p₂ ++ p₃) j₃ o₃
        wrote₃ = more (p₁ ++ p₂) p₃ fits₃ wrote₂ e₃.0 e₃.1

        pub room₄ : j₃ + length (part_text v.kind) + 1 ≤ length o₃
        room₄ = omega (arith, room_for (p₁ ++ p₂ ++ p₃) p₄ fits₄ wrote₃, length-append (part_text v.kind) (space ∷ []))

        module _ {j₄ : ℕ} {o₄ : List ℕ} (e₄ : (j₄ ≡ j₃ + length (part_text v.kind) + 1) × (o₄ ≡ spliced o₃ j₃ p₄)) where
          wrote₄ : Wrote out at (p₁ ++ p₂ ++ p₃ ++ p₄) j₄ o₄
          wrote₄ = more (p₁ ++ p₂ ++ p₃) p₄ fits₄ wrote₃ (omega (arith, e₄.0, length-append (part_text v.kind) (space ∷ []))) e₄.1

          pub room₅ : j₄ + length (part_text v.key) + 1 ≤ length o₄
          room₅ = omega (arith, room_for (p₁ ++ p₂ ++ p₃ ++ p₄) p₅ fits₅ wrote₄, length-append (part_text v.key) (line_feed ∷ []))

          pub put_whole : {j₅ : ℕ} {o₅ : List ℕ} → (j₅ ≡ j₄ + length (part_text v.key) + 1) × (o₅ ≡ spliced o₄ j₄ p₅)
              → (j₅ ≡ at + length (verdict_text n v)) × (o₅ ≡ spliced out at (verdict_text n v))
          put_whole {j₅} e₅ =
              let p : j₅ ≡ j₄ + length p₅ = omega (arith, e₅.0, length-append (part_text v.key) (line_feed ∷ [])) in
              let k = more (p₁ ++ p₂ ++ p₃ ++ p₄) p₅ fits₅ wrote₄ p e₅.1 in
              rw whole (k.place, k.bytes)
