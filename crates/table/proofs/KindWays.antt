-- The ways of the functions that look at a text's bytes: a text without a first byte, and the mark of a text of two bytes and of
-- any other. Assumes nothing.
use mathlib.Core.Path.{◌≡◌, refl, sym, ap, ◌∙◌}
use mathlib.Core.List.{List, [], ◌∷◌}
use Prim.Native.Char.{code}
use Prim.Native.Nat.{ℕ}
use native.Mathlib.Omega.{arith}
use lib.ListN.{length, get_or}
use borrow.Author.Tests.{ne_eqb}
use Rattle.text.specs.Bytes.{bytes}
use Rattle.table.specs.Amends.{Amends, mark_of}
use Rattle.table.proofs.Eight.{zero_mark, each_eight}

-- no number is longer or shorter than two bytes
pub not_two : (s : List ℕ) → (length s ≡ 2 → ⊥) → 0 ≡ mark_of s
not_two s n = sym (zero_mark s (λ a m q. n (sym (ap length q) ∙ each_eight (λ (c : Amends). length c.number ≡ 2) refl refl refl refl refl refl refl refl a m)))

-- the mark n of the two bytes a and b is that of a text of these
pub two_bytes : (s : List ℕ) {a b n : ℕ} → n ≡ mark_of (a ∷ b ∷ []) → length s ≡ 2 → get_or s 0 0 ≡ a → get_or s 1 0 ≡ b → n ≡ mark_of s
two_bytes [] t e p q = absurd (omega arith)
two_bytes (a ∷ []) t e p q = absurd (omega arith)
two_bytes (a ∷ b ∷ []) t e p q = rw (p, q) t
two_bytes (a ∷ b ∷ c ∷ s) t e p q = absurd (omega arith)

-- the marks of the eight, as the code has them
pub marks : (1 ≡ mark_of (bytes "02")) × (2 ≡ mark_of (bytes "03")) × (4 ≡ mark_of (bytes "05")) × (8 ≡ mark_of (bytes "06"))
    × (16 ≡ mark_of (bytes "07")) × (32 ≡ mark_of (bytes "08")) × (64 ≡ mark_of (bytes "09")) × (128 ≡ mark_of (bytes "10"))
unfolding mark_of
marks = (refl, refl, refl, refl, refl, refl, refl, refl)

-- after a 1 no byte but 0 makes a number, after a 0 none but seven, and after any other byte none
pub is_no_10 : {b : ℕ} → (b ≡ code "0" → ⊥) → 0 ≡ mark_of (code "1" ∷ b ∷ [])
unfolding mark_of
is_no_10 h = rw (ne_eqb _ _ h)

pub is_no_0 : {b : ℕ} → (b ≡ code "2" → ⊥) → (b ≡ code "3" → ⊥) → (b ≡ code "5" → ⊥) → (b ≡ code "6" → ⊥) → (b ≡ code "7" → ⊥) → (b ≡ code "8" → ⊥) → (b ≡ code "9" → ⊥) → 0 ≡ mark_of (code "0" ∷ b ∷ [])
unfolding mark_of
is_no_0 h₂ h₃ h₅ h₆ h₇ h₈ h₉ = rw (ne_eqb _ _ h₂, ne_eqb _ _ h₃, ne_eqb _ _ h₅, ne_eqb _ _ h₆, ne_eqb _ _ h₇, ne_eqb _ _ h₈, ne_eqb _ _ h₉)

pub is_none : {a : ℕ} (b : ℕ) → (a ≡ code "0" → ⊥) → (a ≡ code "1" → ⊥) → 0 ≡ mark_of (a ∷ b ∷ [])
unfolding mark_of
is_none b h₀ h₁ = rw (ne_eqb _ _ h₀, ne_eqb _ _ h₁)
