-- `table::field::put_mark` meets its contract. Assumes nothing.
use mathlib.Core.Path.{◌≡◌, refl, sym, ap, ◌∙◌}
use mathlib.Core.Bool.{Bool, true, false, cond, not}
use mathlib.Core.List.{List, [], ◌∷◌}
use Prim.Native.Nat.{ℕ}
use lib.Dec.{eqb}
use lib.ListN.{get_or}
use borrow.Author.Tests.{eq-eqb, not-true}
use Rattle.text.proofs.Logic.{true_false}
use Rattle.text.proofs.Laws.{no_text}
use Rattle.table.specs.Field.{is_mark, mark_text}
use Rattle.table.proofs.Eight.{each_text}
use Rattle.table.proofs.field.put_mark.Goals as goal

-- no number begins with the byte 0
first : (m : ℕ) → is_mark m ≡ true → eqb (get_or (mark_text m) 0 0) 0 ≡ false
first m e = not-true _ (each_text (λ s. not (eqb (get_or s 0 0) 0)) refl refl refl refl refl refl refl refl m e)

-- digits that begin with 0 are those of no mark, and any others those of a mark
none : (m : ℕ) (d : List ℕ) → d ≡ cond (is_mark m) (mark_text m) (0 ∷ 0 ∷ []) → get_or d 0 0 ≡ 0 → is_mark m ≡ false
none m d e z = go (is_mark m) refl
  where
    go : (b : Bool) → is_mark m ≡ b → is_mark m ≡ false
    go true q = true_false (eq-eqb _ _ (sym (ap (λ (s : List ℕ). get_or s 0 0) (rw q at e)) ∙ z)) (first m q)
    go false q = q

some : (m : ℕ) (d : List ℕ) → d ≡ cond (is_mark m) (mark_text m) (0 ∷ 0 ∷ []) → (get_or d 0 0 ≡ 0 → ⊥) → (is_mark m ≡ true) × (d ≡ mark_text m)
some m d e n = go (is_mark m) refl
  where
    go : (b : Bool) → is_mark m ≡ b → (is_mark m ≡ true) × (d ≡ mark_text m)
    go true q = (q, rw q at e)
    go false q = absurd (n (ap (λ (s : List ℕ). get_or s 0 0) (rw q at e)))

pub returns-then-digits-eq0 : goal.returns-then-digits-eq0
returns-then-digits-eq0 c =
    let both = no_text _ _ _ (none _ _ c.number-digits.ensures c.if-digits-eq0.true) in
    record { value = both.0; out_after = both.1 }

pub returns : goal.returns
returns c =
    let p = some _ _ c.number-digits.ensures c.if-digits-eq0.false in rw (p.0, ← p.1) (record { value = c.put_bytes.ensures.value; out_after = c.put_bytes.ensures.out_after })
