-- The laws of an amendment's number: a text has the mark 0 exactly if it is none of the eight; each of the eight has a mark of its own, that
-- of its place, which gives back the number and its content; and what is so of each of them. Assumes nothing.
use mathlib.Core.Path.{◌≡◌, refl, sym, ap, ap₂, ◌∙◌, subst}
use mathlib.Core.Bool.{Bool, true, false, ◌||◌}
use mathlib.Core.List.Memᴰ
use mathlib.Core.List.{List, [], ◌∷◌, Memᴰ}
use mathlib.Core.Logic.{◌⊎◌, inl, inr}
use Prim.Native.Nat.{ℕ, suc, ◌^◌, ◌<◌}
use native.Mathlib.Omega.{arith}
use lib.Dec.{eqb}
use lib.ListN.{get_or}
use lib.Pow.{pow_pos}
use borrow.Author.Tests.{eqb-true, eq-eqb}
use Rattle.text.specs.Bytes.{bytes}
use Rattle.text.proofs.Logic.{and_left, and_right, true_false, not_holds, either_of, below_at}
use Rattle.table.specs.Amends.{Amends, the_eight, no_amends, same, mark_from, marked_from, is_mark_from, mark_of, mark_text, is_mark, content_of}

-- ---- the same bytes

pub same_is : (s t : List ℕ) → same s t ≡ true → s ≡ t
same_is [] [] e = refl
same_is [] (y ∷ t) e = true_false e refl
same_is (x ∷ s) [] e = true_false e refl
same_is (x ∷ s) (y ∷ t) e =
    ap₂ (λ (n : ℕ) (l : List ℕ). n ∷ l) (eqb-true x y (and_left (eqb x y) (same s t) e)) (same_is s t (and_right (eqb x y) (same s t) e))

is_same : (s : List ℕ) → same s s ≡ true
is_same [] = refl
is_same (x ∷ s) = rw (eq-eqb x x refl) (is_same s)

-- ---- none of the eight

-- s is the number of one of these
abbrev NumberIn : List Amends → List ℕ → Type 0
NumberIn l s = (a : Amends) × Memᴰ a l × (a.number ≡ s)

found : (i : ℕ) (l : List Amends) (s : List ℕ) → NumberIn l s ⊎ (mark_from i l s ≡ 0)
found i [] s = inr refl
found i (x ∷ l) s = go (same s x.number) refl (found (suc i) l s)
  where
    go : (b : Bool) → same s x.number ≡ b → NumberIn l s ⊎ (mark_from (suc i) l s ≡ 0) → NumberIn (x ∷ l) s ⊎ (mark_from i (x ∷ l) s ≡ 0)
    go true q f = inl (x, Memᴰ.head refl, sym (same_is s x.number q))
    go false q (inl (a, m, e)) = inl (a, Memᴰ.tail m, e)
    go false q (inr e) = inr (rw q e)

marked : (i : ℕ) (l : List Amends) (s : List ℕ) → mark_from i l s ≡ 0 → (a : Amends) → Memᴰ a l → a.number ≡ s → ⊥
marked i [] s e a m q = Memᴰ.not-nil m
marked i (x ∷ l) s e a m q = go (same s x.number) refl (Memᴰ.cases_cons m) (marked (suc i) l s)
  where
    go : (b : Bool) → same s x.number ≡ b → (a ≡ x) ⊎ Memᴰ a l → (mark_from (suc i) l s ≡ 0 → (c : Amends) → Memᴰ c l → c.number ≡ s → ⊥) → ⊥
    go true p w ih = let z : 2 ^ i ≡ 0 = rw p at e in omega (arith, pow_pos i)
    go false p (inl w) ih = true_false (subst (λ (t : List ℕ). same s t ≡ true) (sym q ∙ ap (λ (c : Amends). c.number) w) (is_same s)) p
    go false p (inr w) ih = ih (rw p at e) a w q

-- a text is the number of one of the eight, or its mark is 0
pub eight_or_none : (s : List ℕ) → ((a : Amends) × Memᴰ a the_eight × (a.number ≡ s)) ⊎ (mark_of s ≡ 0)
unfolding mark_of
eight_or_none s = found 0 the_eight s

-- THE MARK IS 0 EXACTLY IF the text is the number of none of the eight
pub mark_zero : (s : List ℕ) → mark_of s ≡ 0 → (a : Amends) → Memᴰ a the_eight → a.number ≡ s → ⊥
unfolding mark_of
mark_zero s e = marked 0 the_eight s e

pub zero_mark : (s : List ℕ) → ((a : Amends) → Memᴰ a the_eight → a.number ≡ s → ⊥) → mark_of s ≡ 0
zero_mark s n = go (eight_or_none s)
  where
    go : ((a : Amends) × Memᴰ a the_eight × (a.number ≡ s)) ⊎ (mark_of s ≡ 0) → mark_of s ≡ 0
    go (inl (a, m, e)) = absurd (n a m e)
    go (inr e) = e

-- ---- each of the eight

-- the one in the place i
abbrev at : ℕ → Amends
at i = get_or the_eight i no_amends

-- what is so of each is so of all
pub each_eight : (X : Amends → Type 0) → X (at 0) → X (at 1) → X (at 2) → X (at 3) → X (at 4) → X (at 5) → X (at 6) → X (at 7)
    → (a : Amends) → Memᴰ a the_eight → X a
each_eight X x₀ x₁ x₂ x₃ x₄ x₅ x₆ x₇ a m =
    one x₀ (one x₁ (one x₂ (one x₃ (one x₄ (one x₅ (one x₆ (one x₇ (λ n. absurd (Memᴰ.not-nil n))))))))) m
  where
    one : {x : Amends} {l : List Amends} → X x → (Memᴰ a l → X a) → Memᴰ a (x ∷ l) → X a
    one {x} {l} y rest n = go (Memᴰ.cases_cons n)
      where
        go : (a ≡ x) ⊎ Memᴰ a l → X a
        go (inl e) = subst X (sym e) y
        go (inr k) = rest k

-- a number has the mark of its place
pub mark_place : (i : ℕ) → i < 8 → mark_of (get_or the_eight i no_amends).number ≡ 2 ^ i
unfolding mark_of
mark_place i h =
    eqb-true (mark_of (at i).number) (2 ^ i) (below_at (λ i. eqb (mark_of (at i).number) (2 ^ i)) 8 refl i h)

-- what the mark m of the number of a tells
abbrev pub Marks : Amends → ℕ → Type 0
Marks a m = (is_mark m ≡ true) × (mark_text m ≡ a.number) × (content_of m ≡ a.content)

-- THE MARK of each of the eight is one of the marks, and gives back its number and its content
pub eight_marks : (a : Amends) → Memᴰ a the_eight → Marks a (mark_of a.number)
unfolding mark_of mark_text is_mark content_of
eight_marks =
    each_eight (λ (a : Amends). Marks a (mark_of a.number))
    (refl, refl, refl) (refl, refl, refl) (refl, refl, refl) (refl, refl, refl) (refl, refl, refl) (refl, refl, refl) (refl, refl, refl) (refl, refl, refl)

-- ---- a number and its mark

module _ (s : List ℕ) (e : eqb (mark_of s) 0 ≡ false) where
  told : (X : List ℕ → Type 0) → ((a : Amends) → Memᴰ a the_eight → X a.number) → X s
  told X x = go (eight_or_none s)
    where
      go : ((a : Amends) × Memᴰ a the_eight × (a.number ≡ s)) ⊎ (mark_of s ≡ 0) → X s
      go (inl (a, m, q)) = subst X q (x a m)
      go (inr z) = true_false (eq-eqb (mark_of s) 0 z) e

  pub mark_is : is_mark (mark_of s) ≡ true
  mark_is = told (λ t. is_mark (mark_of t) ≡ true) (λ a m. (eight_marks a m).0)

  pub text_mark : mark_text (mark_of s) ≡ s
  text_mark = told (λ t. mark_text (mark_of t) ≡ t) (λ a m. (eight_marks a m).1)

-- what is so of each mark is so of a mark
pub each_mark : (X : ℕ → Type 0) → X 1 → X 2 → X 4 → X 8 → X 16 → X 32 → X 64 → X 128 → (m : ℕ) → is_mark m ≡ true → X m
unfolding is_mark
each_mark X x₁ x₂ x₄ x₈ x₁₆ x₃₂ x₆₄ x₁₂₈ m =
    one 1 x₁ (one 2 x₂ (one 4 x₄ (one 8 x₈ (one 16 x₁₆ (one 32 x₃₂ (one 64 x₆₄ (one 128 x₁₂₈ (λ e. true_false e refl))))))))
  where
    one : (n : ℕ) {b : Bool} → X n → (b ≡ true → X m) → (eqb m n || b) ≡ true → X m
    one n {b} x rest = either_of (eqb m n) b (λ q. subst X (sym (eqb-true m n q)) x) rest

pub mark_text_lem : (m : ℕ) → is_mark m ≡ true → mark_of (mark_text m) ≡ m
unfolding mark_of mark_text
mark_text_lem = each_mark (λ m. mark_of (mark_text m) ≡ m) refl refl refl refl refl refl refl refl

-- no mark is 0
pub mark_some : (m : ℕ) → is_mark m ≡ true → eqb m 0 ≡ false
mark_some = each_mark (λ m. eqb m 0 ≡ false) refl refl refl refl refl refl refl refl

-- a test that holds of the eight numbers holds of the number of every mark
pub each_text : (f : List ℕ → Bool) → f (bytes "02") ≡ true → f (bytes "03") ≡ true → f (bytes "05") ≡ true
    → f (bytes "06") ≡ true → f (bytes "07") ≡ true → f (bytes "08") ≡ true → f (bytes "09") ≡ true → f (bytes "10") ≡ true
    → (m : ℕ) → is_mark m ≡ true → f (mark_text m) ≡ true
unfolding mark_text
each_text f = each_mark (λ m. f (mark_text m) ≡ true)

-- what is none of the eight marks is no mark
pub not_mark : (m : ℕ) → (m ≡ 1 → ⊥) → (m ≡ 2 → ⊥) → (m ≡ 4 → ⊥) → (m ≡ 8 → ⊥)
    → (m ≡ 16 → ⊥) → (m ≡ 32 → ⊥) → (m ≡ 64 → ⊥) → (m ≡ 128 → ⊥) → is_mark m ≡ false
not_mark m n₁ n₂ n₄ n₈ n₁₆ n₃₂ n₆₄ n₁₂₈ =
    not_holds (is_mark m) (λ e. each_mark (λ k. m ≡ k → ⊥) n₁ n₂ n₄ n₈ n₁₆ n₃₂ n₆₄ n₁₂₈ m e refl)

-- and has no number and no content
no_from : (i : ℕ) (l : List Amends) (m : ℕ) → is_mark_from i l m ≡ false → marked_from i l m ≡ no_amends
no_from i [] m e = refl
no_from i (x ∷ l) m e = go (eqb m (2 ^ i)) refl (no_from (suc i) l m)
  where
    go : (b : Bool) → eqb m (2 ^ i) ≡ b → (is_mark_from (suc i) l m ≡ false → marked_from (suc i) l m ≡ no_amends) → marked_from i (x ∷ l) m ≡ no_amends
    go true q ih = true_false refl (rw q at e)
    go false q ih = rw q (ih (rw q at e))

pub no_mark : (m : ℕ) → is_mark m ≡ false → (mark_text m ≡ []) × (content_of m ≡ 0)
unfolding is_mark mark_text content_of
no_mark m e = let n = no_from 0 the_eight m e in (ap (λ (a : Amends). a.number) n, ap (λ (a : Amends). a.content) n)
