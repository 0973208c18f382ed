-- A text cut at the first b and the two parts with b between them are the same thing, where the first part has no b.
-- Assumes nothing.
use mathlib.Core.Path.{◌≡◌, refl, sym, ap, ◌∙◌, subst}
use mathlib.Core.Bool.{Bool, true, false, not, ◌&&◌}
use mathlib.Core.List.{List, [], ◌∷◌, ◌++◌}
use Prim.Native.Nat.{ℕ, suc, ◌+◌, ◌≤◌, ◌<◌}
use native.Mathlib.Numerals.{add-one}
use native.Mathlib.Omega.{arith}
use lib.Dec.{eqb}
use lib.ListN.{length, take, drop, length-append, drop_of_length-le}
use lib.Seq.{split_at, take_at, take_all, drop_at, append_snoc}
use borrow.Author.Tests.{lt-ltb, le-ltb, eqb-true, ltb-true, ltb-false, not-true}
use Rattle.text.specs.Class.{all}
use Rattle.text.proofs.Logic.{and_left, and_right, true_false}
use Rattle.shapes.specs.Picture.{is_of, fits}
use Rattle.shapes.specs.Cut.{up_to, has, before, after, joins}
use Rattle.shapes.proofs.Laws.{up_to_le, up_to_at, up_to_here}

-- what is cut is the two parts with b between them
pub cut_whole : (b : ℕ) (s : List ℕ) → has b s ≡ true → before b s ++ b ∷ after b s ≡ s
unfolding has before after
cut_whole b s e =
    let h : up_to b s < length s = ltb-true (up_to b s) (length s) e in
    rw add-one (sym (subst (λ (x : ℕ). s ≡ take (up_to b s) s ++ x ∷ drop (suc (up_to b s)) s) (up_to_at b s h) (split_at s (up_to b s) 0 h)))

-- a text of a class that b is not of has no b
pub has_no : (b : ℕ) (f : ℕ → Bool) → f b ≡ false → (s : List ℕ) → all f s ≡ true → up_to b s ≡ length s
unfolding all up_to
has_no b f h [] e = refl
has_no b f h (x ∷ s) e = go (eqb x b) refl (has_no b f h s (and_right (f x) (all f s) e))
  where
    go : (t : Bool) → eqb x b ≡ t → up_to b s ≡ length s → up_to b (x ∷ s) ≡ suc (length s)
    go true q r = true_false (and_left (f x) (all f s) e) (ap f (eqb-true x b q) ∙ h)
    go false q r = rw (q, r)

-- nor has one that fits a picture in which nothing stands for b
pub fits_no : (b : ℕ) (p s : List ℕ) → all (λ k. not (is_of k b)) p ≡ true → fits p s ≡ true → up_to b s ≡ length s
unfolding all fits up_to
fits_no b [] [] h e = refl
fits_no b [] (x ∷ s) h e = true_false e refl
fits_no b (k ∷ p) [] h e = true_false e refl
fits_no b (k ∷ p) (x ∷ s) h e =
    go (eqb x b) refl (fits_no b p s (and_right (not (is_of k b)) (all (λ k. not (is_of k b)) p) h) (and_right (is_of k x) (fits p s) e))
  where
    go : (t : Bool) → eqb x b ≡ t → up_to b s ≡ length s → up_to b (x ∷ s) ≡ suc (length s)
    go true q r =
        let y : is_of k b ≡ true = sym (ap (is_of k) (eqb-true x b q)) ∙ and_left (is_of k x) (fits p s) e in
        true_false y (not-true (is_of k b) (and_left (not (is_of k b)) (all (λ k. not (is_of k b)) p) h))
    go false q r = rw (q, r)

-- a text with no b is passed whole
pub up_to_past : (b : ℕ) (x y : List ℕ) → up_to b x ≡ length x → up_to b (x ++ y) ≡ length x + up_to b y
unfolding up_to
up_to_past b [] y e = omega arith
up_to_past b (c ∷ x) y e = go (eqb c b) refl (up_to_past b x y)
  where
    go : (t : Bool) → eqb c b ≡ t → (up_to b x ≡ length x → up_to b (x ++ y) ≡ length x + up_to b y) → up_to b (c ∷ (x ++ y)) ≡ suc (length x) + up_to b y
    go true q r = let z : 0 ≡ suc (length x) = rw q at e in absurd (omega arith)
    go false q r = let z : suc (up_to b x) ≡ suc (length x) = rw q at e in rw (q, r (omega arith)) (omega arith)

joined_at : (b : ℕ) (x y : List ℕ) → up_to b x ≡ length x → up_to b (x ++ b ∷ y) ≡ length x
joined_at b x y e = let h : up_to b (b ∷ y) ≡ 0 = up_to_here b b y refl in omega (arith, up_to_past b x (b ∷ y) e, h)

module _ (b : ℕ) (x y : List ℕ) (none : up_to b x ≡ length x) where
  pub joined_has : has b (x ++ b ∷ y) ≡ true
  unfolding has
  joined_has = lt-ltb (up_to b (x ++ b ∷ y)) (length (x ++ b ∷ y)) (omega (arith, joined_at b x y none, length-append x (b ∷ y)))

  pub joined_before : before b (x ++ b ∷ y) ≡ x
  unfolding before
  joined_before = take_at x (b ∷ y) (up_to b (x ++ b ∷ y)) (sym (joined_at b x y none))

  pub joined_after : after b (x ++ b ∷ y) ≡ y
  unfolding after
  joined_after =
      let n = up_to b (x ++ b ∷ y) + 1 in
      let l : length (x ++ b ∷ []) ≡ n = omega (arith, joined_at b x y none, length-append x (b ∷ [])) in
      ap (drop n) (sym (append_snoc x b y)) ∙ drop_at (x ++ b ∷ []) y n l

-- a text joins p and q exactly if it is x, b and y, where x has p and y has q
module _ (b : ℕ) (p q : List ℕ → Bool) where
  pub joins_parts : (s : List ℕ) → joins b p q s ≡ true → (before b s ++ b ∷ after b s ≡ s) × (p (before b s) ≡ true) × (q (after b s) ≡ true)
  unfolding joins
  joins_parts s e =
      let l = and_left (has b s && p (before b s)) (q (after b s)) e in
      (cut_whole b s (and_left (has b s) (p (before b s)) l), and_right (has b s) (p (before b s)) l, and_right (has b s && p (before b s)) (q (after b s)) e)

  pub parts_join : (x y : List ℕ) → up_to b x ≡ length x → p x ≡ true → q y ≡ true → joins b p q (x ++ b ∷ y) ≡ true
  unfolding joins
  parts_join x y none h k = rw (joined_has b x y none, joined_before b x y none, joined_after b x y none, h, k)

-- a text with no b is not cut
module _ (b : ℕ) (s : List ℕ) (none : up_to b s ≡ length s) where
  pub whole_has : has b s ≡ false
  unfolding has
  whole_has = le-ltb (up_to b s) (length s) (omega arith)

  pub whole_before : before b s ≡ s
  unfolding before
  whole_before = take_all (up_to b s) s (omega arith)

  pub whole_after : after b s ≡ []
  unfolding after
  whole_after = let h : length s ≤ up_to b s + 1 = omega arith in drop_of_length-le s h

pub no_cut : (b : ℕ) (s : List ℕ) → has b s ≡ false → up_to b s ≡ length s
unfolding has
no_cut b s e = omega (arith, ltb-false (up_to b s) (length s) e, up_to_le b s)

-- what stands before the first b has none
pub before_none : (b : ℕ) (s : List ℕ) → up_to b (before b s) ≡ length (before b s)
unfolding before up_to
before_none b [] = refl
before_none b (x ∷ s) = go (eqb x b) refl (before_none b s)
  where
    go : (t : Bool) → eqb x b ≡ t → up_to b (take (up_to b s) s) ≡ length (take (up_to b s) s) → up_to b (take (up_to b (x ∷ s)) (x ∷ s)) ≡ length (take (up_to b (x ∷ s)) (x ∷ s))
    go true q r = rw q
    go false q r = rw (q, q, r)
