-- The laws of pictures, runs and cuts. Assumes nothing.
use mathlib.Core.Path.{◌≡◌, refl, sym, ap, ◌∙◌}
use mathlib.Core.Bool.{Bool, true, false, ◌&&◌}
use mathlib.Core.List.{List, [], ◌∷◌}
use Prim.Native.Char.{code}
use Prim.Native.Nat.{ℕ, zero, suc, ◌+◌, ◌-◌, ◌≤◌, ◌<◌}
use native.Mathlib.Nat.{not-suc-le-zero}
use native.Mathlib.Numerals.{add-one}
use native.Mathlib.Omega.{arith}
use lib.Dec.{eqb, leb}
use lib.ListN.{length, take, drop, get_or, length-drop}
use lib.Seq.{take_all, take-take, drop-cons, drop-drop}
use borrow.Author.Tests.{lt-ltb, le-ltb, eq-eqb, eqb-true, leb-true}
use Rattle.text.specs.Class.{all}
use Rattle.text.proofs.Logic.{and_left, and_right, true_false, not_holds}
use Rattle.shapes.specs.Picture.{is_of, fits, run, part, starts_at}
use Rattle.shapes.specs.Cut.{up_to, has, before, after, joins}

-- the part `&s[a..]` is what is left
pub rest_all : (s : List ℕ) (a : ℕ) → take (length s - a) (drop a s) ≡ drop a s
rest_all s a = take_all (length s - a) (drop a s) (omega (arith, length-drop a s))

-- what is left from i on, one byte and the rest
pub next_byte : (s : List ℕ) (i : ℕ) → i < length s → drop i s ≡ get_or s i 0 ∷ drop (i + 1) s
next_byte s i h = rw (add-one, drop-cons s i 0)

-- a part of a part
front_part : (m i k : ℕ) (s : List ℕ) → i + k ≤ m → part i k (take m s) ≡ part i k s
front_part m zero k s h = take-take k m s (omega arith)
front_part zero (suc i) k s h = absurd (omega arith)
front_part (suc m) (suc i) k [] h = refl
front_part (suc m) (suc i) k (b ∷ s) h = front_part m i k s (omega arith)

pub part_part : (j m i k : ℕ) (s : List ℕ) → i + k ≤ m → part i k (part j m s) ≡ part (j + i) k s
part_part j m i k s h = front_part m i k (drop j s) h ∙ rw drop-drop

-- an empty part at the front of a text lies where the text does
pub at_front : (s : ℕ × ℕ) {i : ℕ} → 0 ≡ i → s ≡ starts_at s i
at_front s {i} e = let z : s.1 ≡ i + s.1 = omega arith in ap (λ (n : ℕ). (s.0, n)) z

-- ---- the place of a byte

pub up_to_none : (b : ℕ) → up_to b [] ≡ 0
unfolding up_to
up_to_none b = refl

pub up_to_here : (b x : ℕ) (s : List ℕ) → x ≡ b → up_to b (x ∷ s) ≡ 0
unfolding up_to
up_to_here b x s e = simp (eq-eqb x b e)

pub up_to_le : (b : ℕ) (s : List ℕ) → up_to b s ≤ length s
unfolding up_to
up_to_le b [] = omega arith
up_to_le b (x ∷ s) = go (eqb x b) refl (up_to_le b s)
  where
    go : (t : Bool) → eqb x b ≡ t → up_to b s ≤ length s → up_to b (x ∷ s) ≤ suc (length s)
    go true q r = rw q (omega arith)
    go false q r = rw q (omega arith)

pub up_to_at : (b : ℕ) (s : List ℕ) → up_to b s < length s → get_or s (up_to b s) 0 ≡ b
unfolding up_to
up_to_at b [] h = absurd (not-suc-le-zero h)
up_to_at b (x ∷ s) h = go (eqb x b) refl (up_to_at b s)
  where
    go : (t : Bool) → eqb x b ≡ t → (up_to b s < length s → get_or s (up_to b s) 0 ≡ b) → get_or (x ∷ s) (up_to b (x ∷ s)) 0 ≡ b
    go true q r = rw q (eqb-true x b q)
    go false q r = let k : suc (up_to b s) < suc (length s) = rw q at h in rw q (r (omega arith))

-- ---- pictures

pub fits_length : (p s : List ℕ) → fits p s ≡ true → length s ≡ length p
unfolding fits
fits_length [] [] e = refl
fits_length [] (b ∷ s) e = true_false e refl
fits_length (k ∷ p) [] e = true_false e refl
fits_length (k ∷ p) (b ∷ s) e = ap suc (fits_length p s (and_right (is_of k b) (fits p s) e))

pub fits_apart : (p s : List ℕ) → (length p ≡ length s → ⊥) → fits p s ≡ false
fits_apart p s h = not_holds (fits p s) (λ e. h (sym (fits_length p s e)))

-- what stands between two pictures
abbrev pub bar : ℕ
bar = code "|"

-- ---- runs

module _ (k least most : ℕ) (s : List ℕ) (e : run k least most s ≡ true) where
  pub run_least : least ≤ length s
  unfolding run
  run_least = leb-true least (length s) (and_left (leb least (length s)) (leb (length s) most) (and_left (leb least (length s) && leb (length s) most) (all (is_of k) s) e))

  pub run_most : length s ≤ most
  unfolding run
  run_most = leb-true (length s) most (and_right (leb least (length s)) (leb (length s) most) (and_left (leb least (length s) && leb (length s) most) (all (is_of k) s) e))

  pub run_class : all (is_of k) s ≡ true
  unfolding run
  run_class = and_right (leb least (length s) && leb (length s) most) (all (is_of k) s) e

-- ---- cuts: what a function that found the first b at i knows

module _ (b : ℕ) (s : List ℕ) (i : ℕ) (at : i ≡ up_to b s) where
  pub not_cut : length s ≤ i → has b s ≡ false
  unfolding has
  not_cut h = le-ltb (up_to b s) (length s) (omega arith)

  module _ (h : i < length s) where
    pub is_cut : has b s ≡ true
    unfolding has
    is_cut = lt-ltb (up_to b s) (length s) (omega arith)

    pub cut_before : before b s ≡ take i s
    unfolding before
    cut_before = rw at

    pub cut_after : after b s ≡ take (length s - (i + 1)) (drop (i + 1) s)
    unfolding after
    cut_after = rw (rest_all, at)

  pub joins_not : (p q : List ℕ → Bool) → length s ≤ i → joins b p q s ≡ false
  unfolding joins
  joins_not p q h = rw (not_cut h)

  pub joins_is : (p q : List ℕ → Bool) → i < length s → joins b p q s ≡ (p (take i s) && q (take (length s - (i + 1)) (drop (i + 1) s)))
  unfolding joins
  joins_is p q h = rw (is_cut h, cut_before h, cut_after h)
