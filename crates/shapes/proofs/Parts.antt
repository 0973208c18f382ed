-- A picture taken apart, and two runs put together. Assumes nothing.
use mathlib.Core.Path.{◌≡◌, refl, ap, ◌∙◌}
use mathlib.Core.Bool.{Bool, true, false, ◌&&◌, ◌||◌, and_assoc, and-true, or_assoc, or-false}
use mathlib.Core.List.{List, [], ◌∷◌, ◌++◌}
use Prim.Native.Nat.{ℕ, suc, ◌+◌, ◌≤◌, ◌<◌}
use native.Mathlib.Omega.{arith}
use lib.Dec.{leb}
use lib.ListN.{length, take, drop, get_or, replicate, length-replicate, drop_of_length-le}
use lib.Seq.{drop-cons}
use borrow.Author.Tests.{le-leb, lt-leb, leb-true, leb-false}
use Rattle.shapes.specs.Picture.{is_of, fits, fits_any, run}
use Rattle.shapes.proofs.Same.{fits_same}

-- a picture of two parts: the first fits as many bytes as it has, and the second what is left
pub fits_parts : (p q s : List ℕ) → fits (p ++ q) s ≡ (fits p (take (length p) s) && fits q (drop (length p) s))
unfolding fits
fits_parts [] q s = refl
fits_parts (k ∷ p) q [] = refl
fits_parts (k ∷ p) q (b ∷ s) = rw (fits_parts p q s, and_assoc)

-- n times the letter k and then the letter m
module _ (k n m : ℕ) (s : List ℕ) (e : length s ≡ suc n) where
  last : drop n s ≡ get_or s n 0 ∷ []
  last = drop-cons s n 0 (omega arith) ∙ ap (λ (l : List ℕ). get_or s n 0 ∷ l) (drop_of_length-le s {i = suc n} (omega arith))

  pub fits_then : fits (replicate n k ++ m ∷ []) s ≡ (run k n n (take n s) && is_of m (get_or s n 0))
  unfolding fits
  fits_then = fits_parts (replicate n k) (m ∷ []) s ∙ rw (length-replicate n k, fits_same k n (take n s), last, and-true)

-- a run of a to b bytes or of more, up to c, is a run of a to c
pub run_joined : (k a b c : ℕ) (s : List ℕ) → a ≤ b + 1 → b ≤ c → (run k a b s || run k (b + 1) c s) ≡ run k a c s
unfolding run
run_joined k a b c s h i = go (leb (length s) b) refl
  where
    go : (t : Bool) → leb (length s) b ≡ t → (run k a b s || run k (b + 1) c s) ≡ run k a c s
    go true q =
        let l : length s ≤ b = leb-true (length s) b q in
        rw (q, lt-leb (b + 1) (length s) (omega arith), le-leb (length s) c (omega arith)) (or-false _)
    go false q =
        let l : b < length s = leb-false (length s) b q in
        rw (q, le-leb a (length s) (omega arith), le-leb (b + 1) (length s) (omega arith))

-- of pictures of one letter, each a letter longer than the one before it: the first is a run, and the next makes it longer
module _ (k : ℕ) (ps : List (List ℕ)) (s : List ℕ) where
  pub any_run : (n : ℕ) → fits_any (replicate n k ∷ ps) s ≡ (run k n n s || fits_any ps s)
  unfolding fits_any
  any_run n = rw (fits_same k n s)

  pub any_longer : (a b : ℕ) → a ≤ b + 1 → (run k a b s || fits_any (replicate (b + 1) k ∷ ps) s) ≡ (run k a (b + 1) s || fits_any ps s)
  any_longer a b h =
      let whole = run_joined k a b (b + 1) s h (omega arith) in
      rw (any_run (b + 1), ← (or_assoc (run k a b s) (run k (b + 1) (b + 1) s) (fits_any ps s)), whole)
