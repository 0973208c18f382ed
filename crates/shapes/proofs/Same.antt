-- A picture of one letter, written n times, is a run of n bytes of what the letter stands for. Assumes nothing.
use mathlib.Core.Path.{◌≡◌, refl, sym}
use mathlib.Core.Bool.{Bool, true, false, ◌&&◌, and-false}
use mathlib.Core.List.{List, [], ◌∷◌}
use Prim.Native.Nat.{ℕ, zero, suc}
use lib.Dec.{leb, leb-zero, leb-suc-zero, leb-suc-suc}
use lib.ListN.{length, replicate}
use Rattle.text.specs.Class.{all}
use Rattle.shapes.specs.Picture.{is_of, fits, run}

pub fits_same : (k : ℕ) (n : ℕ) (s : List ℕ) → fits (replicate n k) s ≡ run k n n s
unfolding fits run all
fits_same k zero [] = refl
fits_same k zero (b ∷ s) = rw (leb-zero, leb-suc-zero)
fits_same k (suc n) [] = rw leb-suc-zero
fits_same k (suc n) (b ∷ s) =
    rw (leb-suc-suc n (length s), leb-suc-suc (length s) n, fits_same k n s)
    (swap (is_of k b) (leb n (length s) && leb (length s) n) (all (is_of k) s))
  where
    swap : (x y z : Bool) → (x && (y && z)) ≡ (y && (x && z))
    swap true y z = refl
    swap false y z = sym (and-false y)
