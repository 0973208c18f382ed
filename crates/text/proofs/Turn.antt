-- One turn of a loop over the 12 places, from the highest: i places are passed, w is the weight of the last of them,
-- and w / 38 the weight of the next. Assumes nothing.
use mathlib.Core.Path.{◌≡◌, refl, ◌∙◌}
use mathlib.Core.Bool.{Bool, true, false, ◌&&◌}
use mathlib.Core.List.{List, ◌∷◌, map}
use Prim.Native.Nat.{ℕ, suc, ◌+◌, ◌-◌, ◌*◌, ◌/◌, ◌%◌, ◌^◌, ◌<◌}
use native.Mathlib.Nat.{one-le-pow, pow-succ'}
use native.Mathlib.Numerals.{add-one}
use native.Mathlib.Omega.{arith}
use lib.Dec.{leb, ltb, lit≤}
use lib.ListN.{length, get_or, drop}
use lib.Seq.{drop-cons}
use borrow.Author.Tests.{ltb-true, ltb-false}
use Rattle.text.specs.Code.{code_of}
use Rattle.text.specs.Place.{value, digits, tight}
use Rattle.text.proofs.Places.{value_suc, digits_suc, tight_suc}

-- something is left, so a place is left
pub place_left : (j r w : ℕ) → 0 < r → r < w → w ≡ 38 ^ (12 - j) → j < 12
place_left j r w h k e = go (ltb j 12) refl
  where
    go : (t : Bool) → ltb j 12 ≡ t → j < 12
    go true q = ltb-true j 12 q
    go false q =
        let z : 12 - j ≡ 0 = omega (arith, ltb-false j 12 q) in
        let o : w ≡ 38 ^ 0 = rw z at e in
        omega arith

module _ (w i : ℕ) (less : i < 12) (hw : w ≡ 38 ^ (12 - i)) where
  down : 12 - i ≡ suc (12 - (i + 1))
  down = omega arith

  whole : w ≡ 38 * 38 ^ (12 - (i + 1))
  whole = hw ∙ rw (down, pow-succ')

  pub next_weight : w / 38 ≡ 38 ^ (12 - (i + 1))
  next_weight = omega (arith, whole)

  pub times : w ≡ 38 * (w / 38)
  times = omega (arith, whole)

  pub weighs : 0 < w / 38
  weighs = omega (arith, next_weight, one-le-pow (12 - (i + 1)) 38 (lit≤ tt))

  pub value_turn : (d : ℕ) (ds : List ℕ) → value 38 (12 - i) (d ∷ ds) ≡ d * (w / 38) + value 38 (12 - (i + 1)) ds
  value_turn d ds = rw (down, value_suc, next_weight)

  pub digits_turn : (r : ℕ) → 0 < r → digits 38 (12 - i) r ≡ r / (w / 38) ∷ digits 38 (12 - (i + 1)) (r % (w / 38))
  digits_turn r h = rw (down, digits_suc, next_weight)

  pub tight_turn : (r : ℕ) → 0 < r → tight 38 (12 - i) r ≡ (leb (w / 38) r && tight 38 (12 - (i + 1)) (r % (w / 38)))
  tight_turn r h = rw (down, tight_suc, next_weight)

-- the codes from index i on
pub codes_turn : (s : List ℕ) (i : ℕ) → i < length s → map code_of (drop i s) ≡ code_of (get_or s i 0) ∷ map code_of (drop (i + 1) s)
codes_turn s i h = rw (add-one, drop-cons s i 0)
