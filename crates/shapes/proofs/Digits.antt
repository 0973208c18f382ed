-- Pictures of digits and limits, said of numbers: digits fit exactly if they are a number, and a part of them lies within limits exactly
-- if its number, found in the number of all, does. Assumes nothing.
use mathlib.Core.Path.{◌≡◌, ◌∙◌}
use mathlib.Core.Bool.{true, ◌&&◌}
use mathlib.Core.List.{List}
use Prim.Native.Char.{code}
use Prim.Native.Nat.{ℕ, ◌+◌, ◌/◌, ◌%◌, ◌^◌, ◌≤◌, ◌<◌}
use native.Mathlib.Omega.{arith}
use lib.Dec.{leb, lit≤}
use lib.ListN.{length, replicate, drop, length-drop}
use lib.Seq.{length-take-le}
use borrow.Author.Tests.{le-leb, leb-true}
use Rattle.text.specs.Class.{all}
use Rattle.text.specs.Number.{is_digit_to, number_of, padded, is_numeral}
use Rattle.text.proofs.Logic.{and_left, and_right}
use Rattle.text.proofs.Codes.{digits_same}
use Rattle.text.proofs.Numbers.{number_lt, padded_number, length-padded, padded_digits}
use Rattle.text.proofs.Parts.{part_digits, number_part}
use Rattle.shapes.specs.Picture.{is_of, fits, run, within, part}
use Rattle.shapes.proofs.Same.{fits_same}

-- of any width: as many digits as are asked for are a number
pub digits_run : (least most : ℕ) (s : List ℕ) → most ≤ 12 → least ≤ length s → length s ≤ most → run (code "d") least most s ≡ is_numeral 10 s
unfolding run is_of is_numeral
digits_run least most s few l m = rw (le-leb least (length s) l, le-leb (length s) most m, le-leb (length s) 12 (omega arith)) (digits_same s)

pub digits_fit : (n : ℕ) (s : List ℕ) → n ≤ 12 → length s ≡ n → fits (replicate n (code "d")) s ≡ is_numeral 10 s
digits_fit n s few long = fits_same (code "d") n s ∙ digits_run n n s few (omega arith) (omega arith)

-- the digits of a number are a number
pub padded_numeral : (w n : ℕ) → w ≤ 12 → n < 10 ^ w → is_numeral 10 (padded 10 w n) ≡ true
unfolding is_numeral
padded_numeral w n few small = rw (length-padded, le-leb w 12 few, padded_digits 9 (lit≤ tt) w n small)

module _ (s : List ℕ) (e : is_numeral 10 s ≡ true) where
  every : all (is_digit_to 10) s ≡ true
  unfolding is_numeral
  every = and_right (leb (length s) 12) (all (is_digit_to 10) s) e

  short : length s ≤ 12
  unfolding is_numeral
  short = leb-true (length s) 12 (and_left (leb (length s) 12) (all (is_digit_to 10) s) e)

  pub numeral_lt : number_of 10 s < 10 ^ length s
  numeral_lt = number_lt 9 s every

  pub numeral_digits : padded 10 (length s) (number_of 10 s) ≡ s
  numeral_digits = padded_number 9 s every

  -- k digits from index i, with w digits after them
  module _ (i k w : ℕ) (long : length s ≡ i + k + w) where
    part_numeral : is_numeral 10 (part i k s) ≡ true
    unfolding is_numeral
    part_numeral =
        let l : length (part i k s) ≡ k = length-take-le k (drop i s) (omega (arith, length-drop i s)) in
        rw (le-leb (length (part i k s)) 12 (omega (arith, short, l)), part_digits 9 i k w s long every)

    pub within_part : (lo hi : ℕ) → within lo hi (part i k s) ≡ (leb lo (number_of 10 s / 10 ^ w % 10 ^ k) && leb (number_of 10 s / 10 ^ w % 10 ^ k) hi)
    unfolding within
    within_part lo hi = rw (part_numeral, number_part 9 i k w s long every)
