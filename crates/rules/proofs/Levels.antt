-- LEVELS: a text has the form of a level exactly if it is one number of 2 or 3 digits, or two with B between them of which the second is no
-- smaller. What is used of the digits is the one law over their width (`shapes/proofs/Digits`). Assumes nothing.
use Rattle.std.specs.Prelude.{None, Option, Some}
use mathlib.Core.Path.{◌≡◌, refl, sym, ap, ◌∙◌}
use mathlib.Core.Bool.{true, false, cond, ◌&&◌}
use mathlib.Core.List.{List}
use Prim.Native.Char.{code}
use Prim.Native.Nat.{ℕ, ◌+◌, ◌-◌, ◌≤◌, ◌<◌}
use native.Mathlib.Omega.{arith}
use lib.Dec.{leb, lit≤}
use lib.ListN.{length, take, drop}
use borrow.Author.Tests.{le-leb, lt-leb, leb-true}
use Rattle.text.specs.Class.{is_digit}
use Rattle.text.specs.Number.{number_of, is_numeral, read_number}
use Rattle.text.proofs.Logic.{and_left, and_right, not_holds, true_false, either_of}
use Rattle.text.proofs.Numbers.{told_known, told_none, number_padded}
use Rattle.shapes.specs.Picture.{is_of}
use Rattle.shapes.specs.Cut.{up_to, has, before, after, joins}
use Rattle.shapes.proofs.Laws.{run_least, run_most, run_class, joins_not, joins_is, cut_before, cut_after}
use Rattle.shapes.proofs.Digits.{digits_run, padded_numeral, numeral_lt, numeral_digits}
use Rattle.shapes.proofs.Joins.{has_no, joins_parts, joined_has, joined_before, joined_after, whole_has}
use Rattle.rules.specs.Form.{is_height, is_block, is_level}
use Rattle.rules.specs.Level.{Digits, Block, Level, One, Two, Falls, Down}

-- ---- what `height` tells

abbrev height_of : List ℕ → Option ℕ
height_of s = cond (is_height s) (Some (number_of 10 s)) None

height_numeral : (s : List ℕ) → is_height s ≡ true → is_numeral 10 s ≡ true
height_numeral s e = sym (digits_run 2 3 s (lit≤ tt) (run_least (code "d") 2 3 s e) (run_most (code "d") 2 3 s e)) ∙ e

pub height_told : (s : List ℕ) → is_height s ≡ true → read_number 10 s ≡ height_of s
unfolding read_number
height_told s e = rw (height_numeral s e, e)

-- ---- the ways of `is_block`: B is found at i

module _ (s : List ℕ) (i : ℕ) (at : i ≡ up_to (code "B") s) where
  pub block_uncut : length s ≤ i → false ≡ is_block s
  unfolding is_block
  block_uncut h = rw (joins_not (code "B") s i at is_height is_height h)

  module _ (h : i < length s) where
    abbrev first : List ℕ
    first = take i s

    abbrev second : List ℕ
    second = take (length s - (i + 1)) (drop (i + 1) s)

    cut : is_block s ≡ ((is_height first && is_height second) && leb (number_of 10 first) (number_of 10 second))
    unfolding is_block
    cut = rw (joins_is (code "B") s i at is_height is_height h, cut_before (code "B") s i at h, cut_after (code "B") s i at h)

    pub block_first : height_of first ≡ None → false ≡ is_block s
    block_first e = rw (cut, told_none (is_height first) (number_of 10 first) e)

    module _ (n : ℕ) (told : height_of first ≡ Some n) where
      pub block_second : height_of second ≡ None → false ≡ is_block s
      block_second e = rw (cut, (told_known (is_height first) (number_of 10 first) told).0, told_none (is_height second) (number_of 10 second) e)

      pub block_told : (m : ℕ) → height_of second ≡ Some m → leb n m ≡ is_block s
      block_told m e =
          let a = told_known (is_height first) (number_of 10 first) told in
          let b = told_known (is_height second) (number_of 10 second) e in
          rw (cut, a.0, b.0, a.1, b.1)

-- ---- the rule by its numbers

-- digits are the number that they are
height_digits : (s : List ℕ) → is_height s ≡ true → Digits (number_of 10 s) s
height_digits s e =
    let d = height_numeral s e in
    record { least = run_least (code "d") 2 3 s e; most = run_most (code "d") 2 3 s e; small = numeral_lt s d; text = sym (numeral_digits s d) }

-- and have no B
height_uncut : (s : List ℕ) → is_height s ≡ true → up_to (code "B") s ≡ length s
unfolding is_of is_digit
height_uncut s e = has_no (code "B") (is_of (code "d")) refl s (run_class (code "d") 2 3 s e)

module _ (n : ℕ) (s : List ℕ) (d : Digits n s) where
  digits_numeral : is_numeral 10 s ≡ true
  digits_numeral = ap (is_numeral 10) d.text ∙ padded_numeral (length s) n (omega (arith, d.most)) d.small

  digits_height : is_height s ≡ true
  digits_height = digits_run 2 3 s (lit≤ tt) d.least d.most ∙ digits_numeral

  digits_number : number_of 10 s ≡ n
  digits_number = ap (number_of 10) d.text ∙ number_padded 9 (lit≤ tt) (length s) n d.small

  pub digits_read : read_number 10 s ≡ Some n
  unfolding read_number
  digits_read = rw (digits_numeral, digits_number)

  pub digits_uncut : has (code "B") s ≡ false
  digits_uncut = whole_has (code "B") s (height_uncut s digits_height)

-- a block is cut at its B into its two numbers
pub block_cut : (n m : ℕ) (s : List ℕ) (b : Block n m s) → (has (code "B") s ≡ true) × (before (code "B") s ≡ b.first) × (after (code "B") s ≡ b.second)
block_cut n m s b =
    let none = height_uncut b.first (digits_height n b.first b.first_is) in
    rw b.text (joined_has (code "B") b.first b.second none, joined_before (code "B") b.first b.second none, joined_after (code "B") b.first b.second none)

-- and is a level exactly if the second is no smaller than the first
pub block_exactly : (n m : ℕ) (s : List ℕ) → Block n m s → is_level s ≡ leb n m
unfolding is_level is_block joins
block_exactly n m s b =
    let c = block_cut n m s b in
    rw (
      not_holds (is_height s) (λ e. true_false c.0 (whole_has (code "B") s (height_uncut s e))),
      c.0,
      c.1,
      c.2,
      digits_height n b.first b.first_is,
      digits_height m b.second b.second_is,
      digits_number n b.first b.first_is,
      digits_number m b.second b.second_is,
    )

-- so one that falls is none
pub falls_none : (s : List ℕ) → Falls s → is_level s ≡ false
falls_none s (Down n m b h) = block_exactly n m s b ∙ lt-leb n m h

-- what is cut at its B is a block of the numbers on both sides
block_parts : (s : List ℕ) → joins (code "B") is_height is_height s ≡ true → Block (number_of 10 (before (code "B") s)) (number_of 10 (after (code "B") s)) s
block_parts s e =
    let j = joins_parts (code "B") is_height is_height s e in
    record { first = before (code "B") s; second = after (code "B") s; first_is = height_digits (before (code "B") s) j.1; second_is = height_digits (after (code "B") s) j.2; text = sym j.0 }

-- THE LAW: a text has the form of a level exactly if it is one number of 2 or 3 digits, or two that do not fall
pub level_exactly : (s : List ℕ) → (is_level s ≡ true → Level s) × (Level s → is_level s ≡ true)
unfolding is_level is_block
level_exactly s = (is_level_lem, level_is)
  where
    is_block_lem : is_block s ≡ true → Level s
    is_block_lem e =
        let j = joins (code "B") is_height is_height s in
        let c = leb (number_of 10 (before (code "B") s)) (number_of 10 (after (code "B") s)) in
        Two _ _ (block_parts s (and_left j c e)) (leb-true _ _ (and_right j c e))

    is_level_lem : is_level s ≡ true → Level s
    is_level_lem = either_of (is_height s) (is_block s) (λ e. One _ (height_digits s e)) is_block_lem

    level_is : Level s → is_level s ≡ true
    level_is (One n d) = rw (digits_height n s d)
    level_is (Two n m b h) = block_exactly n m s b ∙ le-leb n m h

-- so no level falls
pub never_falls : (s : List ℕ) → Level s → Falls s → ⊥
never_falls s l f = true_false ((level_exactly s).1 l) (falls_none s f)
