-- Digits whose last two are minutes, said of their number: a clock, and the two halves of a position. Assumes nothing.
use Rattle.std.specs.Prelude.{None, Some, Option, MatchOption}
use mathlib.Core.Path.{◌≡◌, refl, sym, ◌∙◌}
use mathlib.Core.Bool.{Bool, true, false, ◌&&◌, and_assoc, and_comm, and-true}
use mathlib.Core.List.{List}
use Prim.Native.Char.{code}
use Prim.Native.Nat.{ℕ, ◌+◌, ◌%◌, ◌≤◌}
use native.Mathlib.Nat.{div-one}
use native.Mathlib.Omega.{arith}
use lib.Dec.{leb, eqb, leb-zero, lit≤}
use borrow.Author.Tests.{eqb-true, eqb-false}
use lib.ListN.{length, drop, get_or, replicate, drop_of_length-le, length-drop}
use lib.Seq.{drop-drop, length-take-le}
use Rattle.text.specs.Bytes.{bytes}
use Rattle.text.specs.Number.{is_numeral, number_of, read_number}
use Rattle.text.proofs.Logic.{and_left_comm}
use Rattle.text.proofs.Numbers.{number_known, number_none}
use Rattle.shapes.specs.Picture.{is_of, fits, within, part}
use Rattle.shapes.proofs.Laws.{next_byte, part_part, fits_apart}
use Rattle.shapes.proofs.Parts.{fits_parts}
use Rattle.shapes.proofs.Digits.{digits_fit, within_part}
use Rattle.rules.specs.Form.{is_position}

-- at most `most`, minutes to 59
abbrev pub with_minutes : ℕ → List ℕ → Bool
with_minutes most s = within 0 most s && leb (number_of 10 s % 100) 59

module _ (most : ℕ) (s : List ℕ) where
  told_minutes : {n : ℕ} → read_number 10 s ≡ Some n → (leb n most && leb (n % 100) 59) ≡ with_minutes most s
  unfolding within
  told_minutes e = let k = number_known 10 s e in rw (k.0, k.1, leb-zero)

  no_numeral : is_numeral 10 s ≡ false → false ≡ with_minutes most s
  unfolding within
  no_numeral e = rw e

  -- what is said of a number that may not be there
  pub minutes_told : (r : Bool) (P : ℕ → Type 0) (q : Option ℕ) → q ≡ read_number 10 s → MatchOption q (r ≡ false) P
      → ((n : ℕ) → P n → r ≡ (leb n most && leb (n % 100) 59)) → r ≡ with_minutes most s
  minutes_told r P (Some n) e p f = f n p ∙ told_minutes (sym e)
  minutes_told r P None e p f = p ∙ no_numeral (number_none 10 s (sym e))

  -- the same said of the digits, as document 01 says it
  pub minutes_are : (i : ℕ) → i ≤ 10 → length s ≡ i + 2 → (fits (replicate (i + 2) (code "d")) s && within 0 most s && within 0 59 (part i 2 s)) ≡ with_minutes most s
  minutes_are i few long = rw (digits_fit (i + 2) s (omega arith) long) (go (is_numeral 10 s) refl)
    where
      go : (b : Bool) → is_numeral 10 s ≡ b → (is_numeral 10 s && within 0 most s && within 0 59 (part i 2 s)) ≡ with_minutes most s
      go true q = rw (q, within_part s q i 2 0 (omega arith) 0 59, leb-zero, div-one)
      go false q = rw q (no_numeral q)

-- ---- a position

module _ (s : List ℕ) (long : length s ≡ 12) where
  drawn : fits (bytes "ddddn/ddddde") s ≡ (fits (bytes "dddd") (part 0 4 s) && (is_of (code "n") (get_or s 4 0) && (eqb (get_or s 5 0) (code "/") && (fits (bytes "ddddd") (part 6 5 s) && is_of (code "e") (get_or s 11 0)))))
  unfolding fits is_of
  drawn =
      rw (fits_parts (bytes "dddd") (bytes "n/ddddde") s, next_byte s 4 (omega arith), next_byte s 5 (omega arith), fits_parts (bytes "ddddd") (bytes "e") (drop 6 s), drop-drop, next_byte s 11 (omega arith), drop_of_length-le s {i = 12} (omega arith), and-true)

  north : (fits (bytes "dddd") (part 0 4 s) && within 0 9000 (part 0 4 s) && within 0 59 (part 2 2 s)) ≡ with_minutes 9000 (part 0 4 s)
  north = rw (part_part 0 4 2 2 s (lit≤ tt)) at (minutes_are 9000 (part 0 4 s) 2 (lit≤ tt) (length-take-le 4 s (omega arith)))

  east : (fits (bytes "ddddd") (part 6 5 s) && within 0 18000 (part 6 5 s) && within 0 59 (part 9 2 s)) ≡ with_minutes 18000 (part 6 5 s)
  east = rw (part_part 6 5 3 2 s (lit≤ tt)) at (minutes_are 18000 (part 6 5 s) 3 (lit≤ tt) (length-take-le 5 (drop 6 s) (omega (arith, length-drop 6 s))))

  pub position_is : is_position s ≡ (is_of (code "n") (get_or s 4 0) && eqb (get_or s 5 0) (code "/") && is_of (code "e") (get_or s 11 0) && with_minutes 9000 (part 0 4 s) && with_minutes 18000 (part 6 5 s))
  unfolding is_position
  position_is = rw (drawn, ← north, ← east) (simp (and_assoc, and_comm, and_left_comm))

-- the same with the test of the length, in the order of the tests
pub position_tests : (s : List ℕ) → ((((eqb (length s) 12 && is_of (code "n") (get_or s 4 0)) && eqb (get_or s 5 0) (code "/")) && is_of (code "e") (get_or s 11 0)) && with_minutes 9000 (part 0 4 s) && with_minutes 18000 (part 6 5 s)) ≡ is_position s
unfolding is_position
position_tests s = go (eqb (length s) 12) refl
  where
    go : (b : Bool) → eqb (length s) 12 ≡ b → ((((eqb (length s) 12 && is_of (code "n") (get_or s 4 0)) && eqb (get_or s 5 0) (code "/")) && is_of (code "e") (get_or s 11 0)) && with_minutes 9000 (part 0 4 s) && with_minutes 18000 (part 6 5 s)) ≡ is_position s
    go true q = rw (q, position_is s (eqb-true _ _ q)) (simp and_assoc)
    go false q = rw (q, fits_apart (bytes "ddddn/ddddde") s (λ e. eqb-false _ _ q (sym e)))
