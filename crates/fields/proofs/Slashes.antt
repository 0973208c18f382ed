-- Which kinds have no slash in their texts, so that a text cut at its first slash is cut rightly. Assumes nothing.
use Prim.Native.Char.{code}
use Prim.Native.Nat.{ℕ, ◌≤◌}
use mathlib.Core.Bool.{true, false, ◌||◌}
use mathlib.Core.List.{List}
use mathlib.Core.Path.{◌≡◌, refl}
use native.Mathlib.Omega.{arith}
use lib.ListN.{length}
use Rattle.text.specs.Bytes.{bytes}
use Rattle.text.specs.Class.{is_digit, is_letter, is_alnum, all}
use Rattle.text.proofs.Logic.{true_false, not_fails, either_of}
use Rattle.shapes.specs.Cut.{up_to}
use Rattle.shapes.specs.Picture.{is_of, run, fits, fits_any, one_of}
use Rattle.shapes.specs.Pieces.{pieces}
use Rattle.shapes.proofs.Joins.{has_no, fits_no}
use Rattle.shapes.proofs.Laws.{fits_length, run_class, run_most}
use Rattle.rules.specs.Form.{is_key}
use Rattle.rules.specs.Kind.{KEY, NUMBER, is_form, PREFIX, MODEL, LETTER}
use Rattle.fields.specs.Pair.{slash, pair_text, is_pair}
use Rattle.fields.proofs.PairLaws.{pair_short}

-- a key is a run of alnums, whatever else it is
key_run : (s : List ℕ) → is_form KEY s ≡ true → run (code "a") 2 7 s ≡ true
unfolding is_form is_key
key_run s e = not_fails _ (λ q. true_false (rw q at e) refl)

pub key_slashless : (s : List ℕ) → is_form KEY s ≡ true → up_to slash s ≡ length s
unfolding is_of is_alnum is_digit is_letter
key_slashless s e = has_no slash (is_of (code "a")) refl s (run_class (code "a") 2 7 s (key_run s e))

-- ---- lengths

key_short : (s : List ℕ) → is_form KEY s ≡ true → length s ≤ 7
key_short s e = run_most (code "a") 2 7 s (key_run s e)

number_short : (s : List ℕ) → is_form NUMBER s ≡ true → length s ≤ 3
unfolding is_form
number_short s e = omega (arith, fits_length (bytes "dda") s e)

pub ident_short : (a b : ℕ) → is_pair KEY NUMBER a b ≡ true → length (pair_text a b) ≤ 11
ident_short = pair_short KEY NUMBER 7 3 key_short number_short

pub model_slashless : (s : List ℕ) → is_form MODEL s ≡ true → up_to slash s ≡ length s
unfolding is_form is_of is_alnum is_digit is_letter
model_slashless s e = has_no slash (is_of (code "a")) refl s (run_class (code "a") 2 4 s e)

pub prefix_slashless : (s : List ℕ) → is_form PREFIX s ≡ true → up_to slash s ≡ length s
unfolding is_form one_of pieces fits_any all is_of is_alnum is_digit is_letter
prefix_slashless s =
    either_of (fits (bytes "a") s) (fits (bytes "da") s || false) (fits_no slash (bytes "a") s refl)
    (either_of (fits (bytes "da") s) false (fits_no slash (bytes "da") s refl) (λ e. true_false e refl))

-- ---- lengths

model_short : (s : List ℕ) → is_form MODEL s ≡ true → length s ≤ 4
unfolding is_form
model_short s e = run_most (code "a") 2 4 s e

letter_short : (s : List ℕ) → is_form LETTER s ≡ true → length s ≤ 1
unfolding is_form
letter_short s e = omega (arith, fits_length (bytes "l") s e)

pub prefix_short : (s : List ℕ) → is_form PREFIX s ≡ true → length s ≤ 2
unfolding is_form one_of pieces fits_any
prefix_short s =
    either_of (fits (bytes "a") s) (fits (bytes "da") s || false) (λ e. omega (arith, fits_length (bytes "a") s e))
    (either_of (fits (bytes "da") s) false (λ e. omega (arith, fits_length (bytes "da") s e)) (λ e. true_false e refl))

pub tail_short : (a b : ℕ) → is_pair MODEL LETTER a b ≡ true → length (pair_text a b) ≤ 6
tail_short = pair_short MODEL LETTER 4 1 model_short letter_short
