-- THE CASES of a call of `print` and of `print_counts`: its number and the buffer that it leaves are those of the document's case. Assumes nothing.
use Rattle.std.specs.Prelude.{Err, Ok, Result}
use mathlib.Core.Path.{◌≡◌, refl}
use mathlib.Core.Bool.{Bool, true, false}
use mathlib.Core.List.{List}
use Prim.Native.Nat.{ℕ, ◌+◌}
use lib.ListN.{length}
use Rattle.text.specs.Text.{has_room, spliced, written_next, written_bytes}
use Rattle.text.proofs.Logic.{true_false}
use Rattle.fields.specs.Answer.{write_answer}
use Rattle.board.specs.Board.{is_allowed}
use Rattle.printer.specs.Print.{text_in, print_of, out_after, print_number, PrintCase, BoardNotAllowed, NoRoomLeft, Fits, CountsCase, CountsNoRoom, CountsFit}
use Rattle.printer.specs.Text.{counts_text}
use Rattle.printer.specs.declared.NotPrinted.TheVariants.{NoRoom, NotAllowed}
use Rattle.printer.specs.declared.NotPrinted.{NotPrinted}
use Rattle.text.specs.declared.NotWritten.{NotWritten}

print_own : (board out : List ℕ) (at : ℕ) → PrintCase board out at (print_number (print_of board out at)) (out_after board out at)
unfolding print_of out_after
print_own board out at = go (is_allowed board) refl (has_room (text_in board) out at) refl
  where
    go : (a : Bool) → is_allowed board ≡ a → (h : Bool) → has_room (text_in board) out at ≡ h → PrintCase board out at (print_number (print_of board out at)) (out_after board out at)
    go false q h p = rw q (BoardNotAllowed q)
    go true q false p = rw (q, p) (NoRoomLeft q p)
    go true q true p = rw (q, p) (Fits q p)

-- a call that gives this is in its case
pub in_print_case : (board out : List ℕ) (at : ℕ) {r : (Result ℕ NotPrinted)} {o : List ℕ} → (r ≡ print_of board out at) × (o ≡ out_after board out at)
    → (r ≡ print_of board out at) × ((o ≡ out_after board out at) × PrintCase board out at (print_number r) o)
in_print_case board out at e = (e.0, (e.1, rw (e.0, e.1) (print_own board out at)))

-- ---- the ways of `print`

module _ (board out : List ℕ) (at : ℕ) where
  pub not_allowed : is_allowed board ≡ false → ((Err NotAllowed) ≡ print_of board out at) × (out ≡ out_after board out at)
  unfolding print_of out_after
  not_allowed q = (rw q, rw q)

  pub no_room : is_allowed board ≡ true → has_room (text_in board) out at ≡ false → ((Err NoRoom) ≡ print_of board out at) × (out ≡ out_after board out at)
  unfolding print_of out_after
  no_room q p = (rw (q, p), rw (q, p))

  pub printed : is_allowed board ≡ true → has_room (text_in board) out at ≡ true → (Ok (at + length (text_in board)) ≡ print_of board out at) × (spliced out at (text_in board) ≡ out_after board out at)
  unfolding print_of out_after
  printed q p = (rw (q, p), rw (q, p))

-- ---- no call is in two cases

pub print_one_case : {board out : List ℕ} {at n n' : ℕ} {o o' : List ℕ} → PrintCase board out at n o → PrintCase board out at n' o' → (n ≡ n') × (o ≡ o')
print_one_case (BoardNotAllowed a) (BoardNotAllowed a') = (refl, refl)
print_one_case (BoardNotAllowed a) (NoRoomLeft a' h') = true_false a' a
print_one_case (BoardNotAllowed a) (Fits a' h') = true_false a' a
print_one_case (NoRoomLeft a h) (BoardNotAllowed a') = true_false a a'
print_one_case (NoRoomLeft a h) (NoRoomLeft a' h') = (refl, refl)
print_one_case (NoRoomLeft a h) (Fits a' h') = true_false h' h
print_one_case (Fits a h) (BoardNotAllowed a') = true_false a a'
print_one_case (Fits a h) (NoRoomLeft a' h') = true_false h h'
print_one_case (Fits a h) (Fits a' h') = (refl, refl)

-- ---- `print_counts`

counts_own : (lines taken : ℕ) (out : List ℕ) (at : ℕ) → CountsCase lines taken out at (write_answer (written_next true (counts_text lines taken) out at)) (written_bytes true (counts_text lines taken) out at)
unfolding written_next written_bytes
counts_own lines taken out at = go (has_room (counts_text lines taken) out at) refl
  where
    go : (h : Bool) → has_room (counts_text lines taken) out at ≡ h
        → CountsCase lines taken out at (write_answer (written_next true (counts_text lines taken) out at)) (written_bytes true (counts_text lines taken) out at)
    go false q = rw q (CountsNoRoom q)
    go true q = rw q (CountsFit q)

pub in_counts_case : (lines taken : ℕ) (out : List ℕ) (at : ℕ) {r : (Result ℕ NotWritten)} {o : List ℕ}
    → (r ≡ written_next true (counts_text lines taken) out at) × (o ≡ written_bytes true (counts_text lines taken) out at)
    → (r ≡ written_next true (counts_text lines taken) out at) × ((o ≡ written_bytes true (counts_text lines taken) out at) × CountsCase lines taken out at (write_answer r) o)
in_counts_case lines taken out at e = (e.0, (e.1, rw (e.0, e.1) (counts_own lines taken out at)))

pub counts_one_case : {lines taken : ℕ} {out : List ℕ} {at n n' : ℕ} {o o' : List ℕ} → CountsCase lines taken out at n o → CountsCase lines taken out at n' o' → (n ≡ n') × (o ≡ o')
counts_one_case (CountsNoRoom h) (CountsNoRoom h') = (refl, refl)
counts_one_case (CountsNoRoom h) (CountsFit h') = true_false h' h
counts_one_case (CountsFit h) (CountsNoRoom h') = true_false h h'
counts_one_case (CountsFit h) (CountsFit h') = (refl, refl)
