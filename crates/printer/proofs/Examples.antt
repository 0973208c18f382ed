-- What the promises of `printer` require on inputs written out, and so wrong answers that they do not allow: of each, `Post` is the function's
-- `ensures` as it stands in the source, r any result that meets it, s the state at exit. Assumes nothing.
use Rattle.std.specs.Prelude.{Err}
use Prim.Native.Nat.{ℕ, ◌+◌}
use native.Mathlib.Omega.{arith}
use mathlib.Core.Bool.{false}
use mathlib.Core.List.{List, [], ◌∷◌, ◌++◌}
use mathlib.Core.Path.{◌≡◌, refl, ◌∙◌}
use lib.ListN.{length, replicate}
use borrow.Author.Tests.{lt-leb}
use Rattle.text.specs.Bytes.{bytes}
use Rattle.text.specs.Class.{is_digit, is_letter}
use Rattle.text.specs.Code.{code_of, byte_of}
use Rattle.text.specs.Decimal.{width_by, decimal}
use Rattle.text.specs.Number.{padded}
use Rattle.text.specs.Place.{value, places, digits}
use Rattle.text.specs.Text.{packed, text_of, spliced, has_room, written_next, written_bytes}
use Rattle.text.proofs.Logic.{true_false}
use Rattle.fields.specs.Answer.{write_answer}
use Rattle.board.specs.Board.{words_of, is_allowed}
use Rattle.board.proofs.Examples.{tracked, one_row}
use Rattle.board.proofs.Theorems.{rows_words, allowed_words}
use Rattle.printer.specs.Print.{print_of, out_after, print_number, CountsCase, CountsNoRoom, CountsFit}
use Rattle.printer.specs.RowText.{line_text, row_text, rows_text}
use Rattle.printer.specs.Text.{board_text, counts_text}
use Rattle.printer.proofs.print.Reads as print
use Rattle.printer.specs.Asks.{counted}
use Rattle.printer.specs.Parts.{part_text}
use Rattle.printer.proofs.print_counts.Reads as print-counts
use Rattle.printer.proofs.put_count.Reads as put_count
use Rattle.printer.proofs.slips.put_part.Reads as put-part
use Rattle.text.specs.declared.NotWritten.TheVariants.{NoRoom}

-- ---- `print`, of the board of one row

abbrev text : List ℕ
text = bytes "FLIGHTS 1" ++ 10 ∷ (bytes "QQX12 - - - 06081500 310 240 3015N/08430W" ++ 10 ∷ [])

its_text : board_text (tracked ∷ []) ≡ text
unfolding board_text rows_text row_text line_text text_of digits byte_of packed value code_of is_digit is_letter decimal padded places width_by
its_text = refl

-- where they just fit, the buffer holds the count of flights and the row, with a hyphen for each part of the missing entry
pub last_row_lost : (κs : _) (a : _) (r : _) (s : _) → print.Post κs a r s → a.0.now ≡ words_of (tracked ∷ []) → a.1.0.now ≡ replicate 52 0 → a.1.1.0 ≡ 0
    → s.1.0.now ≡ text
unfolding out_after has_room spliced
last_row_lost κs a r s p e f g = p.1.0 ∙ rw (e, f, g, allowed_words (tracked ∷ []) one_row, rows_words (tracked ∷ []) one_row, its_text)

-- with one byte less they do not: 15, and nothing is written
pub room_without_the_last_row : (κs : _) (a : _) (r : _) (s : _) → print.Post κs a r s → a.0.now ≡ words_of (tracked ∷ []) → a.1.0.now ≡ replicate 51 0 → a.1.1.0 ≡ 0
    → (print_number r ≡ 15) × (s.1.0.now ≡ replicate 51 0)
unfolding print_of out_after has_room
room_without_the_last_row κs a r s p e f g =
    let b = allowed_words (tracked ∷ []) one_row in
    let z = rows_words (tracked ∷ []) one_row in
    (rw (p.0, e, f, g, b, z, its_text), p.1.0 ∙ rw (e, f, g, b, z, its_text))

-- of words that are no board and have no room 13 is answered
pub numbers_13_and_15 : (κs : _) (a : _) (r : _) (s : _) → print.Post κs a r s → is_allowed a.0.now ≡ false → a.1.0.now ≡ [] → print_number r ≡ 13
unfolding print_of
numbers_13_and_15 κs a r s p b f = rw (p.0, b)

-- ---- `print_counts`

-- the lines first, then those taken
pub counts_exchanged : (κs : _) (a : _) (r : _) (s : _) → print-counts.Post κs a r s → a.0 ≡ 5 → a.1.0 ≡ 4 → a.1.1.0.now ≡ replicate 18 0 → a.1.1.1.0 ≡ 1
    → s.1.1.0.now ≡ 0 ∷ (bytes "LINES 5 TAKEN 4" ++ 10 ∷ 0 ∷ [])
unfolding written_bytes has_room spliced counts_text line_text byte_of decimal padded places width_by
counts_exchanged κs a r s p e f g h = p.1.0 ∙ rw (e, f, g, h)

-- the line feed needs room too: without it nothing is written
pub no_room_for_the_line_feed : (κs : _) (a : _) (r : _) (s : _) → print-counts.Post κs a r s → a.0 ≡ 5 → a.1.0 ≡ 4 → a.1.1.0.now ≡ replicate 15 0 → a.1.1.1.0 ≡ 0
    → (r ≡ Err NoRoom) × (s.1.1.0.now ≡ replicate 15 0)
unfolding written_next written_bytes has_room counts_text line_text byte_of decimal padded places width_by
no_room_for_the_line_feed κs a r s p e f g h = (p.0 ∙ rw (e, f, g, h), p.1.0 ∙ rw (e, f, g, h))

-- what the case of a call says: 15 and the buffer as it was where the line has no room, else 0
counts_case : {lines taken : ℕ} {out : List ℕ} {at n : ℕ} {o : List ℕ} → CountsCase lines taken out at n o → has_room (counts_text lines taken) out at ≡ false → (n ≡ 15) × (o ≡ out)
counts_case (CountsNoRoom h) e = (refl, refl)
counts_case (CountsFit h) e = true_false h e

-- past the buffer's end there is no room for any counts: 15, and not 0
pub counts_past_the_end : (κs : _) (a : _) (r : _) (s : _) → print-counts.Post κs a r s → a.1.1.0.now ≡ [] → a.1.1.1.0 ≡ 1 → (write_answer r ≡ 15) × (s.1.1.0.now ≡ [])
unfolding has_room
counts_past_the_end κs a r s p f g = let q = counts_case p.1.1 (rw (f, g) (lt-leb (1 + length (counts_text a.0 a.1.0)) 0 (omega arith))) in (q.0, q.1 ∙ f)

-- ---- `put_count` and `slips::put_part`

pub count_without_its_name : (κs : _) (a : _) (r : _) (s : _) → put_count.Post κs a r s → a.0.now ≡ bytes "LINES " → a.1.0 ≡ 5 → a.1.1.1.1.0 ≡ 0 → r ≡ 8
unfolding counted decimal padded places width_by byte_of
count_without_its_name κs a r s p e f g = p.0 ∙ rw (e, f, g)

pub count_without_its_end : (κs : _) (a : _) (r : _) (s : _) → put_count.Post κs a r s → a.0.now ≡ [] → a.1.0 ≡ 12 → a.1.1.0 ≡ 32 → a.1.1.1.0.now ≡ replicate 5 0
    → a.1.1.1.1.0 ≡ 1 → s.1.1.1.0.now ≡ 0 ∷ (bytes "12 " ++ 0 ∷ [])
unfolding counted spliced decimal padded places width_by byte_of
count_without_its_end κs a r s p e f g h k = p.1 ∙ rw (e, f, g, h, k)

pub none_is_no_hyphen : (κs : _) (a : _) (r : _) (s : _) → put-part.Post κs a r s → a.0 ≡ 0 → a.1.0 ≡ 10 → a.1.1.0.now ≡ replicate 3 7 → a.1.1.1.0 ≡ 0
    → s.1.1.0.now ≡ bytes "-" ++ 10 ∷ (7 ∷ [])
unfolding part_text spliced
none_is_no_hyphen κs a r s p e f g h = p.1 ∙ rw (e, f, g, h)

pub part_next_is_its_end : (κs : _) (a : _) (r : _) (s : _) → put-part.Post κs a r s → a.0 ≡ 0 → a.1.1.1.0 ≡ 3 → r ≡ 5
unfolding part_text
part_next_is_its_end κs a r s p e f = p.0 ∙ rw (e, f)
