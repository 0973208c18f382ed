-- What the promises of `board` require on inputs written out, and so wrong answers that they do not allow: of each, `Post` is the function's
-- `ensures` as it stands in the source, r any result that meets it, s the state at exit. Assumes nothing.
use Rattle.std.specs.Prelude.{Err, None, Ok, Some}
use Prim.Native.Nat.{ℕ, ◌≤◌}
use Prim.Native.String.{String}
use mathlib.Core.Bool.{true, false}
use mathlib.Core.List.{List, [], ◌∷◌}
use mathlib.Core.Path.{◌≡◌, refl, ap, ◌∙◌}
use native.Mathlib.Omega.{arith}
use lib.ListN.{length, replicate}
use borrow.Author.Tests.{le-ltb}
use Rattle.text.specs.Bytes.{bytes}
use Rattle.text.specs.Class.{all, is_digit, is_letter, is_alnum}
use Rattle.text.specs.Code.{code_of, byte_of}
use Rattle.text.specs.Number.{is_digit_to, digit_of, is_numeral, number_of}
use Rattle.text.specs.Place.{value, digits, tight}
use Rattle.text.specs.Text.{packed, text_of, is_packed}
use Rattle.text.proofs.Logic.{not_holds, true_false}
use Rattle.shapes.specs.Picture.{is_of, fits, fits_any, one_of, run, within}
use Rattle.shapes.specs.Pieces.{pieces}
use Rattle.rules.specs.Form.{is_stamp, is_key, is_position}
use Rattle.rules.specs.Kind.{is_form}
use Rattle.fields.specs.Word.{is_word}
use Rattle.board.specs.Board.{flat, read_rows, rows_of, words_of, is_allowed, done_of, done_number, struck_number}
use Rattle.board.specs.Row.{is_row, is_arrival, is_track, has_entry, row_words, arrival_words, track_words, row_of}
use Rattle.board.specs.Rows.{CAP, is_board, rises_by_bytes, all_rows, rises, key_of, look_row, Place, At, Gap, fits_at, find_in, fits as listing-fits, written, struck, is_listed}
use Rattle.board.specs.declared.rows.Row.{Row}
use Rattle.board.specs.declared.rows.Track.{Track}
use Rattle.board.proofs.Allowed.{cap_is, parts}
use Rattle.board.proofs.Theorems.{rows_words, empty_board}
use Rattle.board.proofs.empty.Reads as empty
use Rattle.board.proofs.is_allowed.Reads as is-allowed
use Rattle.board.proofs.listing.look.Reads as look
use Rattle.board.proofs.listing.strike.Reads as strike
use Rattle.board.proofs.listing.write.Reads as write

-- 257 rows are too many, whatever they are
pub allows_257_rows : (κs : _) (a : _) (r : _) (s : _) → is-allowed.Post κs a r s → (ws : List ℕ) → a.0.now ≡ 257 ∷ ws → r ≡ false
allows_257_rows κs a r s p ws e = p ∙ ap is_allowed e ∙ not_holds (is_allowed (257 ∷ ws)) (λ t. let h : 257 ≤ CAP = (parts (257 ∷ ws) t).count in omega (arith, cap_is))

-- two rows of one flight are no board
abbrev flight : ℕ → Track → Row
flight k t = record { key = record { 0 = k }; arrival = None; track = Some t }

pub equal_keys_allowed : (κs : _) (a : _) (r : _) (s : _) → is-allowed.Post κs a r s → (k : ℕ) (t : Track) → a.0.now ≡ words_of (flight k t ∷ flight k t ∷ []) → r ≡ false
unfolding rows_of words_of read_rows flat row_of row_words arrival_words track_words rises
equal_keys_allowed κs a r s p k t e =
    p ∙ ap is_allowed e
    ∙ not_holds (is_allowed (words_of (flight k t ∷ flight k t ∷ []))) (λ h. true_false (parts (words_of (flight k t ∷ flight k t ∷ [])) h).rise (rw (le-ltb k k (omega arith))))

-- every word is 0 afterwards
pub empties_nothing : (κs : _) (a : _) (r : _) (s : _) → empty.Post κs a r s → a.0.now ≡ 1 ∷ [] → s.0.now ≡ 0 ∷ []
empties_nothing κs a r s p e = p ∙ ap (λ (l : List ℕ). replicate (length l) 0) e

-- the last half too
pub empties_half : (κs : _) (a : _) (r : _) (s : _) → empty.Post κs a r s → a.0.now ≡ 1 ∷ 2 ∷ 3 ∷ 4 ∷ [] → s.0.now ≡ 0 ∷ 0 ∷ 0 ∷ 0 ∷ []
empties_half κs a r s p e = p ∙ ap (λ (l : List ℕ). replicate (length l) 0) e

-- ---- a board of one row, for the examples of the crates above: QQX12 after the first line of document 01's printed example

abbrev pub word : String → ℕ
word s = packed (bytes s)

abbrev pub seen : Track
seen = record { speed = record { 0 = word "310" }; level = record { 0 = word "240" }; position = record { 0 = word "3015N/08430W" }; stamp = record { 0 = word "06081500" } }

abbrev pub tracked : Row
tracked = flight (word "QQX12") seen

pub one_row : is_board (tracked ∷ []) ≡ true
unfolding CAP is_board rises_by_bytes all_rows is_row is_arrival is_track has_entry is_word is_form is_stamp is_key is_position is_of fits fits_any one_of pieces run within is_packed tight text_of packed value digits code_of byte_of all is_digit is_letter is_alnum is_numeral is_digit_to number_of digit_of
one_row = refl

-- ---- listing

-- the rows of 2,817 zeros, and of a board with the one row of QQX12
none : (l : List ℕ) (n : ℕ) → n ≡ 2817 → l ≡ replicate n 0 → rows_of l ≡ []
none l n h e = ap rows_of e ∙ (empty_board n h).1

one : (l : List ℕ) → l ≡ words_of (tracked ∷ []) → rows_of l ≡ tracked ∷ []
one l e = ap rows_of e ∙ rows_words (tracked ∷ []) one_row

-- a flight that is not listed is shown with its own key, and without entries
pub looks_without_key : (κs : _) (a : _) (r : _) (s : _) → look.Post κs a r s → (n : ℕ) → n ≡ 2817 → a.0.now ≡ replicate n 0
    → r ≡ record { key = a.1.0; arrival = None; track = None }
unfolding look_row
looks_without_key κs a r s p n h e = p ∙ ap (look_row a.1.0.0) (none a.0.now n h e)

-- the row that is shown is the flight's own, word for word
pub looks_a_word_too_early : (κs : _) (a : _) (r : _) (s : _) → look.Post κs a r s → a.0.now ≡ words_of (tracked ∷ []) → a.1.0 ≡ tracked.key → r ≡ tracked
unfolding look_row packed value code_of is_digit is_letter
looks_a_word_too_early κs a r s p e k = p ∙ rw (one a.0.now e, k)

-- the first row raises the count to 1 and stands after it
pub count_not_raised : (κs : _) (a : _) (r : _) (s : _) → write.Post κs a r s → (n : ℕ) → n ≡ 2817 → a.0.now ≡ replicate n 0 → a.1.0 ≡ tracked
    → s.0.now ≡ words_of (tracked ∷ [])
unfolding written CAP
count_not_raised κs a r s p n h e k = p.words ∙ rw (none a.0.now n h e, k)

-- with 255 rows there is room for any flight
pub full_at_255 : (κs : _) (a : _) (r : _) (s : _) → write.Post κs a r s → length (rows_of a.0.now) ≡ 255 → r ≡ Ok tt
unfolding listing-fits CAP
full_at_255 κs a r s p e = p.done ∙ ap done_of (room (rows_of a.0.now) e (find_in (rows_of a.0.now) (key_of a.1.0)))
  where
    room : (rs : List Row) → length rs ≡ 255 → (f : Place) → fits_at f rs ≡ true
    room rs e (At i) = refl
    room rs e (Gap i) = rw e

-- where there is no room for the flight the number is 12, and not 0
pub no_room_is_written : (κs : _) (a : _) (r : _) (s : _) → write.Post κs a r s → listing-fits (rows_of a.0.now) (key_of a.1.0) ≡ false → done_number r ≡ 12
no_room_is_written κs a r s p e = p.number ∙ rw e

-- a board of one row is without rows when it is struck
pub last_row_stays : (κs : _) (a : _) (r : _) (s : _) → strike.Post κs a r s → a.0.now ≡ words_of (tracked ∷ []) → a.1.0 ≡ tracked.key
    → (r ≡ Ok tt) × (s.0.now ≡ words_of [])
unfolding struck is_listed packed value code_of is_digit is_letter
last_row_stays κs a r s p e k = (p.done ∙ rw (one a.0.now e, k), p.words ∙ rw (one a.0.now e, k))

-- no flight is struck off a board without rows: 14, and not 0
pub strikes_what_is_not_there : (κs : _) (a : _) (r : _) (s : _) → strike.Post κs a r s → (n : ℕ) → n ≡ 2817 → a.0.now ≡ replicate n 0 → (r ≡ Err (record {})) × (struck_number r ≡ 14)
unfolding is_listed
strikes_what_is_not_there κs a r s p n h e = (p.done ∙ rw (none a.0.now n h e), p.number ∙ rw (none a.0.now n h e))
