-- What the promises of `keeper` require on feeds and files written out, and so wrong files and answers that they do not allow. `Pre` is what `shelf::put_day` and
-- `shelf::put_lines` ask for, `Post` what `work::keep_feed` and `lists::look` promise. Assumes nothing.
use Rattle.std.specs.Prelude.{Err, IfSome}
use Rattle.std.proofs.lemmas.Option.{IfSome_then}
use Prim.Native.Nat.{ℕ}
use mathlib.Core.Bool.{true}
use mathlib.Core.List.{List, [], ◌∷◌, ◌++◌}
use mathlib.Core.Logic.{◌⊎◌, inl, inr}
use mathlib.Core.Path.{◌≡◌, refl, sym, ap, ◌∙◌}
use native.Mathlib.Omega.{arith}
use lib.ListN.{length, drop, get_or, length-append}
use Rattle.text.specs.Bytes.{bytes}
use Rattle.text.specs.Place.{places}
use Rattle.shapes.specs.Cut.{up_to, has}
use Rattle.shapes.specs.Pieces.{pieces}
use Rattle.cutter.specs.Feed.{Whole, TooLong, feed_of, all_but_last, texts_of, line_of, lines_of}
use Rattle.dayfile.specs.DayFile.{version1, trailer_size, lines_text, starts_from, index_of, trailer_of, file_of, may_keep, each_may_keep, is_run}
use Rattle.dayfile.specs.Opening.{open_by, open_of}
use Rattle.keeper.specs.Keep.{kept_after, looked_at, kept_in, day_file_of}
use Rattle.keeper.specs.Work.{Piece, Lines, Closing}
use Rattle.keeper.proofs.shelf.Shelf.put_day.Reads as put-day
use Rattle.keeper.proofs.shelf.Shelf.put_lines.Reads as put-lines
use Rattle.keeper.proofs.work.keep_feed.Reads as keep-feed
use Rattle.keeper.proofs.lists.look.Reads as look
use Rattle.dayfile.specs.declared.NotOpened.TheVariants.{TooShort}

-- ---- the day file of the lines AB and an empty one, and of a C that no line feed ends, byte for byte

pub day_of_two_lines : day_file_of (bytes "AB" ++ 10 ∷ 10 ∷ bytes "C") ≡ 65 ∷ 66 ∷ 10 ∷ 10 ∷ 0 ∷ 0 ∷ 0 ∷ 0 ∷ 0 ∷ 0 ∷ 0 ∷ 3 ∷ 0 ∷ 0 ∷ 0 ∷ 4 ∷ 0 ∷ 2 ∷ 0 ∷ 1 ∷ []
unfolding day_file_of file_of kept_after lines_of line_of texts_of all_but_last pieces is_run each_may_keep may_keep has up_to feed_of starts_from index_of trailer_of places
day_of_two_lines = refl

-- of nothing: a trailer
abbrev empty : List ℕ
empty = 0 ∷ 0 ∷ 0 ∷ 0 ∷ 0 ∷ 0 ∷ 0 ∷ 1 ∷ []

pub day_of_nothing : (lines_text (kept_in []) ≡ []) × (day_file_of [] ≡ empty) × (length (kept_in []) ≡ 0)
unfolding day_file_of file_of kept_after lines_of line_of texts_of all_but_last pieces is_run each_may_keep may_keep has up_to feed_of starts_from index_of trailer_of places
day_of_nothing = (refl, refl, refl)

-- an overlong line is looked at and left out, and the next is kept
pub overlong_left_out : (kept_after [] (TooLong ∷ Whole (bytes "A") ∷ []) ≡ bytes "A" ∷ []) × (looked_at [] (TooLong ∷ Whole (bytes "A") ∷ []) ≡ 2)
unfolding kept_after looked_at is_run each_may_keep may_keep has up_to feed_of
overlong_left_out = (refl, refl)

-- ---- before a byte came, nothing goes out but the day file of nothing, and that at its start

no_bytes : (feed : List ℕ) → length feed ≡ 0 → feed ≡ []
no_bytes [] e = refl
no_bytes (x ∷ feed) e = absurd (omega arith)

front_none : (a b : List ℕ) → length a ≡ 0 → a ++ b ≡ b
front_none a b e = ap (λ (s : List ℕ). s ++ b) (no_bytes a e)

of_nothing : (text : List ℕ) → Piece 0 0 text → (text ≡ []) ⊎ (text ≡ empty)
of_nothing text (Lines feed a l h e) =
    inl (sym (front_none a text (sym h)) ∙ sym e ∙ ap (λ (s : List ℕ). lines_text (kept_in s)) (no_bytes feed l) ∙ day_of_nothing.0)
of_nothing text (Closing feed a l h e) = inr (sym (front_none a text (sym h)) ∙ sym e ∙ ap day_file_of (no_bytes feed l) ∙ day_of_nothing.1)

pub first_piece_of_nothing : (κs : _) (a : _) → put-day.Pre κs a → a.1.1.0.total ≡ 0 → a.0.total ≡ 0 → (a.1.1.1.0.now ≡ []) ⊎ (a.1.1.1.0.now ≡ empty)
first_piece_of_nothing κs a p e f = of_nothing a.1.1.1.0.now (rw (e, f) at p)

-- and where each write was taken, it has eight bytes
pub nothing_has_eight : (κs : _) (a : _) (r : _) (s : _) → keep-feed.Post κs a r s → r.work.input.total ≡ 0 → r.work.shelf.live ≡ true
    → (r.work.shelf.total ≡ 8) × (r.work.keep.place.count ≡ 0)
nothing_has_eight κs a r s p e q =
    let n = no_bytes p.feed (p.came ∙ e) in
    ((p.put q).1 ∙ ap (λ (f : List ℕ). length (day_file_of f)) n ∙ ap length day_of_nothing.1, p.kept ∙ ap (λ (f : List ℕ). length (kept_in f)) n ∙ day_of_nothing.2)

-- ---- a file of seven bytes is refused with 20, and nothing else

short : (file : List ℕ) → length file ≡ 7 → open_of version1 file ≡ Err TooShort
unfolding open_of open_by trailer_size
short file e = rw e

pub opens_seven_bytes : (κs : _) (a : _) (r : _) (s : _) → look.Post κs a r s → a.0.size ≡ 7 → IfSome r (λ o. o ≡ Err TooShort)
opens_seven_bytes κs a r s p f = IfSome_then r p (λ o j. j.answer ∙ short j.file (j.sized ∙ f))

-- ---- only whole lines are put away

not_a_line : (ls : List (List ℕ)) → lines_text ls ≡ 65 ∷ [] → ⊥
unfolding feed_of
not_a_line [] e = let z : ◌≡◌ {A = ℕ} 0 1 = ap length e in omega arith
not_a_line ([] ∷ ls) e = let z : ◌≡◌ {A = ℕ} 10 65 = ap (λ (s : List ℕ). get_or s 0 0) e in omega arith
not_a_line ((x ∷ l) ∷ ls) e =
    let z : ◌≡◌ {A = ℕ} (length (l ++ 10 ∷ lines_text ls)) 0 = ap (λ (s : List ℕ). length (drop 1 s)) e in
    omega (arith, z, length-append l (10 ∷ lines_text ls))

pub half_a_line : (κs : _) (a : _) → put-lines.Pre κs a → a.1.1.0.now ≡ 65 ∷ [] → ⊥
half_a_line κs a p e = not_a_line p.next (sym p.lines ∙ e)
