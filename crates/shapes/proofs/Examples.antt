-- What the promises of `shapes` require on inputs written out, and so wrong answers that they do not allow: of each, `Post` is the function's
-- `ensures` as it stands in the source, r any result that meets it, s the state at exit. Assumes nothing.
use Prim.Native.Char.{code}
use mathlib.Core.Bool.{true, false}
use mathlib.Core.Path.{◌≡◌, ◌∙◌, ap}
use lib.ListN.{replicate}
use Rattle.text.specs.Bytes.{bytes}
use Rattle.text.specs.Class.{all, is_digit}
use Rattle.text.specs.Place.{all_in}
use Rattle.shapes.specs.Cut.{up_to}
use Rattle.shapes.specs.Many.{how_many, twice}
use Rattle.shapes.specs.Picture.{is_of, fits, fits_any, one_of, run as running}
use Rattle.shapes.specs.Pieces.{pieces}
use Rattle.shapes.proofs.find.Reads as find
use Rattle.shapes.proofs.is_of.Reads as is-of
use Rattle.shapes.proofs.one_of.Reads as one_of_lem
use Rattle.shapes.proofs.run.Reads as run
use Rattle.shapes.proofs.sweeps.each_within.Reads as each_within
use Rattle.shapes.proofs.sweeps.find_far.Reads as find-far
use Rattle.shapes.proofs.sweeps.has_twice.Reads as has-twice
use Rattle.shapes.proofs.sweeps.how_many.Reads as how_many_lem

-- the colon, the byte after 9, is no digit
pub digit_to_colon : (κs : _) (a : _) (r : _) (s : _) → is-of.Post κs a r s → a.0 ≡ code "d" → a.1.0 ≡ code ":" → r ≡ false
unfolding is_of is_digit
digit_to_colon κs a r s p k b = p ∙ rw (k, b)

-- G is no character of a sequence number
pub hex_to_g : (κs : _) (a : _) (r : _) (s : _) → is-of.Post κs a r s → a.0 ≡ code "h" → a.1.0 ≡ code "G" → r ≡ false
unfolding is_of is_digit
hex_to_g κs a r s p k b = p ∙ rw (k, b)

-- two bytes come before the first slash, which is not counted
pub find_place_after : (κs : _) (a : _) (r : _) (s : _) → find.Post κs a r s → a.0 ≡ code "/" → a.1.0.now ≡ bytes "AB/C/D" → r ≡ 2
unfolding up_to
find_place_after κs a r s p b e = p ∙ rw (b, e)

-- without a slash it is all of them, and not 0
pub find_none_is_0 : (κs : _) (a : _) (r : _) (s : _) → find.Post κs a r s → a.0 ≡ code "/" → a.1.0.now ≡ bytes "ABC" → r ≡ 3
unfolding up_to
find_none_is_0 κs a r s p b e = p ∙ rw (b, e)

-- an empty picture at the end is tried too
pub one_of_not_last : (κs : _) (a : _) (r : _) (s : _) → one_of_lem.Post κs a r s → a.0.now ≡ bytes "dd|" → a.1.0.now ≡ bytes "" → r ≡ true
unfolding one_of fits_any fits pieces
one_of_not_last κs a r s p k e = p ∙ rw (k, e)

-- a picture after the first keeps its first letter
pub one_of_skips_a_letter : (κs : _) (a : _) (r : _) (s : _) → one_of_lem.Post κs a r s
    → a.0.now ≡ bytes "dd|dd_b" → a.1.0.now ≡ bytes "1B" → r ≡ false
unfolding one_of fits_any fits pieces is_of is_digit
one_of_skips_a_letter κs a r s p k e = p ∙ rw (k, e)

-- 2 to 4 digits may be 2
pub run_not_least : (κs : _) (a : _) (r : _) (s : _) → run.Post κs a r s
    → a.0 ≡ code "d" → a.1.0 ≡ 2 → a.1.1.0 ≡ 4 → a.1.1.1.0.now ≡ bytes "12" → r ≡ true
unfolding running all is_of is_digit
run_not_least κs a r s p k least most e = p ∙ rw (k, least, most, e)

-- and 4
pub run_not_most : (κs : _) (a : _) (r : _) (s : _) → run.Post κs a r s
    → a.0 ≡ code "d" → a.1.0 ≡ 2 → a.1.1.0 ≡ 4 → a.1.1.1.0.now ≡ bytes "1234" → r ≡ true
unfolding running all is_of is_digit
run_not_most κs a r s p k least most e = p ∙ rw (k, least, most, e)

-- ---- sweeps

-- the lower limit is within
pub each_within_without_lo : (κs : _) (a : _) (r : _) (s : _) → each_within.Post κs a r s
    → a.0 ≡ code "0" → a.1.0 ≡ code "9" → a.1.1.0.now ≡ bytes "01" → r ≡ true
unfolding all_in all
each_within_without_lo κs a r s p lo hi e = p ∙ rw (lo, hi, e)

-- and the upper one
pub each_within_without_hi : (κs : _) (a : _) (r : _) (s : _) → each_within.Post κs a r s
    → a.0 ≡ code "0" → a.1.0 ≡ code "9" → a.1.1.0.now ≡ bytes "89" → r ≡ true
unfolding all_in all
each_within_without_hi κs a r s p lo hi e = p ∙ rw (lo, hi, e)

-- a slash right after sixteen bytes is found
pub find_far_steps_of_17 : (κs : _) (a : _) (r : _) (s : _) → find-far.Post κs a r s
    → a.0 ≡ code "/" → a.1.0.now ≡ bytes "ABCDEFGHIJKLMNOP/Q" → r ≡ 16
unfolding up_to
find_far_steps_of_17 κs a r s p b e = p ∙ rw (b, e)

-- and the place is counted from the start
pub find_far_from_the_last_step : (κs : _) (a : _) (r : _) (s : _) → find-far.Post κs a r s
    → a.0 ≡ code "/" → a.1.0.now ≡ bytes "ABCDEFGHIJKLMNOPQ/" → r ≡ 17
unfolding up_to
find_far_from_the_last_step κs a r s p b e = p ∙ rw (b, e)

-- the slashes are counted, not the others
pub how_many_others : (κs : _) (a : _) (r : _) (s : _) → how_many_lem.Post κs a r s → a.0 ≡ code "/" → a.1.0.now ≡ bytes "A/B" → r ≡ 1
unfolding how_many
how_many_others κs a r s p b e = p ∙ rw (b, e)

-- all of many, not only those at the end
pub how_many_at_the_end : (κs : _) (a : _) (r : _) (s : _) → how_many_lem.Post κs a r s
    → a.0 ≡ code "/" → a.1.0.now ≡ replicate 225 (code "/") → r ≡ 225
unfolding how_many
how_many_at_the_end κs a r s p b e = p ∙ rw b (ap (how_many (code "/")) e)

-- one space alone is not two
pub has_twice_one_of_two : (κs : _) (a : _) (r : _) (s : _) → has-twice.Post κs a r s → a.0 ≡ code " " → a.1.0.now ≡ bytes "A B " → r ≡ false
unfolding twice
has_twice_one_of_two κs a r s p b e = p ∙ rw (b, e)

-- two at the start are
pub has_twice_not_at_the_start : (κs : _) (a : _) (r : _) (s : _) → has-twice.Post κs a r s
    → a.0 ≡ code " " → a.1.0.now ≡ bytes "  A" → r ≡ true
unfolding twice
has_twice_not_at_the_start κs a r s p b e = p ∙ rw (b, e)
