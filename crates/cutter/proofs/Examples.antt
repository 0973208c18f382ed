-- What the promises of `cutter` require on inputs written out, and so wrong answers that they do not allow: of each, `Post` is the function's
-- `ensures` as it stands in the source, r any result that meets it, s the state at exit. Assumes nothing.
use Prim.Native.Nat.{ℕ}
use mathlib.Core.Bool.{false}
use mathlib.Core.List.{List, [], ◌∷◌}
use mathlib.Core.Path.{◌≡◌, ◌∙◌}
use native.Mathlib.Omega.{arith}
use lib.ListN.{length, take}
use lib.Seq.{length-take-le}
use Rattle.text.specs.Bytes.{bytes}
use Rattle.text.specs.Text.{has_room, spliced}
use Rattle.shapes.specs.Cut.{up_to, has, before}
use Rattle.cutter.specs.Calls.{at_start, close_of, held_closed, taken_of, cut_of, held_cut, end_of, line_in}
use Rattle.cutter.specs.State.{is_allowed, more_in, held_more}
use Rattle.cutter.specs.declared.Begun.TheVariants.{Held, Overlong}
use Rattle.cutter.specs.declared.CutAnswer.TheVariants as answer
use Rattle.cutter.specs.declared.EndAnswer.TheVariants as at
use Rattle.cutter.proofs.cut.Reads as cut
use Rattle.cutter.proofs.end.Reads as end
use Rattle.cutter.proofs.is_allowed.Reads as is-allowed
use Rattle.cutter.proofs.line.Reads as line

-- a buffer of fewer than 2,048 bytes is none
pub allowed_shorter_buffer : (κs : _) (a : _) (r : _) (s : _) → is-allowed.Post κs a r s → length a.0.now ≡ 2047 → r ≡ false
unfolding is_allowed
allowed_shorter_buffer κs a r s p h = p ∙ rw h

-- a begun line has no line feed in it
pub allowed_with_line_feed : (κs : _) (a : _) (r : _) (s : _) (rest : List ℕ) → is-allowed.Post κs a r s → a.0.now ≡ 65 ∷ (10 ∷ rest) → a.1.0 ≡ Held 2
    → length rest ≡ 2046 → r ≡ false
unfolding is_allowed has up_to
allowed_with_line_feed κs a r s rest p e b h = p ∙ rw (e, b, h)

-- 13 uses no byte
pub uses_a_byte_at_13 : (κs : _) (a : _) (r : _) (s : _) → cut.Post κs a r s
    → a.0.now ≡ [] → r ≡ record { answer = answer.NotAllowed; used = 0; begun = a.1.0 }
unfolding cut_of is_allowed
uses_a_byte_at_13 κs a r s p e = p.0 ∙ rw e

-- a line's bytes and its line feed are used; the line lies in the part, and the buffer is as it was
pub line_feed_not_used : (κs : _) (a : _) (r : _) (s : _) → cut.Post κs a r s
    → length a.0.now ≡ 2048 → a.1.0 ≡ Held 0 → a.1.1.0.now ≡ 65 ∷ (10 ∷ (66 ∷ []))
    → (r ≡ record { answer = answer.InPart 1; used = 2; begun = Held 0 }) × (s.0.now ≡ a.0.now)
unfolding cut_of held_cut taken_of is_allowed has up_to before close_of held_closed at_start
line_feed_not_used κs a r s p h b e = (p.0 ∙ rw (b, e, h), p.1.0 ∙ rw (b, e, h))

-- a part without a line feed is taken, and held
pub two_at_each_part : (κs : _) (a : _) (r : _) (s : _) → cut.Post κs a r s
    → (rest : List ℕ) → a.0.now ≡ 0 ∷ (0 ∷ rest) → length rest ≡ 2046 → a.1.0 ≡ Held 0 → a.1.1.0.now ≡ bytes "AB"
    → (r ≡ record { answer = answer.Taken; used = 2; begun = Held 2 }) × (s.0.now ≡ 65 ∷ (66 ∷ rest))
unfolding cut_of held_cut taken_of is_allowed has up_to more_in held_more has_room spliced
two_at_each_part κs a r s p rest e h b f = (p.0 ∙ rw (b, e, f, h), p.1.0 ∙ rw (b, e, f, h))

-- a line that began before is handed over with its first bytes
pub without_its_first_part : (κs : _) (a : _) (r : _) (s : _) → cut.Post κs a r s
    → (rest : List ℕ) → a.0.now ≡ 65 ∷ (0 ∷ rest) → length rest ≡ 2046 → a.1.0 ≡ Held 1 → a.1.1.0.now ≡ 66 ∷ (10 ∷ [])
    → (r ≡ record { answer = answer.InBuffer 2; used = 2; begun = Held 0 }) × (s.0.now ≡ 65 ∷ (66 ∷ rest))
unfolding cut_of held_cut taken_of is_allowed has up_to before close_of held_closed at_start more_in held_more has_room spliced
without_its_first_part κs a r s p rest e h b f = (p.0 ∙ rw (b, e, f, h), p.1.0 ∙ rw (b, e, f, h))

-- a begun line of 2,048 bytes with one more is overlong, and its bytes are no line
pub keeps_an_overlong_line : (κs : _) (a : _) (r : _) (s : _) → cut.Post κs a r s
    → length a.0.now ≡ 2048 → has 10 (take 2048 a.0.now) ≡ false → a.1.0 ≡ Held 2048 → a.1.1.0.now ≡ bytes "A"
    → (r ≡ record { answer = answer.Taken; used = 1; begun = Overlong }) × (s.0.now ≡ a.0.now)
unfolding cut_of held_cut taken_of is_allowed has up_to more_in held_more has_room
keeps_an_overlong_line κs a r s p h f b e = (p.0 ∙ rw (b, e, f, h), p.1.0 ∙ rw (b, e, f, h))

-- 2,049 bytes before a line feed are overlong
pub takes_2049 : (κs : _) (a : _) (r : _) (s : _) → cut.Post κs a r s
    → length a.0.now ≡ 2048 → a.1.0 ≡ Held 0 → up_to 10 a.1.1.0.now ≡ 2049 → length a.1.1.0.now ≡ 2050
    → r ≡ record { answer = answer.TooLong; used = 2050; begun = Held 0 }
unfolding cut_of taken_of is_allowed has up_to before close_of at_start
takes_2049 κs a r s p h b e f =
    let g : length (take 2049 a.1.1.0.now) ≡ 2049 = length-take-le 2049 a.1.1.0.now (omega (arith, f)) in
    p.0 ∙ rw (b, e, f, g, h)

-- at a line's start the end of the feed answers 0
pub seventeen_at_start : (κs : _) (a : _) (r : _) (s : _) → end.Post κs a r s → length a.0.now ≡ 2048 → a.1.0 ≡ Held 0
    → r ≡ record { answer = at.AtStart; begun = Held 0 }
unfolding end_of is_allowed at_start has up_to
seventeen_at_start κs a r s p h b = p.0 ∙ rw (b, h)

-- inside a line, also an overlong one, 17
pub end_inside_is_0 : (κs : _) (a : _) (r : _) (s : _) → end.Post κs a r s → length a.0.now ≡ 2048 → a.1.0 ≡ Overlong
    → r ≡ record { answer = at.InsideLine; begun = Held 0 }
unfolding end_of is_allowed at_start
end_inside_is_0 κs a r s p h b = p.0 ∙ rw (b, h)

-- a line in the part is read there
pub line_of_the_other_buffer : (κs : _) (a : _) (r : _) (s : _) → line.Post κs a r s
    → a.1.0.now ≡ bytes "ABC" → a.1.1.0.now ≡ bytes "DEF" → a.0 ≡ answer.InPart 2 → r.now ≡ bytes "DE"
unfolding line_in
line_of_the_other_buffer κs a r s p held part e = p ∙ rw (e, part)

-- and one in the buffer there, with each of its bytes
pub line_without_a_byte : (κs : _) (a : _) (r : _) (s : _) → line.Post κs a r s
    → a.1.0.now ≡ bytes "ABC" → a.1.1.0.now ≡ bytes "DEF" → a.0 ≡ answer.InBuffer 2 → r.now ≡ bytes "AB"
unfolding line_in
line_without_a_byte κs a r s p held part e = p ∙ rw (e, held)
