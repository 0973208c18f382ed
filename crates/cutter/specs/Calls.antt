-- What `cut`, `end` and `line` answer, and document 01's numbers for it. Assumes nothing.
use Rattle.std.specs.Prelude.{ℕ, ◌+◌, Bool, false, cond, List, [], eqb, leb, length, take}
use Rattle.shapes.specs.Cut.{up_to, has, before}
use Rattle.rules.specs.Frame.{line_feed}
use Rattle.cutter.specs.State.{is_allowed, more_in, held_more}
use Rattle.cutter.specs.declared.Begun.{Begun}
use Rattle.cutter.specs.declared.Begun.TheVariants.{Held, Overlong}
use Rattle.cutter.specs.declared.CutAnswer.{CutAnswer}
use Rattle.cutter.specs.declared.CutAnswer.TheVariants as cut
use Rattle.cutter.specs.declared.EndAnswer.{EndAnswer}
use Rattle.cutter.specs.declared.EndAnswer.TheVariants as end
use Rattle.cutter.specs.declared.AfterCut.{AfterCut}
use Rattle.cutter.specs.declared.AfterEnd.{AfterEnd}

abbrev pub start : Begun
start = Held 0

unfoldable pub at_start : Begun → Bool
at_start (Held n) = eqb n 0
at_start Overlong = false

-- ---- a line ends after the bytes s

abbrev pub whole_in : Begun → CutAnswer
whole_in (Held n) = cut.InBuffer n
whole_in Overlong = cut.TooLong

-- a line that begins with s lies whole in it
abbrev pub within_of : List ℕ → List ℕ → CutAnswer
within_of held s = cond (leb (length s) (length held)) (cut.InPart (length s)) cut.TooLong

unfoldable pub close_of : List ℕ → Begun → List ℕ → CutAnswer
close_of held begun s = cond (at_start begun) (within_of held s) (whole_in (more_in held begun s))

unfoldable pub held_closed : List ℕ → Begun → List ℕ → List ℕ
held_closed held begun s = cond (at_start begun) held (held_more held begun s)

-- ---- `cut`: "13 first"; "a call uses its part up to and with the first line feed, else all of it"

unfoldable pub taken_of : List ℕ → Begun → List ℕ → AfterCut
taken_of held begun part =
    cond (has line_feed part) (record { answer = close_of held begun (before line_feed part); used = up_to line_feed part + 1; begun = start })
    (record { answer = cut.Taken; used = length part; begun = more_in held begun part })

unfoldable pub cut_of : List ℕ → Begun → List ℕ → AfterCut
cut_of held begun part = cond (is_allowed held begun) (taken_of held begun part) (record { answer = cut.NotAllowed; used = 0; begun = begun })

unfoldable pub held_cut : List ℕ → Begun → List ℕ → List ℕ
held_cut held begun part =
    cond (is_allowed held begun) (cond (has line_feed part) (held_closed held begun (before line_feed part)) (held_more held begun part)) held

-- ---- `end`: "at a line's start 0; inside a line, overlong or not, 17"

unfoldable pub end_of : List ℕ → Begun → AfterEnd
end_of held begun =
    cond (is_allowed held begun)
    (record { answer = cond (at_start begun) end.AtStart end.InsideLine; begun = start })
    (record { answer = end.NotAllowed; begun = begun })

-- ---- the line handed over: a part of the buffer as `cut` left it, or of the part

unfoldable pub line_in : CutAnswer → List ℕ → List ℕ → List ℕ
line_in (cut.InBuffer n) held part = take n held
line_in (cut.InPart n) held part = take n part
line_in cut.Taken held part = []
line_in cut.TooLong held part = []
line_in cut.NotAllowed held part = []

-- ---- the answer numbers

unfoldable pub cut_number : CutAnswer → ℕ
cut_number cut.Taken = 0
cut_number (cut.InBuffer n) = 0
cut_number (cut.InPart n) = 0
cut_number cut.TooLong = 2
cut_number cut.NotAllowed = 13

unfoldable pub end_number : EndAnswer → ℕ
end_number end.AtStart = 0
end_number end.InsideLine = 17
end_number end.NotAllowed = 13
