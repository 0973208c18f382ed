-- The cutter's state (document 01, "Cutting"): "the bytes of a begun line, at most 2,048 and no line feed among them, or the mark
-- that it is overlong; no other is allowed". Assumes nothing.
use Rattle.std.specs.Prelude.{ℕ, ◌+◌, Bool, true, cond, ◌&&◌, not, List, ◌++◌, eqb, leb, length, take}
use Rattle.text.specs.Text.{has_room, spliced}
use Rattle.shapes.specs.Cut.{has}
use Rattle.rules.specs.Frame.{line_feed, longest_line}
use Rattle.cutter.specs.declared.Begun.{Begun}
use Rattle.cutter.specs.declared.Begun.TheVariants.{Held, Overlong}

pub data State : Type 0 where
  Bytes : List ℕ → State
  Mark : State

-- what stands at the start of the lent buffer
unfoldable pub state_in : List ℕ → Begun → State
state_in held (Held n) = Bytes (take n held)
state_in held Overlong = Mark

abbrev pub is_begun : List ℕ → Begun → Bool
is_begun held (Held n) = leb n longest_line && not (has line_feed (take n held))
is_begun held Overlong = true

-- a buffer of another size is none
unfoldable pub is_allowed : List ℕ → Begun → Bool
is_allowed held begun = eqb (length held) longest_line && is_begun held begun

-- ---- the begun line with the bytes s more

-- "at most 2,048 .. or the mark"
abbrev pub state_of : List ℕ → State
state_of s = cond (leb (length s) longest_line) (Bytes s) Mark

unfoldable pub more : State → List ℕ → State
more (Bytes h) s = state_of (h ++ s)
more Mark s = Mark

-- as it stands in the buffer, where there is room for s after the first n bytes
unfoldable pub more_in : List ℕ → Begun → List ℕ → Begun
more_in held (Held n) s = cond (has_room s held n) (Held (n + length s)) Overlong
more_in held Overlong s = Overlong

unfoldable pub held_more : List ℕ → Begun → List ℕ → List ℕ
held_more held (Held n) s = cond (has_room s held n) (spliced held n s) held
held_more held Overlong s = held
