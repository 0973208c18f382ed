-- A body of fields (document 01, "The line"): "the body is one space, then fields parted by single spaces, none empty, and
-- at the end at most one space more". Assumes nothing.
use Rattle.std.specs.Prelude.{ℕ, ◌+◌, Bool, true, false, cond, ◌&&◌, not, List, [], ◌∷◌, ◌++◌, eqb, length, drop, None, Option, Some}
use Prim.Native.Char.{code}
use Rattle.shapes.specs.Cut.{up_to}
use Rattle.shapes.specs.Pieces.{pieces}

abbrev pub space : ℕ
space = code " "

-- ---- the text of fields

-- at the end a space more, or none
abbrev pub tail_of : Bool → List ℕ
tail_of true = space ∷ []
tail_of false = []

-- each field after a space
unfoldable pub body_of : List (List ℕ) → Bool → List ℕ
body_of [] t = tail_of t
body_of (f ∷ fs) t = space ∷ (f ++ body_of fs t)

unfoldable pub no_space : List ℕ → Bool
no_space [] = true
no_space (x ∷ s) = not (eqb x space) && no_space s

-- a field: some byte, and no space
unfoldable pub is_field : List ℕ → Bool
is_field [] = false
is_field (x ∷ s) = not (eqb x space) && no_space s

unfoldable pub all_fields : List (List ℕ) → Bool
all_fields [] = true
all_fields (f ∷ fs) = is_field f && all_fields fs

-- ---- the fields of a text. `proofs/SpacingLaws` shows that these are the only ones with that text.

pub data Split : Type 0 where
  Fields : List (List ℕ) → Bool → Split
  Wrong : Split

abbrev pub more : List ℕ → Split → Split
more f Wrong = Wrong
more f (Fields fs t) = Fields (f ∷ fs) t

-- of the pieces between the spaces only the last may be empty: then a space stands at the end
unfoldable pub ended : List (List ℕ) → Split
ended [] = Fields [] false
ended ([] ∷ []) = Fields [] true
ended ([] ∷ (p ∷ ps)) = Wrong
ended ((x ∷ f) ∷ ps) = more (x ∷ f) (ended ps)

unfoldable pub fields_of : List ℕ → Split
fields_of [] = Fields [] false
fields_of (x ∷ s) = cond (eqb x space) (ended (pieces space s)) Wrong

abbrev pub fields_in : Split → List (List ℕ)
fields_in Wrong = []
fields_in (Fields fs t) = fs

-- ---- what the functions answer

unfoldable pub counts : Split → Option (ℕ × Bool)
counts Wrong = None
counts (Fields fs t) = Some (length fs, t)

unfoldable pub count_of : List ℕ → Option (ℕ × Bool)
count_of s = counts (fields_of s)

-- the index of the first space from j on, or the length; past the end, j
unfoldable pub end_of : List ℕ → ℕ → ℕ
end_of s j = j + up_to space (drop j s)
