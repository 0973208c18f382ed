-- Calling `cut` until each part of a feed is used, and then `end`. Assumes nothing.
use Rattle.std.specs.Prelude.{◌≡◌, List, [], ◌∷◌, ◌++◌, ℕ, drop}
use Rattle.cutter.specs.Feed.{Line}
use Rattle.cutter.specs.Calls.{cut_of, held_cut, line_in, end_of}
use Rattle.cutter.specs.Cases.{told_by}
use Rattle.cutter.specs.declared.Begun.{Begun}
use Rattle.cutter.specs.declared.CutAnswer.{CutAnswer}
use Rattle.cutter.specs.declared.AfterCut.{AfterCut}
use Rattle.cutter.specs.declared.AfterEnd.{AfterEnd}

-- the whole of the parts
unfoldable pub concat : List (List ℕ) → List ℕ
concat [] = []
concat (part ∷ parts) = part ++ concat parts

-- what `end` answers after the unended rest of a feed: "at a line's start the end answers 0", inside a line 17
abbrev pub at_end : List ℕ → ℕ
at_end [] = 0
at_end (x ∷ s) = 17

-- what `cut`, `line` and `end` promise of a call: the result, and the buffer as it is left. `proofs/Theorems` shows that these are the
-- promises in the source.
abbrev pub Cuts : List ℕ → Begun → List ℕ → AfterCut → List ℕ → Type 0
Cuts held begun part r held' = (r ≡ cut_of held begun part) × (held' ≡ held_cut held begun part)

abbrev pub Hands : CutAnswer → List ℕ → List ℕ → List ℕ → Type 0
Hands answer held part l = l ≡ line_in answer held part

abbrev pub Ends : List ℕ → Begun → AfterEnd → Type 0
Ends held begun r = r ≡ end_of held begun

-- the state, the parts, the lines that the calls told of, and the state that they left
pub data Fed : List ℕ → Begun → List (List ℕ) → List Line → List ℕ → Begun → Type 0 where
  done : {held : List ℕ} {begun : Begun} → Fed held begun [] [] held begun
  used : {held : List ℕ} {begun : Begun} {parts : List (List ℕ)} {ls : List Line} {held' : List ℕ} {begun' : Begun}
      → Fed held begun parts ls held' begun' → Fed held begun ([] ∷ parts) ls held' begun'
  called : {held : List ℕ} {begun : Begun} {part : List ℕ} {parts : List (List ℕ)} {r : AfterCut} {held₁ l : List ℕ} {ls : List Line} {held' : List ℕ} {begun' : Begun}
      → Cuts held begun part r held₁
      → Hands r.answer held₁ part l
      → Fed held₁ r.begun (drop r.used part ∷ parts) ls held' begun'
      → Fed held begun (part ∷ parts) (told_by r.answer l ++ ls) held' begun'
