-- When each number is answered, and what then holds, in the sentences of document 01 ("Answer numbers", "Cutting"). Assumes nothing.
use Rattle.std.specs.Prelude.{ℕ, ◌+◌, true, false, List, [], ◌∷◌, ◌≡◌, length}
use Rattle.shapes.specs.Cut.{up_to, has, before}
use Rattle.rules.specs.Frame.{line_feed}
use Rattle.cutter.specs.Feed.{Line, Whole, TooLong}
use Rattle.cutter.specs.State.{State, Bytes, Mark, state_in, is_allowed, more}
use Rattle.cutter.specs.Calls.{line_in, cut_number, end_number}
use Rattle.cutter.specs.declared.Begun.{Begun}
use Rattle.cutter.specs.declared.CutAnswer.{CutAnswer}
use Rattle.cutter.specs.declared.CutAnswer.TheVariants as cut
use Rattle.cutter.specs.declared.AfterCut.{AfterCut}
use Rattle.cutter.specs.declared.AfterEnd.{AfterEnd}

-- the line that an answer tells of, if it does: with `line` it is handed over
unfoldable pub told_by : CutAnswer → List ℕ → List Line
told_by (cut.InBuffer n) l = Whole l ∷ []
told_by (cut.InPart n) l = Whole l ∷ []
told_by cut.TooLong l = TooLong ∷ []
told_by cut.Taken l = []
told_by cut.NotAllowed l = []

-- a call of `cut`: its number, how many bytes it used, the line that it told of, and the state that it left
pub data CutCase (held : List ℕ) (begun : Begun) (part : List ℕ) : ℕ → ℕ → List Line → State → Type 0 where
  NotAllowed : is_allowed held begun ≡ false → CutCase held begun part 13 0 [] (state_in held begun)
  NoLineFeed : is_allowed held begun ≡ true → has line_feed part ≡ false → CutCase held begun part 0 (length part) [] (more (state_in held begun) part)
  LineEnded : is_allowed held begun ≡ true → has line_feed part ≡ true → (l : List ℕ) → more (state_in held begun) (before line_feed part) ≡ Bytes l
      → CutCase held begun part 0 (up_to line_feed part + 1) (Whole l ∷ []) (Bytes [])
  OverlongEnded : is_allowed held begun ≡ true → has line_feed part ≡ true → more (state_in held begun) (before line_feed part) ≡ Mark
      → CutCase held begun part 2 (up_to line_feed part + 1) (TooLong ∷ []) (Bytes [])

-- of a call that answered r and left held'
abbrev pub CutIs : List ℕ → Begun → List ℕ → AfterCut → List ℕ → Type 0
CutIs held begun part r held' = CutCase held begun part (cut_number r.answer) r.used (told_by r.answer (line_in r.answer held' part)) (state_in held' r.begun)

-- a call of `end`: its number, and the state that it left
pub data EndCase (held : List ℕ) (begun : Begun) : ℕ → State → Type 0 where
  EndNotAllowed : is_allowed held begun ≡ false → EndCase held begun 13 (state_in held begun)
  AtLineStart : is_allowed held begun ≡ true → state_in held begun ≡ Bytes [] → EndCase held begun 0 (Bytes [])
  InsideLine : is_allowed held begun ≡ true → (state_in held begun ≡ Bytes [] → ⊥) → EndCase held begun 17 (Bytes [])

abbrev pub EndIs : List ℕ → Begun → AfterEnd → Type 0
EndIs held begun r = EndCase held begun (end_number r.answer) (state_in held r.begun)
