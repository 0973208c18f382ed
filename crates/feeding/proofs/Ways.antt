-- What each way through the code answers, but for the loop, is what its definition says. Assumes nothing.
use Rattle.std.specs.Prelude.{Err, Ok, Result}
use mathlib.Core.Path.{◌≡◌, refl, sym, ap, ◌∙◌}
use mathlib.Core.Bool.{Bool, true, false, cond}
use mathlib.Core.List.{List, [], ◌∷◌}
use Prim.Native.Nat.{ℕ}
use native.Mathlib.Omega.{arith}
use lib.ListN.{length}
use denote.Enum.Declared.{tag_of}
use types.Run.{OneOf, miss}
use Rattle.board.specs.Rows.{fits}
use Rattle.board.specs.declared.rows.Row.{Row}
use Rattle.board.specs.Board.{rows_of, words_of, is_allowed as is_board}
use Rattle.board.proofs.Theorems.{words_rows}
use Rattle.history.specs.Steps.{Took, NoRoom, rows_after, answer}
use Rattle.planner.specs.Asked.{asked_of}
use Rattle.planner.specs.declared.asks.Asked.{Asked}
use Rattle.line.specs.declared.Refusal.{Refusal}
use Rattle.planner.specs.declared.asks.Asked.TheVariants as asked
use Rattle.planner.specs.Apply.{event_of as asked_event, line_event, room, answer_to, Entered}
use Rattle.cutter.specs.State.{is_allowed}
use Rattle.cutter.specs.Calls.{line_in}
use Rattle.cutter.specs.Cases.{told_by}
use Rattle.cutter.specs.declared.Begun.{Begun}
use Rattle.cutter.specs.declared.CutAnswer.{CutAnswer}
use Rattle.cutter.specs.declared.CutAnswer.TheVariants as cut
use Rattle.cutter.specs.contracts.CutAnswer.{the_type as the-cut}
use Rattle.feeding.specs.Tally.{event_of, one, rows_by, taken_by}
use Rattle.feeding.specs.Fed.{refused_with, fed_of, board_fed, held_after}
use Rattle.feeding.specs.declared.AfterFeed.{AfterFeed}
use Rattle.planner.specs.declared.NotTaken.{NotTaken}

-- ---- `ended`

module _ (a : CutAnswer) where
  pub taken_ended : a ≡ cut.Taken → 0 ≡ length (told_by a [])
  unfolding told_by
  taken_ended e = rw e

  pub buffer_ended : (n : ℕ) → a ≡ cut.InBuffer n → 1 ≡ length (told_by a [])
  unfolding told_by
  buffer_ended n e = rw e

  pub part_ended : (n : ℕ) → a ≡ cut.InPart n → 1 ≡ length (told_by a [])
  unfolding told_by
  part_ended n e = rw e

  pub long_ended : a ≡ cut.TooLong → 1 ≡ length (told_by a [])
  unfolding told_by
  long_ended e = rw e

  pub refused_ended : a ≡ cut.NotAllowed → 0 ≡ length (told_by a [])
  unfolding told_by
  refused_ended e = rw e

-- ---- `apply_line`

-- 1 for a line that is taken
abbrev pub counted : Result (Unit {0}) NotTaken → ℕ
counted (Ok tt) = 1
counted (Err e) = 0

count_room : (b : Bool) → counted (room b) ≡ one (cond b Took NoRoom)
count_room true = refl
count_room false = refl

count_line : (rs : List Row) (a : Result Asked Refusal) → counted (answer_to rs a) ≡ one (answer rs (asked_event a))
unfolding answer
count_line rs (Ok (asked.Dz k x)) = count_room (fits rs k.0)
count_line rs (Ok (asked.Az k x)) = count_room (fits rs k.0)
count_line rs (Ok (asked.Tz k x)) = count_room (fits rs k.0)
count_line rs (Ok asked.Other) = refl
count_line rs (Err x) = refl

module _ (l s : List ℕ) (r : Result (Unit {0}) NotTaken) (l' : List ℕ) (w : Entered l (asked_of s) r l') where
  heard : counted r ≡ one (answer (rows_of l) (line_event s))
  unfolding line_event
  heard = ap counted w.answered ∙ count_line (rows_of l) (asked_of s)

  shown : l' ≡ words_of (rows_after (rows_of l) (line_event s))
  unfolding line_event
  shown = w.words

  pub line_as : (x : Result (Unit {0}) NotTaken) → r ≡ x → (counted x ≡ one (answer (rows_of l) (line_event s))) × (l' ≡ words_of (rows_after (rows_of l) (line_event s)))
  line_as x e = (sym (ap counted e) ∙ heard, shown)

-- ---- `enter`

-- what is said of lines on the board l
abbrev pub On : List ℕ → CutAnswer → List ℕ → List ℕ → ℕ → List ℕ → Type 0
On l a held rest r l' =
    (r ≡ taken_by (rows_of l) (told_by a (line_in a held rest))) × (l' ≡ words_of (rows_by (rows_of l) (told_by a (line_in a held rest))))

module _ (l : List ℕ) (a : CutAnswer) (held rest : List ℕ) where
  module _ (s : List ℕ) (is : s ≡ line_in a held rest) (r : ℕ) (l' : List ℕ)
      (e : (r ≡ one (answer (rows_of l) (line_event s))) × (l' ≡ words_of (rows_after (rows_of l) (line_event s)))) where
    pub buffer_entered : (n : ℕ) → a ≡ cut.InBuffer n → On l a held rest r l'
    unfolding told_by taken_by rows_by event_of
    buffer_entered n q = rw (← is, q) (omega (arith, e.0), e.1)

    pub part_entered : (n : ℕ) → a ≡ cut.InPart n → On l a held rest r l'
    unfolding told_by taken_by rows_by event_of
    part_entered n q = rw (← is, q) (omega (arith, e.0), e.1)

-- where no line is handed over, the code tells only the variant's number
pub none_entered : (l : List ℕ) (a : CutAnswer) (held rest : List ℕ) → is_board l ≡ true → OneOf (0 ∷ 3 ∷ 4 ∷ []) (tag_of the-cut a) → On l a held rest 0 l
unfolding told_by taken_by rows_by event_of answer rows_after
none_entered l cut.Taken held rest b h = (refl, sym (words_rows l b))
none_entered l (cut.InBuffer n) held rest b h = absurd (miss (0 ∷ 3 ∷ 4 ∷ []) 1 tt h)
none_entered l (cut.InPart n) held rest b h = absurd (miss (0 ∷ 3 ∷ 4 ∷ []) 2 tt h)
none_entered l cut.TooLong held rest b h = (refl, sym (words_rows l b))
none_entered l cut.NotAllowed held rest b h = (refl, sym (words_rows l b))

-- ---- `feed`

module _ (board held : List ℕ) (begun : Begun) (n : ℕ) (part : List ℕ) (r : AfterFeed) (e : r ≡ refused_with begun) where
  pub no_board : is_board board ≡ false → (r ≡ fed_of board held begun n part) × ((board ≡ board_fed board held begun n part) × (held ≡ held_after board held begun n part))
  unfolding fed_of board_fed held_after
  no_board b = rw b (e, (refl, refl))

  pub no_state : is_board board ≡ true → is_allowed held begun ≡ false
      → (r ≡ fed_of board held begun n part) × ((board ≡ board_fed board held begun n part) × (held ≡ held_after board held begun n part))
  unfolding fed_of board_fed held_after
  no_state b a = rw (b, a) (e, (refl, refl))
