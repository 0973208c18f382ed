-- One call of `cut`, and the line that it told of entered: that is what is read of what is left where one line may be. Assumes nothing.
use Rattle.std.specs.Prelude.{Ok}
use mathlib.Core.Path.{◌≡◌, refl, sym, ap, ◌∙◌}
use mathlib.Core.Bool.{Bool, true, false}
use mathlib.Core.List.{List, [], ◌∷◌, ◌++◌}
use Prim.Native.Nat.{ℕ, ◌+◌}
use native.Mathlib.Omega.{arith}
use lib.ListN.{length}
use lib.Seq.{length-take-le}
use Rattle.text.proofs.Logic.{true_false}
use Rattle.shapes.specs.Cut.{up_to, has, before, after}
use Rattle.shapes.specs.Pieces.{pieces}
use Rattle.shapes.proofs.Laws.{up_to_le}
use Rattle.shapes.proofs.Joins.{cut_whole, before_none, no_cut}
use Rattle.shapes.proofs.Pieces.{pieces_one}
use Rattle.board.specs.Board.{is_allowed as is_board}
use Rattle.rules.specs.Frame.{line_feed}
use Rattle.cutter.specs.Feed.{Line}
use Rattle.cutter.specs.State.{State, state_in, is_allowed, more}
use Rattle.cutter.specs.Calls.{start, held_closed, taken_of, cut_of, held_cut, line_in}
use Rattle.cutter.specs.Cases.{told_by, CutCase, NotAllowed, NoLineFeed, LineEnded, OverlongEnded, CutIs}
use Rattle.cutter.specs.Told.{ended, told}
use Rattle.cutter.specs.declared.Begun.{Begun}
use Rattle.cutter.specs.declared.AfterCut.{AfterCut}
use Rattle.cutter.specs.declared.CutAnswer.{CutAnswer}
use Rattle.cutter.specs.declared.CutAnswer.TheVariants as cut
use Rattle.feeding.specs.Tally.{line_feeds, read_of}
use Rattle.feeding.specs.Fed.{held_fed, begun_fed, lines_fed, read_in, fed_with, fed_of, board_fed, held_after}
use Rattle.feeding.proofs.Tallies.{read_free, read_cut, lines_told}
use Rattle.feeding.proofs.Ways.{On}
use Rattle.feeding.proofs.Turns.{more_none, held_none, closed_allowed, next_held, next_begun, next_lines, fed_ready, board_ready, held_ready}

-- ---- the first line of what is left

record First (rest : List ℕ) : Type 0 where
  used : up_to line_feed rest + 1 ≡ read_of 1 rest
  text : read_in 1 rest ≡ before line_feed rest ++ line_feed ∷ []

first : (rest : List ℕ) → has line_feed rest ≡ true → First rest
unfolding before read_of
first rest q =
    let p = before line_feed rest in
    let t = after line_feed rest in
    let w : p ++ line_feed ∷ t ≡ rest = cut_whole line_feed rest q in
    let c = read_cut 0 p t (before_none line_feed rest) in
    let n : length p ≡ up_to line_feed rest = length-take-le (up_to line_feed rest) rest (up_to_le line_feed rest) in
    let u : read_of 1 rest ≡ length p + 1 + read_of 0 t = ap (read_of 1) (sym w) ∙ c.used in
    record { used = omega (arith, u, n); text = ap (read_in 1) (sym w) ∙ c.text }

module _ (held : List ℕ) (begun : Begun) (rest : List ℕ) (a : is_allowed held begun ≡ true) where
  -- the line that ended
  one_line : has line_feed rest ≡ true → lines_fed held begun (read_in 1 rest) ≡ ended (more (state_in held begun) (before line_feed rest)) ∷ []
  unfolding told pieces
  one_line q = rw (first rest q).text (next_lines held begun (before line_feed rest) [] (before_none line_feed rest))

  no_line : has line_feed rest ≡ false → lines_fed held begun (read_in 1 rest) ≡ []
  unfolding told
  no_line q = let n = no_cut line_feed rest q in rw ((read_free 0 rest n).text, pieces_one line_feed rest n)

  case_lines : {n u : ℕ} {ts : List Line} {h : State} → CutCase held begun rest n u ts h → (u ≡ read_of 1 rest) × (ts ≡ lines_fed held begun (read_in 1 rest))
  case_lines (NotAllowed p) = true_false a p
  case_lines (NoLineFeed p q) = (sym (read_free 0 rest (no_cut line_feed rest q)).used, sym (no_line q))
  case_lines (LineEnded p q l z) = ((first rest q).used, sym (one_line q ∙ rw z))
  case_lines (OverlongEnded p q z) = ((first rest q).used, sym (one_line q ∙ rw z))

  -- the state that is left
  cut_state : ((cut_of held begun rest).begun ≡ begun_fed held begun (pieces line_feed (read_in 1 rest))) × (held_cut held begun rest ≡ held_fed held begun (pieces line_feed (read_in 1 rest)))
  unfolding cut_of taken_of held_cut begun_fed held_fed pieces
  cut_state = go (has line_feed rest) refl
    where
      go : (t : Bool) → has line_feed rest ≡ t
          → ((cut_of held begun rest).begun ≡ begun_fed held begun (pieces line_feed (read_in 1 rest))) × (held_cut held begun rest ≡ held_fed held begun (pieces line_feed (read_in 1 rest)))
      go false q =
          let n = no_cut line_feed rest q in
          rw (a, q, (read_free 0 rest n).text, pieces_one line_feed rest n) (refl, refl)
      go true q =
          let p = before line_feed rest in
          let n = before_none line_feed rest in
          let c = closed_allowed held begun a p n in
          let h = held_closed held begun p in
          rw (a, q, (first rest q).text, next_begun held begun p [] n, next_held held begun p [] n) (sym (more_none h start c), sym (held_none h start c))

-- as many lines as the answer tells of, whatever bytes they are
same_count : (r : CutAnswer) (l : List ℕ) → length (told_by r []) ≡ length (told_by r l)
unfolding told_by
same_count cut.Taken l = refl
same_count (cut.InBuffer n) l = refl
same_count (cut.InPart n) l = refl
same_count cut.TooLong l = refl
same_count cut.NotAllowed l = refl

-- ---- THE STEP

module _ (board held : List ℕ) (begun : Begun) (rest : List ℕ) (b : is_board board ≡ true) (a : is_allowed held begun ≡ true) where
  pub stepped : (done : AfterCut) (held' : List ℕ) → (done ≡ cut_of held begun rest) × ((held' ≡ held_cut held begun rest) × CutIs held begun rest done held')
      → (k : ℕ) → k ≡ length (told_by done.answer []) → (n : ℕ) (board' : List ℕ) → On board done.answer held' rest n board'
      → (record { answer = Ok tt; used = done.used; begun = done.begun; lines = k; taken = n } ≡ fed_of board held begun 1 rest)
      × ((board' ≡ board_fed board held begun 1 rest) × (held' ≡ held_after board held begun 1 rest))
  unfolding fed_with
  stepped done held' d k e n board' o =
      let c = case_lines held begun rest a d.1.1 in
      let s = cut_state held begun rest a in
      let l : k ≡ line_feeds (read_in 1 rest) =
      e ∙ same_count done.answer (line_in done.answer held' rest) ∙ ap length c.1 ∙ lines_told (state_in held begun) (read_in 1 rest) in
      let g : done.begun ≡ begun_fed held begun (pieces line_feed (read_in 1 rest)) = ap (λ (x : AfterCut). x.begun) d.0 ∙ s.0 in (
        rw (fed_ready board held begun b a 1 rest, c.0, g, l, o.0, c.1),
        (rw (board_ready board held begun b a 1 rest) (rw c.1 at o.1), rw (held_ready board held begun b a 1 rest) (d.1.0 ∙ s.1)),
      )
