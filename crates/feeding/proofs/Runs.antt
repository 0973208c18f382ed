-- DEMAND 3 ABOUT ALL CALLS: whatever `apply`, `strike` and `feed` were called with, in whatever order, from an empty board. A call of `feed` does to the board what
-- `apply` does with each of its lines, so that `apply` and `strike` alone could have led there. Assumes nothing.
use Rattle.std.specs.Prelude.{Err, Ok, Result}
use mathlib.Core.Path.{◌≡◌, refl, sym, ap, ◌∙◌}
use mathlib.Core.Bool.{Bool, true, false, ◌&&◌}
use mathlib.Core.List.{List, [], ◌∷◌}
use Prim.Native.Nat.{ℕ}
use native.Mathlib.Omega.{arith}
use Rattle.board.specs.Board.{rows_of, words_of, is_allowed as is_board}
use Rattle.board.specs.declared.rows.Row.{Row}
use Rattle.board.proofs.Theorems.{words_rows}
use Rattle.history.specs.Events.{History, ◌then◌}
use Rattle.history.specs.Steps.{rows_after, after}
use Rattle.line.specs.Read.{read_by, read_of as line_read}
use Rattle.planner.specs.Apply.{line_event, apply_of, board_after}
use Rattle.planner.specs.Asked.{asked_of}
use Rattle.planner.specs.Run.{OfCalls}
use Rattle.planner.specs.Run as planner
use Rattle.planner.proofs.Theorems as planned
use Rattle.cutter.specs.Feed.{Line, Whole, TooLong}
use Rattle.cutter.specs.State.{is_allowed}
use Rattle.cutter.specs.declared.Begun.{Begun}
use Rattle.feeding.specs.Tally.{event_of, rows_by, taken_by}
use Rattle.feeding.specs.Fed.{lines_fed, read_in, fed_with, fed_of, board_fed, held_after, feed_number}
use Rattle.feeding.specs.Run.{history_from, Run, fresh, applied, struck, refused, fed}
use Rattle.feeding.proofs.Theorems.{feed_refused}
use Rattle.feeding.specs.declared.NotFed.{NotFed}

-- every line that a feed has is some line for `apply`: an overlong one is to the board as one of no bytes, which has no reading either
record Told (x : Line) : Type 0 where
  bytes : List ℕ
  event : event_of x ≡ line_event bytes

told : (x : Line) → Told x
unfolding event_of line_event asked_of line_read read_by
told (Whole s) = record { bytes = s; event = refl }
told TooLong = record { bytes = []; event = refl }

-- one line more, by `apply`
module _ (h : History) (l : List ℕ) (p : planner.Run h l) (x : Line) where
  abbrev next : List ℕ
  next = board_after l (told x).bytes

  one_more : planner.Run (h then event_of x) next
  one_more = rw (told x).event (planner.applied {r = apply_of l (told x).bytes} (told x).bytes p (refl, refl))

  next_rows : rows_of next ≡ rows_after (rows_of l) (event_of x)
  unfolding after
  next_rows = (planned.run_rows one_more).1 ∙ ap (λ (rs : List Row). rows_after rs (event_of x)) (sym (planned.run_rows p).1)

-- the lines of a call, one after the other
lines_run : (h : History) (l : List ℕ) (ls : List Line) → planner.Run h l → planner.Run (history_from h ls) (words_of (rows_by (rows_of l) ls))
unfolding history_from rows_by
lines_run h l [] p = rw (words_rows l (planned.run_rows p).0) p
lines_run h l (x ∷ ls) p = rw (← (next_rows h l p x)) (lines_run (h then event_of x) (next h l p x) ls (one_more h l p x))

-- a call that is answered 0 found board and state allowed
module _ (l held : List ℕ) (begun : Begun) (most : ℕ) (part : List ℕ) (e : feed_number (fed_of l held begun most part).answer ≡ 0) where
  was_ready : (is_board l && is_allowed held begun) ≡ true
  unfolding fed_of
  was_ready = go (is_board l && is_allowed held begun) refl
    where
      go : (b : Bool) → (is_board l && is_allowed held begun) ≡ b → (is_board l && is_allowed held begun) ≡ true
      go true q = q
      go false q = let z : ◌≡◌ {A = ℕ} 13 0 = rw q at e in absurd (omega arith)

  fed_words : board_fed l held begun most part ≡ words_of (rows_by (rows_of l) (lines_fed held begun (read_in most part)))
  unfolding board_fed
  fed_words = rw was_ready

  pub fed_taken : (fed_of l held begun most part).taken ≡ taken_by (rows_of l) (lines_fed held begun (read_in most part))
  unfolding fed_of fed_with
  fed_taken = rw was_ready

-- ANY SUCH CALLS lead where calls of `apply` and `strike` alone do, with the same history
pub as_applied : {h : History} {l : List ℕ} → Run h l → planner.Run h l
as_applied (fresh n e) = planner.fresh n e
as_applied (applied {r = r} s p c) = planner.applied {r = r} s (as_applied p) c
as_applied (struck {r = r} s p c) = planner.struck {r = r} s (as_applied p) c
as_applied (refused {l = l} {l' = l'} {r = r} held held' begun most part p c e) = rw (feed_refused l held begun most part r l' held' c e).0 (as_applied p)
as_applied (fed {h = h} {l = l} held held' begun most part p c e) =
    rw (c.words, fed_words l held begun most part (rw (← c.result) e)) (lines_run h l (lines_fed held begun (read_in most part)) (as_applied p))

-- DEMAND 3 OF EVERY BOARD THAT ANY SUCH CALLS HAVE LED TO: it shows what the history says, and so does the answer to the next line or strike
pub all_calls : (h : History) (l : List ℕ) → Run h l → OfCalls h l
all_calls h l p = planned.calls h l (as_applied p)

-- EVERY PART can be such a step, with any buffer and state of the cutter and any limit
pub any_feed : {h : History} {l : List ℕ} → Run h l → (held : List ℕ) (begun : Begun) (most : ℕ) (part : List ℕ) → (h' : History) × Run h' (board_fed l held begun most part)
any_feed {h} {l} p held begun most part = go (fed_of l held begun most part).answer refl
  where
    go : (a : Result (Unit {0}) NotFed) → (fed_of l held begun most part).answer ≡ a → (h' : History) × Run h' (board_fed l held begun most part)
    go (Ok tt) q =
        (history_from h (lines_fed held begun (read_in most part)), fed {r = fed_of l held begun most part} held (held_after l held begun most part) begun most part p (record { result = refl; words = refl; buffer = refl }) (ap feed_number q))
    go (Err _) q =
        (h, refused {r = fed_of l held begun most part} held (held_after l held begun most part) begun most part p (record { result = refl; words = refl; buffer = refl }) (ap feed_number q))
