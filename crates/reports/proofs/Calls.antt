-- DEMAND 3 OF THE BOARD THAT IS PRINTED: the calls that read a feed in its parts are a run of calls, and its history is that of the feed's lines. Assumes nothing.
use mathlib.Core.Path.{◌≡◌, refl, sym, ap, ◌∙◌, subst}
use mathlib.Core.List.{List, [], ◌∷◌, ◌++◌}
use Prim.Native.Nat.{ℕ, ◌+◌, ◌-◌}
use Rattle.board.specs.Board.{rows_of}
use Rattle.history.specs.Events.{History, start, ◌then◌}
use Rattle.history.specs.Promise.{Taken}
use Rattle.planner.specs.Run.{OfCalls}
use Rattle.planner.proofs.Theorems.{run_rows}
use Rattle.cutter.specs.Feed.{Line, all_but_last, texts_of, lines_of}
use Rattle.cutter.specs.declared.Begun.{Begun}
use Rattle.shapes.specs.Pieces.{pieces}
use Rattle.feeding.specs.Tally.{event_of, taken_by}
use Rattle.feeding.specs.Fed.{read_in, lines_fed, fed_with, feed_number, Feeds}
use Rattle.feeding.specs.declared.AfterFeed.{AfterFeed}
use Rattle.feeding.specs.Run.{history_from, Run, fresh, fed}
use Rattle.feeding.proofs.Turns.{fed_ready}
use Rattle.feeding.proofs.Runs.{as_applied, all_calls, fed_taken}
use Rattle.reports.specs.Run.{Read, begin, go_on}
use Rattle.reports.specs.Taken.{history_of, CountTaken}
use Rattle.reports.proofs.Taken.{counted_from}
use Rattle.reports.proofs.Joins.{read_empty, read_then}
use Rattle.reports.proofs.Theorems.{read_stands, lines_both}

history_then : (h : History) (ls ms : List Line) → history_from h (ls ++ ms) ≡ history_from (history_from h ls) ms
unfolding history_from
history_then h [] ms = refl
history_then h (l ∷ ls) ms = history_then (h then event_of l) ls ms

pub read_run : (limit : ℕ) {feed board held : List ℕ} {begun : Begun} {lines taken : ℕ} → Read limit feed board held begun lines taken
    → Run (history_of (lines_of (read_in limit feed))) board
unfolding history_from lines_of texts_of all_but_last pieces fed_with
read_run limit (begin n held e f) = rw (read_empty limit) (fresh n e)
read_run limit (go_on {feed} {board} {held} {begun} {lines} {taken} {r} {board'} {held'} part p c) =
    let q = read_stands limit p in
    let b = q.board_allowed in
    let a = q.state_allowed in
    let s = read_in limit feed in
    let n = limit - lines in
    let z : read_in limit (feed ++ part) ≡ s ++ read_in n part = rw q.lines_are (read_then limit feed part) in
    let w : feed_number r.answer ≡ 0 = rw (c.result, fed_ready board held begun b a n part) in
    let k : history_of (lines_of (read_in limit (feed ++ part))) ≡ history_from (history_of (lines_of s)) (lines_fed held begun (read_in n part)) =
    ap (λ (t : List ℕ). history_of (lines_of t)) z ∙ ap history_of (lines_both board held begun b a n part s (read_in n part) refl q.state) ∙ history_then start (lines_of s) (lines_fed held begun (read_in n part)) in
    subst (λ (h : History). Run h board') (sym k) (fed {r = r} held held' begun n part (read_run limit p) c w)

-- so the board that is printed shows of each flight what the lines that were read say of it
pub read_calls : (limit : ℕ) {feed board held : List ℕ} {begun : Begun} {lines taken : ℕ} → Read limit feed board held begun lines taken
    → OfCalls (history_of (lines_of (read_in limit feed))) board
read_calls limit {feed} {board} p = all_calls (history_of (lines_of (read_in limit feed))) board (read_run limit p)

-- AND THE LINES THAT A CALL OF `feed` COUNTS AS TAKEN, after any calls, are those that demand 3 calls taken
pub fed_counted : {h : History} {l : List ℕ} → Run h l → (held held' : List ℕ) (begun : Begun) (most : ℕ) (part : List ℕ) (r : AfterFeed) (l' : List ℕ)
    → Feeds l held begun most part r l' held' → feed_number r.answer ≡ 0
    → (n : ℕ) → CountTaken Taken h n → CountTaken Taken (history_from h (lines_fed held begun (read_in most part))) (n + r.taken)
fed_counted {h} {l} p held held' begun most part r l' c e n k =
    let t : r.taken ≡ taken_by (rows_of l) (lines_fed held begun (read_in most part)) = ap (λ (x : AfterFeed). x.taken) c.result ∙ fed_taken l held begun most part (rw (← c.result) e) in
    rw (t, (run_rows (as_applied p)).1) (counted_from h n (lines_fed held begun (read_in most part)) k)
