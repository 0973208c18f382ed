-- A run of calls of `apply`, `strike` and `feed`, in any order, from an empty board, and the history that it makes. Assumes nothing.
use Rattle.std.specs.Prelude.{ℕ, ◌≡◌, List, [], ◌∷◌, replicate, Result}
use Rattle.history.specs.Events.{History, start, ◌then◌}
use Rattle.planner.specs.Apply.{line_event, strike_event}
use Rattle.planner.specs.Run.{Applies, Strikes}
use Rattle.cutter.specs.Feed.{Line}
use Rattle.cutter.specs.declared.Begun.{Begun}
use Rattle.feeding.specs.Tally.{event_of}
use Rattle.feeding.specs.Fed.{lines_fed, read_in, feed_number, Feeds}
use Rattle.feeding.specs.declared.AfterFeed.{AfterFeed}
use Rattle.planner.specs.declared.NotStruck.{NotStruck}
use Rattle.planner.specs.declared.NotTaken.{NotTaken}

-- the history that lines make, after what had come
unfoldable pub history_from : History → List Line → History
history_from h [] = h
history_from h (l ∷ ls) = history_from (h then event_of l) ls

-- The steps are the promises in the source (`Applies` and `Strikes` of the planner, `Feeds`; `proofs/Theorems` of both): any bytes as line, key and part, any
-- words as the cutter's buffer and state, any limit. A part that is answered 13 brings nothing; else the lines that ended in what was read of it have come, one
-- after the other.
pub data Run : History → List ℕ → Type 0 where
  fresh : (n : ℕ) → n ≡ 2817 → Run start (replicate n 0)
  applied : {h : History} {l l' : List ℕ} {r : (Result (Unit {0}) NotTaken)} (s : List ℕ) → Run h l → Applies l s r l' → Run (h then line_event s) l'
  struck : {h : History} {l l' : List ℕ} {r : (Result (Unit {0}) NotStruck)} (s : List ℕ) → Run h l → Strikes l s r l' → Run (h then strike_event s) l'
  refused : {h : History} {l l' : List ℕ} {r : AfterFeed} (held held' : List ℕ) (begun : Begun) (most : ℕ) (part : List ℕ)
      → Run h l → Feeds l held begun most part r l' held' → feed_number r.answer ≡ 13 → Run h l'
  fed : {h : History} {l l' : List ℕ} {r : AfterFeed} (held held' : List ℕ) (begun : Begun) (most : ℕ) (part : List ℕ)
      → Run h l → Feeds l held begun most part r l' held' → feed_number r.answer ≡ 0 → Run (history_from h (lines_fed held begun (read_in most part))) l'
