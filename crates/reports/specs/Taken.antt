-- TAKEN in the customer's words: how many of a feed's lines were taken in the sense of demand 3. Assumes nothing.
use Rattle.std.specs.Prelude.{ℕ, suc, List}
use Rattle.history.specs.Events.{Event, History, start, ◌then◌}
use Rattle.cutter.specs.Feed.{Line}
use Rattle.feeding.specs.Run.{history_from}

-- the history that the lines of a feed make
abbrev pub history_of : List Line → History
history_of ls = history_from start ls

-- n of the events of h were taken, each after those before it, once it is said what was taken
pub data CountTaken (Taken : History → Event → Type 0) : History → ℕ → Type 0 where
  none : CountTaken Taken start 0
  took : {h : History} {e : Event} {n : ℕ} → CountTaken Taken h n → Taken h e → CountTaken Taken (h then e) (suc n)
  refused : {h : History} {e : Event} {n : ℕ} → CountTaken Taken h n → (Taken h e → ⊥) → CountTaken Taken (h then e) n
