-- A run of calls of `apply` and `strike` from an empty board, the history that it makes, and what demand 3 says of its board and of
-- the next call. Assumes nothing.
use Rattle.std.specs.Prelude.{ℕ, ◌↔◌, ◌≡◌, true, List, replicate, Result}
use Rattle.board.specs.Rows.{lookup}
use Rattle.board.specs.Board.{rows_of, is_allowed}
use Rattle.history.specs.Events.{History, start, ◌then◌}
use Rattle.history.specs.Demand.{MeetsFull}
use Rattle.history.specs.Promise.{Shows, Taken}
use Rattle.planner.specs.Apply.{line_event, strike_event, apply_of, board_after, strike_of, board_struck, apply_number, strike_number}
use Rattle.planner.specs.declared.NotStruck.{NotStruck}
use Rattle.planner.specs.declared.NotTaken.{NotTaken}

-- what `apply` and `strike` promise of a call: the answer, and the board as it is left. `proofs/Theorems` shows that these are the
-- promises in the source.
abbrev pub Applies : List ℕ → List ℕ → Result (Unit {0}) NotTaken → List ℕ → Type 0
Applies l s r l' = (r ≡ apply_of l s) × (l' ≡ board_after l s)

abbrev pub Strikes : List ℕ → List ℕ → Result (Unit {0}) NotStruck → List ℕ → Type 0
Strikes l s r l' = (r ≡ strike_of l s) × (l' ≡ board_struck l s)

-- "From an empty board, after any run of lines and strikes": any bytes, as lines and as keys
pub data Run : History → List ℕ → Type 0 where
  fresh : (n : ℕ) → n ≡ 2817 → Run start (replicate n 0)
  applied : {h : History} {l l' : List ℕ} {r : (Result (Unit {0}) NotTaken)} (s : List ℕ) → Run h l → Applies l s r l' → Run (h then line_event s) l'
  struck : {h : History} {l l' : List ℕ} {r : (Result (Unit {0}) NotStruck)} (s : List ℕ) → Run h l → Strikes l s r l' → Run (h then strike_event s) l'

-- at most one flight's row is another
abbrev pub AltersOne : List ℕ → List ℕ → Type 0
AltersOne l l' =
    (j k : ℕ) → (lookup j (rows_of l') ≡ lookup j (rows_of l) → ⊥) → (lookup k (rows_of l') ≡ lookup k (rows_of l) → ⊥) → j ≡ k

-- demand 3 of a board that calls have led to
pub record OfCalls (h : History) (l : List ℕ) : Type 0 where
  pub allowed : is_allowed l ≡ true
  -- listed, arrival entry and track of every flight, as the history says
  pub shows : Shows Taken (rows_of l) h
  -- a line is taken, and answered 0, exactly if the history says so; it is answered 12 exactly if it is a readable DZ, AZ or TZ of a
  -- flight not listed while 256 others are
  pub line_taken : (s : List ℕ) (r : Result (Unit {0}) NotTaken) (l' : List ℕ) → Applies l s r l' → (apply_number r ≡ 0) ↔ Taken h (line_event s)
  pub line_full : (s : List ℕ) (r : Result (Unit {0}) NotTaken) (l' : List ℕ) → Applies l s r l' → (apply_number r ≡ 12) ↔ MeetsFull Taken h (line_event s)
  pub strike_taken : (s : List ℕ) (r : Result (Unit {0}) NotStruck) (l' : List ℕ) → Strikes l s r l' → (strike_number r ≡ 0) ↔ Taken h (strike_event s)
  -- one line or strike alters at most one flight
  pub line_one : (s : List ℕ) (r : Result (Unit {0}) NotTaken) (l' : List ℕ) → Applies l s r l' → AltersOne l l'
  pub strike_one : (s : List ℕ) (r : Result (Unit {0}) NotStruck) (l' : List ℕ) → Strikes l s r l' → AltersOne l l'
