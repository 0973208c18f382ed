-- A whole part of a feed through cutter and planner: what `feed` answers, the counts, the board and the cutter's state after it.
-- Assumes nothing.
use Rattle.std.specs.Prelude.{ℕ, ◌≡◌, Bool, cond, ◌&&◌, List, [], ◌∷◌, take, Err, Ok, Result}
use Rattle.shapes.specs.Pieces.{pieces}
use Rattle.board.specs.Board.{rows_of, words_of, is_allowed as is_board}
use Rattle.rules.specs.Frame.{line_feed}
use Rattle.cutter.specs.Feed.{Line}
use Rattle.cutter.specs.State.{state_in, is_allowed, more_in, held_more}
use Rattle.cutter.specs.Calls.{start, held_closed}
use Rattle.cutter.specs.Told.{told}
use Rattle.cutter.specs.declared.Begun.{Begun}
use Rattle.feeding.specs.Tally.{rows_by, taken_by, line_feeds, read_of}
use Rattle.feeding.specs.declared.AfterFeed.{AfterFeed}
use Rattle.feeding.specs.declared.NotFed.{NotFed}

-- ---- the cutter's state after the pieces of a text: each but the last ends a line

unfoldable pub held_fed : List ℕ → Begun → List (List ℕ) → List ℕ
held_fed held begun [] = held
held_fed held begun (p ∷ []) = held_more held begun p
held_fed held begun (p ∷ (q ∷ ps)) = held_fed (held_closed held begun p) start (q ∷ ps)

unfoldable pub begun_fed : List ℕ → Begun → List (List ℕ) → Begun
begun_fed held begun [] = begun
begun_fed held begun (p ∷ []) = more_in held begun p
begun_fed held begun (p ∷ (q ∷ ps)) = begun_fed (held_closed held begun p) start (q ∷ ps)

-- ---- a part s of which all is read

-- the lines that end in s
abbrev pub lines_fed : List ℕ → Begun → List ℕ → List Line
lines_fed held begun s = told (state_in held begun) (pieces line_feed s)

-- ---- `feed`: 13 for a board or a cutter state that is not allowed; else the part is read, at most so many lines of it

abbrev pub is_ready : List ℕ → List ℕ → Begun → Bool
is_ready board held begun = is_board board && is_allowed held begun

-- what is read of the part
abbrev pub read_in : ℕ → List ℕ → List ℕ
read_in most part = take (read_of most part) part

unfoldable pub fed_with : List ℕ → List ℕ → Begun → ℕ → List ℕ → AfterFeed
fed_with board held begun most part =
    record {
      answer = Ok tt;
      used = read_of most part;
      begun = begun_fed held begun (pieces line_feed (read_in most part));
      lines = line_feeds (read_in most part);
      taken = taken_by (rows_of board) (lines_fed held begun (read_in most part));
    }

-- nothing is read, and the state is handed back
abbrev pub refused_with : Begun → AfterFeed
refused_with begun = record { answer = Err (record {}); used = 0; begun = begun; lines = 0; taken = 0 }

unfoldable pub fed_of : List ℕ → List ℕ → Begun → ℕ → List ℕ → AfterFeed
fed_of board held begun most part = cond (is_ready board held begun) (fed_with board held begun most part) (refused_with begun)

unfoldable pub board_fed : List ℕ → List ℕ → Begun → ℕ → List ℕ → List ℕ
board_fed board held begun most part =
    cond (is_ready board held begun) (words_of (rows_by (rows_of board) (lines_fed held begun (read_in most part)))) board

unfoldable pub held_after : List ℕ → List ℕ → Begun → ℕ → List ℕ → List ℕ
held_after board held begun most part = cond (is_ready board held begun) (held_fed held begun (pieces line_feed (read_in most part))) held

abbrev pub feed_number : Result (Unit {0}) NotFed → ℕ
feed_number (Ok tt) = 0
feed_number (Err _) = 13

-- what `feed` promises of a call: the result, and both buffers as they are left. `proofs/Theorems` shows that this is the promise in the
-- source.
pub record Feeds (board held : List ℕ) (begun : Begun) (most : ℕ) (part : List ℕ) (r : AfterFeed) (board' held' : List ℕ) : Type 0 where
  pub result : r ≡ fed_of board held begun most part
  pub words : board' ≡ board_fed board held begun most part
  pub buffer : held' ≡ held_after board held begun most part
