-- When each number is answered by `feed`, and what is then read, counted and left. Assumes nothing.
use Rattle.std.specs.Prelude.{ℕ, ◌<◌, ◌≡◌, true, false, List, [], length}
use Rattle.shapes.specs.Pieces.{pieces, none_has}
use Rattle.board.specs.Board.{rows_of, words_of, is_allowed as is_board}
use Rattle.rules.specs.Frame.{line_feed}
use Rattle.cutter.specs.Feed.{feed_of}
use Rattle.cutter.specs.State.{State, state_in, is_allowed}
use Rattle.cutter.specs.Told.{state_after}
use Rattle.cutter.specs.declared.Begun.{Begun}
use Rattle.feeding.specs.Tally.{rows_by, taken_by, line_feeds}
use Rattle.feeding.specs.Fed.{lines_fed, feed_number}
use Rattle.feeding.specs.declared.AfterFeed.{AfterFeed}

-- a call of `feed`: its number, the bytes used, the lines and the taken lines counted, the board and the state that are left
pub record Outcome : Type 0 where
  pub number : ℕ
  pub used : ℕ
  pub lines : ℕ
  pub taken : ℕ
  pub board : List ℕ
  pub state : State

abbrev pub refusing : List ℕ → List ℕ → Begun → Outcome
refusing board held begun = record { number = 13; used = 0; lines = 0; taken = 0; board = board; state = state_in held begun }

-- the text s is read: the lines that end in it, one after the other
abbrev pub reading : List ℕ → List ℕ → Begun → List ℕ → Outcome
reading board held begun s =
    record {
      number = 0;
      used = length s;
      lines = line_feeds s;
      taken = taken_by (rows_of board) (lines_fed held begun s);
      board = words_of (rows_by (rows_of board) (lines_fed held begun s));
      state = state_after (state_in held begun) (pieces line_feed s);
    }

pub data FeedCase (board held : List ℕ) (begun : Begun) (most : ℕ) (part : List ℕ) : Outcome → Type 0 where
  -- "a board .. these rules do not allow"
  BoardNotAllowed : is_board board ≡ false → FeedCase board held begun most part (refusing board held begun)
  -- "or cutter state"
  StateNotAllowed : is_board board ≡ true → is_allowed held begun ≡ false → FeedCase board held begun most part (refusing board held begun)
  -- fewer lines end in the part than may be read: all of it
  All : is_board board ≡ true → is_allowed held begun ≡ true → line_feeds part < most → FeedCase board held begun most part (reading board held begun part)
  -- as many end in it, or more: these lines, and no byte after the line feed of the last
  Most : is_board board ≡ true → is_allowed held begun ≡ true → (ls : List (List ℕ)) (rest : List ℕ) → none_has line_feed ls ≡ true → length ls ≡ most → part ≡ feed_of ls rest
      → FeedCase board held begun most part (reading board held begun (feed_of ls []))

-- what a call that answered r and left board' and held' came to
abbrev pub outcome_of : AfterFeed → List ℕ → List ℕ → Outcome
outcome_of r board' held' =
    record { number = feed_number r.answer; used = r.used; lines = r.lines; taken = r.taken; board = board'; state = state_in held' r.begun }
