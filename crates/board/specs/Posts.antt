-- What `write` and `strike` leave, in named parts: the answer, document 01's number for it, the words, and that they are still a board. Assumes
-- nothing.
use Rattle.std.specs.Prelude.{◌≡◌, true, cond, List, ℕ, Result}
use Rattle.board.specs.Rows.{key_of, written, fits, struck, is_listed}
use Rattle.board.specs.declared.rows.Row.{Row}
use Rattle.board.specs.Board.{rows_of, words_of, is_allowed, done_of, gone_of, done_number, struck_number}
use Rattle.board.specs.declared.Full.{Full}
use Rattle.board.specs.declared.NotListed.{NotListed}

pub record Wrote (l : List ℕ) (r : Row) (d : Result (Unit {0}) Full) (l' : List ℕ) : Type 0 where
  pub done : d ≡ done_of (fits (rows_of l) (key_of r))
  pub number : done_number d ≡ cond (fits (rows_of l) (key_of r)) 0 12
  pub words : l' ≡ words_of (written (rows_of l) r)
  pub still : is_allowed l' ≡ true

pub record Stricken (l : List ℕ) (k : ℕ) (d : Result (Unit {0}) NotListed) (l' : List ℕ) : Type 0 where
  pub done : d ≡ gone_of (is_listed (rows_of l) k)
  pub number : struck_number d ≡ cond (is_listed (rows_of l) k) 0 14
  pub words : l' ≡ words_of (struck (rows_of l) k)
  pub still : is_allowed l' ≡ true
