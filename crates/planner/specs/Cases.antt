-- When each number is answered, and the board that is left, in the sentences of document 01 ("Answer numbers", "Board"). Assumes
-- nothing.
use Rattle.std.specs.Prelude.{◌≡◌, true, false, List, ℕ}
use Rattle.text.specs.Text.{packed}
use Rattle.rules.specs.Kind.{KEY, is_form}
use Rattle.line.specs.Read.{read_of, line_number, line_place}
use Rattle.board.specs.Rows.{fits, struck, is_listed}
use Rattle.board.specs.Board.{rows_of, words_of, is_allowed}
use Rattle.history.specs.Steps.{rows_after}
use Rattle.planner.specs.Asked.{asked_of}
use Rattle.planner.specs.Apply.{line_event, KeyIsAsked}

-- a line s on the board l: its number and place, and the board that is left
pub data ApplyCase (l s : List ℕ) : ℕ → ℕ → List ℕ → Type 0 where
  -- the line's own answer
  Unread : (line_number (read_of s) ≡ 0 → ⊥) → ApplyCase l s (line_number (read_of s)) (line_place (read_of s)) l
  -- "a board .. these rules do not allow"
  NotAllowed : line_number (read_of s) ≡ 0 → is_allowed l ≡ false → ApplyCase l s 13 0 l
  -- "board full": a DZ, AZ or TZ of a flight for which there is no room
  Full : line_number (read_of s) ≡ 0 → is_allowed l ≡ true → (k : ℕ) → KeyIsAsked (asked_of s) k → fits (rows_of l) k ≡ false → ApplyCase l s 12 0 l
  -- taken
  Taken : line_number (read_of s) ≡ 0 → is_allowed l ≡ true → ((k : ℕ) → KeyIsAsked (asked_of s) k → fits (rows_of l) k ≡ true)
      → ApplyCase l s 0 0 (words_of (rows_after (rows_of l) (line_event s)))

-- a strike of the key s on the board l
pub data StrikeCase (l s : List ℕ) : ℕ → ℕ → List ℕ → Type 0 where
  -- "9 for a key not of that form, place 1"
  NoKey : is_form KEY s ≡ false → StrikeCase l s 9 1 l
  StrikeNotAllowed : is_form KEY s ≡ true → is_allowed l ≡ false → StrikeCase l s 13 0 l
  -- "flight not listed"
  NotListed : is_form KEY s ≡ true → is_allowed l ≡ true → is_listed (rows_of l) (packed s) ≡ false → StrikeCase l s 14 0 l
  Struck : is_form KEY s ≡ true → is_allowed l ≡ true → is_listed (rows_of l) (packed s) ≡ true → StrikeCase l s 0 0 (words_of (struck (rows_of l) (packed s)))
