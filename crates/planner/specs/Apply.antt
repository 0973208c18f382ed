-- A line and a strike on a board (document 01, "Board", "Answer numbers"): the line's own answer, "then 13, then 12"; a strike "9 for a key
-- not of that form, place 1, then 13, 14". Assumes nothing.
use Rattle.std.specs.Prelude.{◌≡◌, Bool, true, false, cond, List, ℕ, Err, Ok, Result}
use Rattle.text.specs.Text.{packed}
use Rattle.rules.specs.Kind.{KEY, is_form}
use Rattle.board.specs.Rows.{fits, is_listed}
use Rattle.board.specs.declared.rows.Row.{Row}
use Rattle.board.specs.Board.{rows_of, words_of, is_allowed}
use Rattle.history.specs.Events.{Event, dz, az, tz, other, unread, strike, misnamed}
use Rattle.history.specs.Steps.{rows_after}
use Rattle.line.specs.Read.{refusal_number, refusal_place}
use Rattle.line.specs.declared.Refusal.{Refusal}
use Rattle.planner.specs.Asked.{asked_of}
use Rattle.planner.specs.declared.asks.Asked.{Asked}
use Rattle.planner.specs.declared.asks.Asked.TheVariants as asked
use Rattle.planner.specs.declared.NotStruck.TheVariants as struck
use Rattle.planner.specs.declared.NotTaken.TheVariants as line
use Rattle.board.specs.declared.Full.{Full as BoardFull}
use Rattle.planner.specs.declared.NotStruck.{NotStruck}
use Rattle.planner.specs.declared.NotTaken.{NotTaken}

-- ---- a line and a strike as the board sees them

abbrev pub event_of : Result Asked Refusal → Event
event_of (Ok (asked.Dz k a)) = dz k.0 a
event_of (Ok (asked.Az k a)) = az k.0 a
event_of (Ok (asked.Tz k t)) = tz k.0 t
event_of (Ok asked.Other) = other
event_of (Err x) = unread

unfoldable pub line_event : List ℕ → Event
line_event s = event_of (asked_of s)

unfoldable pub strike_event : List ℕ → Event
strike_event s = cond (is_form KEY s) (strike (packed s)) misnamed

-- the line is a DZ, AZ or TZ of the flight k
abbrev pub KeyIsAsked : Result Asked Refusal → ℕ → Type 0
KeyIsAsked (Ok (asked.Dz k' a)) k = k'.0 ≡ k
KeyIsAsked (Ok (asked.Az k' a)) k = k'.0 ≡ k
KeyIsAsked (Ok (asked.Tz k' t)) k = k'.0 ≡ k
KeyIsAsked (Ok asked.Other) k = ⊥
KeyIsAsked (Err x) k = ⊥

-- ---- a line on an allowed board

abbrev pub told_of : Result (Unit {0}) BoardFull → Result (Unit {0}) NotTaken
told_of (Ok tt) = Ok tt
told_of (Err _) = Err line.Full

abbrev pub room : Bool → Result (Unit {0}) NotTaken
room true = Ok tt
room false = Err line.Full

abbrev pub answer_to : List Row → Result Asked Refusal → Result (Unit {0}) NotTaken
answer_to rs (Ok (asked.Dz k a)) = room (fits rs k.0)
answer_to rs (Ok (asked.Az k a)) = room (fits rs k.0)
answer_to rs (Ok (asked.Tz k t)) = room (fits rs k.0)
answer_to rs (Ok asked.Other) = Ok tt
answer_to rs (Err x) = Err (line.Line x)

pub record Entered (l : List ℕ) (a : Result Asked Refusal) (r : Result (Unit {0}) NotTaken) (l' : List ℕ) : Type 0 where
  pub answered : r ≡ answer_to (rows_of l) a
  pub words : l' ≡ words_of (rows_after (rows_of l) (event_of a))
  pub still : is_allowed l' ≡ true

-- ---- a line on any words

abbrev pub apply_by : List ℕ → Result Asked Refusal → Result (Unit {0}) NotTaken
apply_by l (Err x) = Err (line.Line x)
apply_by l (Ok a) = cond (is_allowed l) (answer_to (rows_of l) (Ok a)) (Err line.NotAllowed)

unfoldable pub apply_of : List ℕ → List ℕ → Result (Unit {0}) NotTaken
apply_of l s = apply_by l (asked_of s)

unfoldable pub board_after : List ℕ → List ℕ → List ℕ
board_after l s = cond (is_allowed l) (words_of (rows_after (rows_of l) (line_event s))) l

-- ---- a strike on any words

unfoldable pub strike_of : List ℕ → List ℕ → Result (Unit {0}) NotStruck
strike_of l s =
    cond (is_form KEY s) (cond (is_allowed l) (cond (is_listed (rows_of l) (packed s)) (Ok tt) (Err struck.NotListed)) (Err struck.NotAllowed)) (Err struck.NoKey)

unfoldable pub board_struck : List ℕ → List ℕ → List ℕ
board_struck l s = cond (is_allowed l) (words_of (rows_after (rows_of l) (strike_event s))) l

-- ---- the answer numbers, and the place; 0 where there is none

abbrev pub apply_number : Result (Unit {0}) NotTaken → ℕ
apply_number (Ok tt) = 0
apply_number (Err (line.Line x)) = refusal_number x
apply_number (Err line.NotAllowed) = 13
apply_number (Err line.Full) = 12

abbrev pub apply_place : Result (Unit {0}) NotTaken → ℕ
apply_place (Ok tt) = 0
apply_place (Err (line.Line x)) = refusal_place x
apply_place (Err line.NotAllowed) = 0
apply_place (Err line.Full) = 0

abbrev pub strike_number : Result (Unit {0}) NotStruck → ℕ
strike_number (Ok tt) = 0
strike_number (Err struck.NoKey) = 9
strike_number (Err struck.NotAllowed) = 13
strike_number (Err struck.NotListed) = 14

abbrev pub strike_place : Result (Unit {0}) NotStruck → ℕ
strike_place (Ok tt) = 0
strike_place (Err struck.NoKey) = 1
strike_place (Err struck.NotAllowed) = 0
strike_place (Err struck.NotListed) = 0
