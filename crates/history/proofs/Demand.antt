-- Demand 3, over the board's rows: its parts put together, and that one event alters at most one flight.
-- Assumes nothing.
use Prim.Native.Nat.{ℕ}
use native.Mathlib.Omega.{arith}
use mathlib.Core.Path.{◌≡◌, refl}
use mathlib.Core.Option.{Option, none, some}
use Rattle.board.specs.Rows.{lookup}
use Rattle.history.specs.Events.{Event, dz, az, tz, other, unread, strike, misnamed, History, ◌then◌}
use Rattle.history.specs.Steps.{after}
use Rattle.history.specs.Demand.{For, for_dz, for_az, for_tz, StrikeOf, the_strike, About}
use Rattle.history.specs.Promise.{Shows, Taken, Demand3}
use Rattle.history.proofs.Boards.{after_board}
use Rattle.history.proofs.Answers.{full_to, full_from, taken_lines, taken_strikes, taken_senseless, missing_is, refused_is}
use Rattle.history.proofs.Shows.{row_is, listed_is, arrival_is, arrival_none, track_is, track_none}
use Rattle.history.proofs.Turns.{cap_is, after_rising, after_room, apart, RowTurn, put, gone, kept, turned}

-- ---- the flight of an event, of a strike too

abbrev pub flight_of : Event → Option ℕ
flight_of (dz k a) = some k
flight_of (az k a) = some k
flight_of (tz k t) = some k
flight_of other = none
flight_of unread = none
flight_of (strike k) = some k
flight_of misnamed = none

for_one : {k : ℕ} {e : Event} → For k e → flight_of e ≡ some k
for_one for_dz = refl
for_one for_az = refl
for_one for_tz = refl

strike_one : {k : ℕ} {e : Event} → StrikeOf k e → flight_of e ≡ some k
strike_one the_strike = refl

pub alters : (h : History) (e : Event) (k : ℕ) → (lookup k (after (h then e)) ≡ lookup k (after h) → ⊥) → flight_of e ≡ some k
alters h e k n = go (turned h e k)
  where
    go : RowTurn (after h) (after (h then e)) e k → flight_of e ≡ some k
    go (put f t q) = for_one f
    go (gone s q) = strike_one s
    go (kept m i q) = absurd (n q)

pub one_altered : (h : History) (e : Event) (j k : ℕ) → (lookup j (after (h then e)) ≡ lookup j (after h) → ⊥)
    → (lookup k (after (h then e)) ≡ lookup k (after h) → ⊥) → j ≡ k
one_altered h e j k p q = let u = alters h e j p in let v = alters h e k q in (cc)

-- every other flight's row is the same before and after
pub others_stay : (h : History) (e : Event) (k : ℕ) → (About k e → ⊥) → lookup k (after (h then e)) ≡ lookup k (after h)
unfolding after
others_stay h e k n = apart (after h) (after_rising h) e k n

-- ---- the theorem

pub shows_it : (h : History) → Shows Taken (after h) h
shows_it h = record {
  listed = λ k. listed_is k h;
  row = λ k. row_is k h;
  the_arrival = λ k. arrival_is k h;
  no_arrival = λ k. arrival_none k h;
  the_track = λ k. track_is k h;
  no_track = λ k. track_none k h;
  rising = after_rising h;
  room = let cap = cap_is in let room = after_room h in omega arith;
}

pub demand3 : Demand3
demand3 = record {
  taken = record { lines = taken_lines; strikes = taken_strikes; senseless = taken_senseless };
  full = λ h e. (full_to h e, full_from h e);
  missing = missing_is;
  refused = refused_is;
  shows = shows_it;
  one = one_altered;
  others = others_stay;
  allowed = after_board;
}
