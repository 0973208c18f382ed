-- Rows that are allowed stay so: after a row that is allowed is written, and after a strike. Assumes nothing.
use Rattle.std.specs.Prelude.{None, Option, Some}
use mathlib.Core.Path.{◌≡◌, refl}
use mathlib.Core.Bool.{true}
use mathlib.Core.List.{List}
use Rattle.text.proofs.Logic.{and_left, and_right}
use Rattle.rules.specs.Kind.{KEY}
use Rattle.fields.specs.Word.{is_word}
use Rattle.board.specs.Row.{is_arrival, is_track, has_entry, is_row}
use Rattle.board.specs.Rows.{key_of, all_rows, look_row}
use Rattle.board.specs.declared.rows.Row.{Row}
use Rattle.board.specs.declared.rows.Arrival.{Arrival}
use Rattle.board.specs.declared.rows.Track.{Track}
use Rattle.history.specs.Events.{Event, dz, az, tz, other, unread, strike, misnamed, History, start, ◌then◌, is_event, all_events}
use Rattle.history.specs.Steps.{by_dz, by_az, by_tz, rows_after, after}
use Rattle.board.proofs.Kept.{written_allowed, struck_allowed, looked_arrival, looked_track}

-- ---- one event, and a history

is_row_lem : (r : Row) → is_word KEY (key_of r) ≡ true → is_arrival r.arrival ≡ true → is_track r.track ≡ true → has_entry r.arrival r.track ≡ true
    → is_row r ≡ true
unfolding is_row
is_row_lem r k a t e = rw (k, a, t, e) refl

entry_arrival : (a : Arrival) (t : Option Track) → has_entry (Some a) t ≡ true
unfolding has_entry
entry_arrival a t = refl

entry_track : (a : Option Arrival) (t : Track) → has_entry a (Some t) ≡ true
unfolding has_entry
entry_track None t = refl
entry_track (Some a) t = refl

no_track : is_track None ≡ true
unfolding is_track
no_track = refl

pub step_allowed : (rs : List Row) (e : Event) → is_event e ≡ true → all_rows rs ≡ true → all_rows (rows_after rs e) ≡ true
unfolding rows_after
step_allowed rs (dz k a) p q = written_allowed (by_dz k a (look_row k rs)) rs
    (is_row_lem (by_dz k a (look_row k rs)) (and_left _ _ p) (and_right (is_word KEY k) _ p) no_track (entry_arrival a None)) q
step_allowed rs (az k a) p q = written_allowed (by_az k a (look_row k rs)) rs
    (is_row_lem (by_az k a (look_row k rs)) (and_left _ _ p) (and_right (is_word KEY k) _ p) (looked_track k rs q) (entry_arrival a (look_row k rs).track)) q
step_allowed rs (tz k t) p q = written_allowed (by_tz k t (look_row k rs)) rs
    (is_row_lem (by_tz k t (look_row k rs)) (and_left _ _ p) (looked_arrival k rs q) (and_right (is_word KEY k) _ p) (entry_track (look_row k rs).arrival t)) q
step_allowed rs other p q = q
step_allowed rs unread p q = q
step_allowed rs (strike k) p q = struck_allowed k rs q
step_allowed rs misnamed p q = q

pub after_allowed : (h : History) → all_events h ≡ true → all_rows (after h) ≡ true
unfolding after all_rows
after_allowed start p = refl
after_allowed (h then e) p = step_allowed (after h) e (and_right (all_events h) (is_event e) p) (after_allowed h (and_left (all_events h) (is_event e) p))
