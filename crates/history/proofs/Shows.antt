-- After every history each key shows what the customer's words say of its flight: listed or not, its arrival entry, its
-- track. Assumes nothing.
use Rattle.std.specs.Prelude.{None, Some, Option as Slot}
use Prim.Native.Nat.{ℕ}
use mathlib.Core.Logic.{◌↔◌, ◌⊎◌, inl, inr}
use mathlib.Core.Path.{◌≡◌, refl, sym, ap, ◌∙◌}
use mathlib.Core.Bool.{true, false≢true}
use mathlib.Core.Option.{Option, none, some}
use Rattle.board.specs.Rows.{lookup, look_row, is_listed}
use Rattle.board.specs.declared.rows.Row.{Row}
use Rattle.board.specs.declared.rows.Arrival.{Arrival}
use Rattle.board.specs.declared.rows.Track.{Track}
use Rattle.history.specs.Events.{Event, dz, az, tz, other, unread, strike, misnamed, History, ◌then◌}
use Rattle.history.specs.Steps.{after}
use Rattle.history.specs.Demand.{DzAz, a_dz, an_az, Dz, the_dz, Tz, the_tz, For, for_dz, for_az, for_tz, StrikeOf, TakenFor, TakenArrival, TakenTrack, TakenDz, Listed, ArrivalOf, TrackOf}
use Rattle.history.specs.Promise.{Taken}
use Rattle.board.proofs.Places.{shown, listed_shown}
use Rattle.history.proofs.Stands.{Turn, hit, stop, pass, Follows, stands}
use Rattle.history.proofs.Turns.{clash, strike_for, row_by, after_rising, look_some, look_none, look_same, RowTurn, put, gone, kept, turned}

-- ---- kinds of lines, and what a line writes

dzaz_for : {k : ℕ} {a : Arrival} {e : Event} → DzAz k a e → For k e
dzaz_for a_dz = for_dz
dzaz_for an_az = for_az

tz_for : {k : ℕ} {t : Track} {e : Event} → Tz k t e → For k e
tz_for the_tz = for_tz

dz_for : {k : ℕ} {e : Event} → Dz k e → For k e
dz_for the_dz = for_dz

abbrev entry_of : Event → Option Arrival
entry_of (dz k a) = some a
entry_of (az k a) = some a
entry_of (tz k t) = none
entry_of other = none
entry_of unread = none
entry_of (strike k) = none
entry_of misnamed = none

abbrev spot_of : Event → Option Track
spot_of (dz k a) = none
spot_of (az k a) = none
spot_of (tz k t) = some t
spot_of other = none
spot_of unread = none
spot_of (strike k) = none
spot_of misnamed = none

dzaz_entry : {k : ℕ} {a : Arrival} {e : Event} → DzAz k a e → entry_of e ≡ some a
dzaz_entry a_dz = refl
dzaz_entry an_az = refl

tz_spot : {k : ℕ} {t : Track} {e : Event} → Tz k t e → spot_of e ≡ some t
tz_spot the_tz = refl

pub not_both : {A : Type 0} (o : Option A) (a : A) → o ≡ none → o ≡ some a → ⊥
not_both o a p q = clash (cc)

-- ---- what stands in a slot

abbrev entry_in : Slot Arrival → Option Arrival
entry_in None = none
entry_in (Some a) = some a

abbrev spot_in : Slot Track → Option Track
spot_in None = none
spot_in (Some t) = some t

entry_is : (s : Slot Arrival) (a : Arrival) → (s ≡ Some a) ↔ (entry_in s ≡ some a)
entry_is None a = (λ q. cc, λ q. cc)
entry_is (Some b) a = (λ q. cc, λ q. let s : b ≡ a = cc in ap Some s)

spot_is : (s : Slot Track) (t : Track) → (s ≡ Some t) ↔ (spot_in s ≡ some t)
spot_is None t = (λ q. cc, λ q. cc)
spot_is (Some u) t = (λ q. cc, λ q. let s : u ≡ t = cc in ap Some s)

-- a slot is empty exactly if it has none of the entries that it can have
empty_arrival : (P : Arrival → Type 0) (s : Slot Arrival) → ((a : Arrival) → (s ≡ Some a) ↔ P a) → (s ≡ None) ↔ ((a : Arrival) → P a → ⊥)
empty_arrival P None f = (λ q a p. let e = (f a).1 p in clash (cc), λ n. refl)
empty_arrival P (Some b) f = (λ q. clash (cc), λ n. absurd (n b ((f b).0 refl)))

empty_track : (P : Track → Type 0) (s : Slot Track) → ((t : Track) → (s ≡ Some t) ↔ P t) → (s ≡ None) ↔ ((t : Track) → P t → ⊥)
empty_track P None f = (λ q t p. let e = (f t).1 p in clash (cc), λ n. refl)
empty_track P (Some u) f = (λ q. clash (cc), λ n. absurd (n u ((f u).0 refl)))

-- ---- listed

abbrev seen : Option Row → Option (Unit {0})
seen none = none
seen (some r) = some tt

seen_row : (o : Option Row) → ((r : Row) × (o ≡ some r)) ↔ (seen o ≡ some tt)
seen_row none = (λ p. absurd (not_both none p.0 refl p.1), λ q. absurd (not_both none tt refl q))
seen_row (some r) = (λ p. refl, λ q. (r, refl))

row_shown : (o : Option Row) → (shown o ≡ true) ↔ ((r : Row) × (o ≡ some r))
row_shown none = (λ q. absurd (false≢true q), λ p. absurd (not_both none p.0 refl p.1))
row_shown (some r) = (λ q. (r, refl), λ p. refl)

module _ (k : ℕ) where
  abbrev ListedTurn : History → Event → Type 0
  ListedTurn = Turn (λ (u : Unit {0}). TakenFor Taken k) (λ g. StrikeOf k) (λ h. seen (lookup k (after h)))

  listed_turn : (h : History) (e : Event) → ListedTurn h e
  listed_turn h e = go (turned h e k)
    where
      go : RowTurn (after h) (after (h then e)) e k → ListedTurn h e
      go (put f t q) = hit tt (f, t) (ap seen q)
      go (gone s q) = stop (λ u f. strike_for s f.0) s (ap seen q)
      go (kept m n q) = pass (λ u f. m f.0 f.1) n (ap seen q)

  listed_follows : Follows (λ (u : Unit {0}). TakenFor Taken k) (λ g. StrikeOf k) (λ h. seen (lookup k (after h)))
  unfolding after
  listed_follows = record { first = refl; turn = listed_turn; same = λ h e a b p q. refl; again = λ h e a b p n. refl }

  pub row_is : (h : History) → ((r : Row) × (lookup k (after h) ≡ some r)) ↔ Listed Taken k h
  row_is h =
      let s = seen_row (lookup k (after h)) in
      let t = stands (λ (u : Unit {0}). TakenFor Taken k) (λ g. StrikeOf k) (λ h. seen (lookup k (after h))) listed_follows h tt in
      (λ p. t.0 (s.0 p), λ l. s.1 (t.1 l))

  pub listed_is : (h : History) → (is_listed (after h) k ≡ true) ↔ Listed Taken k h
  listed_is h =
      let s = listed_shown k (after h) (after_rising h) in
      let w = row_shown (lookup k (after h)) in
      (λ q. (row_is h).0 (w.0 (sym s ∙ q)), λ l. s ∙ w.1 ((row_is h).1 l))

  pub unlisted_is : (h : History) → (Listed Taken k h → ⊥) → lookup k (after h) ≡ none
  unlisted_is h n = go (lookup k (after h)) refl
    where
      go : (o : Option Row) → lookup k (after h) ≡ o → o ≡ none
      go none q = refl
      go (some r) q = absurd (n ((row_is h).0 (r, q)))

  -- ---- the arrival entry

  abbrev entry_after : History → Option Arrival
  entry_after h = entry_in (look_row k (after h)).arrival

  abbrev ArrivalEnds : History → Event → Type 0
  ArrivalEnds g x = StrikeOf k x ⊎ ((a : Arrival) × TakenArrival Taken k a g x)

  abbrev ArrivalTurn : History → Event → Type 0
  ArrivalTurn = Turn (TakenArrival Taken k) ArrivalEnds entry_after

  abbrev entry_row : Row → Option Arrival
  entry_row r = entry_in r.arrival

  arrival_turn : (h : History) (e : Event) → ArrivalTurn h e
  arrival_turn h e = go (turned h e k)
    where
      by : (x : Event) → For k x → Taken h x → look_row k (after (h then x)) ≡ row_by x (look_row k (after h)) → ArrivalTurn h x
      by x for_dz t q = hit _ (a_dz, t) (ap entry_row q)
      by x for_az t q = hit _ (an_az, t) (ap entry_row q)
      by x for_tz t q = pass (λ a d. not_both _ _ refl (dzaz_entry d.0)) over (ap entry_row q)
        where
          over : ArrivalEnds h x → ⊥
          over (inl s) = strike_for s (for_tz)
          over (inr d) = not_both _ _ refl (dzaz_entry d.1.0)

      go : RowTurn (after h) (after (h then e)) e k → ArrivalTurn h e
      go (put f t q) = by e f t (look_some k _ _ q)
      go (gone s q) = stop (λ a d. strike_for s (dzaz_for d.0)) (inl s) (ap entry_row (look_none k _ q))
      go (kept m n q) = pass (λ a d. m (dzaz_for d.0) d.1) over (ap entry_row (look_same k _ _ q))
        where
          over : ArrivalEnds h e → ⊥
          over (inl s) = n s
          over (inr d) = m (dzaz_for d.1.0) d.1.1

  arrival_follows : Follows (TakenArrival Taken k) ArrivalEnds entry_after
  unfolding after look_row
  arrival_follows = record {
    first = refl;
    turn = arrival_turn;
    same = λ h e a b p q. let u = dzaz_entry p.0 in let v = dzaz_entry q.0 in (cc);
    again = λ h e a b p n. absurd (n (inr (b, p)));
  }

  pub arrival_is : (h : History) (a : Arrival) → ((look_row k (after h)).arrival ≡ Some a) ↔ ArrivalOf Taken k a h
  arrival_is h a =
      let s = entry_is (look_row k (after h)).arrival a in
      let t = stands (TakenArrival Taken k) ArrivalEnds entry_after arrival_follows h a in
      (λ q. t.0 (s.0 q), λ l. s.1 (t.1 l))

  pub arrival_none : (h : History) → ((look_row k (after h)).arrival ≡ None) ↔ ((a : Arrival) → ArrivalOf Taken k a h → ⊥)
  arrival_none h = empty_arrival (λ a. ArrivalOf Taken k a h) (look_row k (after h)).arrival (arrival_is h)

  -- ---- the track

  abbrev spot_after : History → Option Track
  spot_after h = spot_in (look_row k (after h)).track

  abbrev TrackEnds : History → Event → Type 0
  TrackEnds g x = StrikeOf k x ⊎ ((t : Track) × TakenTrack Taken k t g x) ⊎ TakenDz Taken k g x

  abbrev TrackTurn : History → Event → Type 0
  TrackTurn = Turn (TakenTrack Taken k) TrackEnds spot_after

  abbrev spot_row : Row → Option Track
  spot_row r = spot_in r.track

  track_turn : (h : History) (e : Event) → TrackTurn h e
  track_turn h e = go (turned h e k)
    where
      not_az : (a : Arrival) → Dz k (az k a) → ⊥
      not_az a d = elim d [ ]

      by : (x : Event) → For k x → Taken h x → look_row k (after (h then x)) ≡ row_by x (look_row k (after h)) → TrackTurn h x
      by x for_dz t q = stop (λ u d. not_both _ _ refl (tz_spot d.0)) (inr (inr (the_dz, t))) (ap spot_row q)
      by x (for_az {a = a}) t q = pass (λ u d. not_both _ _ refl (tz_spot d.0)) over (ap spot_row q)
        where
          over : TrackEnds h (az k a) → ⊥
          over (inl s) = strike_for s for_az
          over (inr (inl d)) = not_both _ _ refl (tz_spot d.1.0)
          over (inr (inr d)) = not_az a d.0
      by x for_tz t q = hit _ (the_tz, t) (ap spot_row q)

      go : RowTurn (after h) (after (h then e)) e k → TrackTurn h e
      go (put f t q) = by e f t (look_some k _ _ q)
      go (gone s q) = stop (λ a d. strike_for s (tz_for d.0)) (inl s) (ap spot_row (look_none k _ q))
      go (kept m n q) = pass (λ a d. m (tz_for d.0) d.1) over (ap spot_row (look_same k _ _ q))
        where
          over : TrackEnds h e → ⊥
          over (inl s) = n s
          over (inr (inl d)) = m (tz_for d.1.0) d.1.1
          over (inr (inr d)) = m (dz_for d.0) d.1

  track_follows : Follows (TakenTrack Taken k) TrackEnds spot_after
  unfolding after look_row
  track_follows = record {
    first = refl;
    turn = track_turn;
    same = λ h e a b p q. let u = tz_spot p.0 in let v = tz_spot q.0 in (cc);
    again = λ h e a b p n. absurd (n (inr (inl (b, p))));
  }

  pub track_is : (h : History) (t : Track) → ((look_row k (after h)).track ≡ Some t) ↔ TrackOf Taken k t h
  track_is h t =
      let s = spot_is (look_row k (after h)).track t in
      let u = stands (TakenTrack Taken k) TrackEnds spot_after track_follows h t in
      (λ q. u.0 (s.0 q), λ l. s.1 (u.1 l))

  pub track_none : (h : History) → ((look_row k (after h)).track ≡ None) ↔ ((t : Track) → TrackOf Taken k t h → ⊥)
  track_none h = empty_track (λ t. TrackOf Taken k t h) (look_row k (after h)).track (track_is h)
