-- The customer's words leave no choice: whatever has the meaning of 'taken' is what is answered 0, and rows that show
-- what a history says are those after it. Assumes nothing.
use Rattle.std.specs.Prelude.{None, Some, Option as Slot}
use Prim.Native.Nat.{ℕ}
use mathlib.Core.Logic.{◌↔◌, ◌⊎◌, inl, inr}
use mathlib.Core.Path.{◌≡◌, refl, sym, ap, ◌∙◌}
use mathlib.Core.Bool.{Bool, true, false, cond}
use mathlib.Core.List.{List, [], ◌∷◌}
use mathlib.Core.Option.{Option, none, some}
use borrow.Author.Tests.{eqb-true}
use lib.Dec.{eqb}
use Rattle.board.specs.Rows.{key_of, lookup, look_row}
use Rattle.board.specs.declared.rows.Row.{Row}
use Rattle.board.specs.declared.rows.Arrival.{Arrival}
use Rattle.board.specs.declared.rows.Track.{Track}
use Rattle.history.specs.Events.{Event, dz, az, tz, other, unread, strike, misnamed, History, start, ◌then◌}
use Rattle.history.specs.Demand.{StrikeOf, TakenArrival, TakenTrack, TakenDz, Readable, read_dz, read_az, read_tz, read_other, no_reading, no_key, ◌⊑◌, whole, more, Stands, Listed, ArrivalOf, TrackOf, MeetsFull, Meaning}
use Rattle.history.specs.Promise.{Shows, Taken}
use Rattle.history.specs.Steps.{after}
use Rattle.history.proofs.Demand.{demand3}
use Rattle.board.proofs.Same.{rows_ext}
use Rattle.history.proofs.Shows.{not_both}
use Rattle.history.proofs.Turns.{clash, look_some}

-- two readings of 'taken' that agree on all that came in h
abbrev Agree : (T S : History → Event → Type 0) → History → Type 0
Agree T S h = (g : History) (x : Event) → (g then x) ⊑ h → T g x ↔ S g x

swap : (T S : History → Event → Type 0) (h : History) → Agree T S h → Agree S T h
swap T S h a g x m = ((a g x m).1, (a g x m).0)

-- what is listed under one is listed under the other
move : (T S : History → Event → Type 0) (h : History) → Agree T S h → (k : ℕ) → Listed T k h → Listed S k h
move T S h a k s = record {
  before = s.before;
  event = s.event;
  came = s.came;
  kind = (s.kind.0, (a s.before s.event s.came).0 s.kind.1);
  since = s.since;
}

full_move : (T S : History → Event → Type 0) (h : History) (e : Event) → Agree T S h → MeetsFull T h e → MeetsFull S h e
full_move T S h e a m = record {
  key = m.key;
  kind = m.kind;
  unlisted = λ l. m.unlisted (move S T h (swap T S h a) m.key l);
  full = record {
    keys = m.full.keys;
    rising = m.full.rising;
    all = λ k. (λ i. move T S h a k ((m.full.all k).0 i), λ l. (m.full.all k).1 (move S T h (swap T S h a) k l));
    many = m.full.many;
  };
}

module _ (T S : History → Event → Type 0) (mt : Meaning T) (ms : Meaning S) where
  line : (h : History) (e : Event) → Agree T S h → Readable e → T h e ↔ S h e
  line h e a r = (
    λ t. (ms.lines h e r).1 (λ m. (mt.lines h e r).0 t (full_move S T h e (swap T S h a) m)),
    λ s. (mt.lines h e r).1 (λ m. (ms.lines h e r).0 s (full_move T S h e a m)),
  )

  step : (h : History) (e : Event) → Agree T S h → T h e ↔ S h e
  step h (dz k b) a = line h (dz k b) a read_dz
  step h (az k b) a = line h (az k b) a read_az
  step h (tz k b) a = line h (tz k b) a read_tz
  step h other a = line h other a read_other
  step h unread a = (λ t. absurd (mt.senseless h unread no_reading t), λ s. absurd (ms.senseless h unread no_reading s))
  step h misnamed a = (λ t. absurd (mt.senseless h misnamed no_key t), λ s. absurd (ms.senseless h misnamed no_key s))
  step h (strike k) a = (
    λ t. (ms.strikes h k).1 (move T S h a k ((mt.strikes h k).0 t)),
    λ s. (mt.strikes h k).1 (move S T h (swap T S h a) k ((ms.strikes h k).0 s)),
  )

  agree : (h : History) → Agree T S h
  agree start g x m = elim m [ ]
  agree (h then e) g x m = go m (agree h)
    where
      go : {g : History} {x : Event} → (g then x) ⊑ (h then e) → Agree T S h → T g x ↔ S g x
      go whole a = step h e a
      go (more n) a = a _ _ n

pub only_taken : (T : History → Event → Type 0) → Meaning T → (h : History) (e : Event) → T h e ↔ Taken h e
only_taken T m h e = step T Taken m demand3.taken h e (agree T Taken m demand3.taken h)

-- ---- rows that show the same are the same

key_shown : (k : ℕ) (rs : List Row) (r : Row) → lookup k rs ≡ some r → key_of r ≡ k
key_shown k [] r e = clash (cc)
key_shown k (x ∷ xs) r e = go (eqb (key_of x) k) refl e (key_shown k xs r)
  where
    go : (b : Bool) → eqb (key_of x) k ≡ b → cond b (some x) (lookup k xs) ≡ some r → (lookup k xs ≡ some r → key_of r ≡ k) → key_of r ≡ k
    go true t q ih = let s : x ≡ r = cc in ap key_of (sym s) ∙ eqb-true (key_of x) k t
    go false t q ih = ih q

same_arrival : (s t : Slot Arrival) → ((a : Arrival) → s ≡ Some a → t ≡ Some a) → ((a : Arrival) → t ≡ Some a → s ≡ Some a) → s ≡ t
same_arrival None None f g = refl
same_arrival None (Some a) f g = g a refl
same_arrival (Some a) t f g = sym (f a refl)

same_track : (s t : Slot Track) → ((u : Track) → s ≡ Some u → t ≡ Some u) → ((u : Track) → t ≡ Some u → s ≡ Some u) → s ≡ t
same_track None None f g = refl
same_track None (Some u) f g = g u refl
same_track (Some u) t f g = sym (f u refl)

same_row : (r s : Row) → key_of r ≡ key_of s → r.arrival ≡ s.arrival → r.track ≡ s.track → r ≡ s
same_row r s p q w = λ x. record { key = record { 0 = p x }; arrival = q x; track = w x }

module _ (T : History → Event → Type 0) (h : History) (rs ss : List Row) (a : Shows T rs h) (b : Shows T ss h) where
  shown_same : (k : ℕ) → lookup k rs ≡ lookup k ss
  shown_same k = go (lookup k rs) refl (lookup k ss) refl
    where
      arrivals : (look_row k rs).arrival ≡ (look_row k ss).arrival
      arrivals = same_arrival _ _ (λ c q. (b.the_arrival k c).1 ((a.the_arrival k c).0 q)) (λ c q. (a.the_arrival k c).1 ((b.the_arrival k c).0 q))

      tracks : (look_row k rs).track ≡ (look_row k ss).track
      tracks = same_track _ _ (λ c q. (b.the_track k c).1 ((a.the_track k c).0 q)) (λ c q. (a.the_track k c).1 ((b.the_track k c).0 q))

      go : (o : Option Row) → lookup k rs ≡ o → (p : Option Row) → lookup k ss ≡ p → o ≡ p
      go none q none w = refl
      go none q (some s) w = let m = (a.row k).1 ((b.row k).0 (s, w)) in absurd (not_both _ _ q m.1)
      go (some r) q none w = let m = (b.row k).1 ((a.row k).0 (r, q)) in absurd (not_both _ _ w m.1)
      go (some r) q (some s) w =
          let u = look_some k rs r q in
          let v = look_some k ss s w in
          ap some (same_row r s (key_shown k rs r q ∙ sym (key_shown k ss s w))
          (ap (λ (x : Row). x.arrival) (sym u) ∙ arrivals ∙ ap (λ (x : Row). x.arrival) v)
          (ap (λ (x : Row). x.track) (sym u) ∙ tracks ∙ ap (λ (x : Row). x.track) v))

  pub shows_one : rs ≡ ss
  shows_one = rows_ext rs ss a.rising b.rising shown_same

-- ---- and they are the same under whatever has the meaning of 'taken'

-- what stands in h, where kinds go over and what ends comes back
stands_move : {K E K' E' : History → Event → Type 0} {h : History} → ((g : History) (x : Event) → K g x → K' g x)
    → ((g : History) (x : Event) → E' g x → E g x) → Stands K E h → Stands K' E' h
stands_move f b s = record {
  before = s.before;
  event = s.event;
  came = s.came;
  kind = f s.before s.event s.kind;
  since = λ g x p q e. s.since g x p q (b g x e);
}

module _ (T S : History → Event → Type 0) (f : (g : History) (x : Event) → T g x → S g x) (b : (g : History) (x : Event) → S g x → T g x) (h : History) (k : ℕ) where
  listed_move : Listed T k h → Listed S k h
  listed_move = stands_move (λ g x p. (p.0, f g x p.1)) (λ g x s. s)

  arrival_move : (a : Arrival) → ArrivalOf T k a h → ArrivalOf S k a h
  arrival_move a = stands_move (λ g x p. (p.0, f g x p.1)) ends
    where
      ends : (g : History) (x : Event) → StrikeOf k x ⊎ ((c : Arrival) × TakenArrival S k c g x) → StrikeOf k x ⊎ ((c : Arrival) × TakenArrival T k c g x)
      ends g x (inl s) = inl s
      ends g x (inr d) = inr (d.0, (d.1.0, b g x d.1.1))

  track_move : (t : Track) → TrackOf T k t h → TrackOf S k t h
  track_move t = stands_move (λ g x p. (p.0, f g x p.1)) ends
    where
      ends : (g : History) (x : Event) → StrikeOf k x ⊎ ((u : Track) × TakenTrack S k u g x) ⊎ TakenDz S k g x
          → StrikeOf k x ⊎ ((u : Track) × TakenTrack T k u g x) ⊎ TakenDz T k g x
      ends g x (inl s) = inl s
      ends g x (inr (inl d)) = inr (inl (d.0, (d.1.0, b g x d.1.1)))
      ends g x (inr (inr d)) = inr (inr (d.0, b g x d.1))

shows_move : (T S : History → Event → Type 0) → ((g : History) (x : Event) → T g x → S g x) → ((g : History) (x : Event) → S g x → T g x)
    → (h : History) (rs : List Row) → Shows T rs h → Shows S rs h
shows_move T S f b h rs s = record {
  listed = λ k. (λ q. listed_move T S f b h k ((s.listed k).0 q), λ l. (s.listed k).1 (listed_move S T b f h k l));
  row = λ k. (λ q. listed_move T S f b h k ((s.row k).0 q), λ l. (s.row k).1 (listed_move S T b f h k l));
  the_arrival = λ k a. (λ q. arrival_move T S f b h k a ((s.the_arrival k a).0 q), λ l. (s.the_arrival k a).1 (arrival_move S T b f h k a l));
  no_arrival = λ k. (λ q a l. (s.no_arrival k).0 q a (arrival_move S T b f h k a l), λ n. (s.no_arrival k).1 (λ a l. n a (arrival_move T S f b h k a l)));
  the_track = λ k t. (λ q. track_move T S f b h k t ((s.the_track k t).0 q), λ l. (s.the_track k t).1 (track_move S T b f h k t l));
  no_track = λ k. (λ q t l. (s.no_track k).0 q t (track_move S T b f h k t l), λ n. (s.no_track k).1 (λ t l. n t (track_move T S f b h k t l)));
  rising = s.rising;
  room = s.room;
}

-- rows that show what the history says are those after it
pub only_rows : (T : History → Event → Type 0) → Meaning T → (h : History) (rs : List Row) → Shows T rs h → rs ≡ after h
only_rows T m h rs s =
    let w = shows_move T Taken (λ g x. (only_taken T m g x).0) (λ g x. (only_taken T m g x).1) h rs s in
    shows_one Taken h rs (after h) w (demand3.shows h)
