-- Demand 3 in the customer's words, on the history alone: no row stands here but those of what a line writes.
-- Assumes nothing.
use Rattle.std.specs.Prelude.{ℕ, ◌<◌, ◌↔◌, ◌⊎◌, ◌≡◌, length}
use mathlib.Core.List.{List, [], ◌∷◌, Memᴰ}
use Rattle.board.specs.declared.rows.Arrival.{Arrival}
use Rattle.board.specs.declared.rows.Track.{Track}
use Rattle.history.specs.Events.{Event, dz, az, tz, other, unread, strike, misnamed, History, ◌then◌}

-- ---- lines and strikes

-- e is a readable DZ or AZ for flight k, and a is its arrival entry
pub data DzAz (k : ℕ) (a : Arrival) : Event → Type 0 where
  a_dz : DzAz k a (dz k a)
  an_az : DzAz k a (az k a)

-- e is a readable DZ for k
pub data Dz (k : ℕ) : Event → Type 0 where
  the_dz : {a : Arrival} → Dz k (dz k a)

-- e is a readable TZ for k, and t is its track
pub data Tz (k : ℕ) (t : Track) : Event → Type 0 where
  the_tz : Tz k t (tz k t)

-- e is a readable DZ, AZ or TZ for k
pub data For (k : ℕ) : Event → Type 0 where
  for_dz : {a : Arrival} → For k (dz k a)
  for_az : {a : Arrival} → For k (az k a)
  for_tz : {t : Track} → For k (tz k t)

-- e strikes k off
pub data StrikeOf (k : ℕ) : Event → Type 0 where
  the_strike : StrikeOf k (strike k)

-- e is about flight k
abbrev pub About : ℕ → Event → Type 0
About k e = For k e ⊎ StrikeOf k e

-- e is a readable line
pub data Readable : Event → Type 0 where
  read_dz : {k : ℕ} {a : Arrival} → Readable (dz k a)
  read_az : {k : ℕ} {a : Arrival} → Readable (az k a)
  read_tz : {k : ℕ} {t : Track} → Readable (tz k t)
  read_other : Readable other

-- e is a line without a reading, or a strike of what is no key
pub data Senseless : Event → Type 0 where
  no_reading : Senseless unread
  no_key : Senseless misnamed

-- ---- history

-- h begins with g
infix 30 ◌⊑◌
pub data ◌⊑◌ (g : History) : History → Type 0 where
  whole : g ⊑ g
  more : {h : History} {x : Event} → g ⊑ h → g ⊑ h then x

-- in h something of this kind came, and nothing came since that ends it
pub record Stands (Kind : History → Event → Type 0) (Ends : History → Event → Type 0) (h : History) : Type 0 where
  pub before : History
  pub event : Event
  pub came : (before then event) ⊑ h
  pub kind : Kind before event
  pub since : (g : History) (x : Event) → (before then event) ⊑ g → (g then x) ⊑ h → Ends g x → ⊥

-- keys that rise strictly, so that none comes twice
abbrev pub Up : ℕ → List ℕ → Type 0
Up k [] = Unit {0}
Up k (x ∷ xs) = (k < x) × Up x xs

abbrev pub RisingKeys : List ℕ → Type 0
RisingKeys [] = Unit {0}
RisingKeys (x ∷ xs) = Up x xs

-- ---- demand 3, once it is said what was taken: Taken h e, the event e when h had come
module _ (Taken : History → Event → Type 0) where
  abbrev pub Struck : ℕ → History → Event → Type 0
  Struck k g x = StrikeOf k x

  abbrev pub TakenFor : ℕ → History → Event → Type 0
  TakenFor k g x = For k x × Taken g x

  abbrev pub TakenArrival : ℕ → Arrival → History → Event → Type 0
  TakenArrival k a g x = DzAz k a x × Taken g x

  abbrev pub TakenTrack : ℕ → Track → History → Event → Type 0
  TakenTrack k t g x = Tz k t x × Taken g x

  abbrev pub TakenDz : ℕ → History → Event → Type 0
  TakenDz k g x = Dz k x × Taken g x

  -- "a DZ, AZ or TZ for it was taken since it was last struck off"
  abbrev pub Listed : ℕ → History → Type 0
  Listed k h = Stands (TakenFor k) (Struck k) h

  -- a is "that of the latest such DZ or AZ"
  abbrev pub ArrivalOf : ℕ → Arrival → History → Type 0
  ArrivalOf k a h = Stands (TakenArrival k a) (λ g x. Struck k g x ⊎ ((b : Arrival) × TakenArrival k b g x)) h

  -- t is "that of the latest such TZ", and no such DZ came after it
  abbrev pub TrackOf : ℕ → Track → History → Type 0
  TrackOf k t h = Stands (TakenTrack k t) (λ g x. Struck k g x ⊎ ((u : Track) × TakenTrack k u g x) ⊎ TakenDz k g x) h

  -- n flights are listed: these are their keys
  pub record Count (n : ℕ) (h : History) : Type 0 where
    pub keys : List ℕ
    pub rising : RisingKeys keys
    pub all : (k : ℕ) → Memᴰ k keys ↔ Listed k h
    pub many : length keys ≡ n

  -- e is "a readable DZ, AZ or TZ of a flight not listed while 256 others are"
  pub record MeetsFull (h : History) (e : Event) : Type 0 where
    pub key : ℕ
    pub kind : For key e
    pub unlisted : Listed key h → ⊥
    pub full : Count 256 h

  -- what Taken means: of lines, "read and not refused for a full board"; of strikes, that the flight was listed
  pub record Meaning : Type 0 where
    pub lines : (h : History) (e : Event) → Readable e → Taken h e ↔ (MeetsFull h e → ⊥)
    pub strikes : (h : History) (k : ℕ) → Taken h (strike k) ↔ Listed k h
    pub senseless : (h : History) (e : Event) → Senseless e → Taken h e → ⊥
