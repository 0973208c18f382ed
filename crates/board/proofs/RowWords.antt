-- THE LAWS of a row and its words: the words of an allowed row pass the test and give the row back, and eleven words that
-- pass the test are the words of an allowed row. No field's text is held as 0, so that zeros say that an entry is missing.
-- Assumes nothing.
use Rattle.std.specs.Prelude.{None, Option, Some}
use mathlib.Core.Path.{◌≡◌, refl, ap, ◌∙◌}
use mathlib.Core.Bool.{Bool, true, false, not, ◌&&◌}
use mathlib.Core.List.{List, [], ◌∷◌, ◌++◌}
use Prim.Native.Nat.{ℕ, zero, suc, ◌≤◌}
use native.Mathlib.Nat.{le_of_suc-le-suc, not-suc-le-zero}
use native.Mathlib.Omega.{arith}
use lib.Dec.{eqb}
use lib.ListN.{length, get_or, take, length-append}
use borrow.Author.Tests.{ne_eqb, eqb-true}
use Rattle.text.specs.Text.{text_of}
use Rattle.text.proofs.Logic.{and_left, and_right, and_four}
use Rattle.text.proofs.Laws.{text_is, packed_text}
use Rattle.rules.specs.Kind.{STAMP, KEY, POINT, ARRIVAL, GROUND_SPEED, TRACK_LEVEL, POSITION}
use Rattle.fields.specs.Word.{is_word}
use Rattle.fields.proofs.WordLaws.{word_packed, word_some}
use Rattle.fields.proofs.PairLaws.{packed_some}
use Rattle.board.specs.Row.{is_arrival, is_track, has_entry, is_row, arrival_words, track_words, row_words, arrival_of, track_of, row_of, is_arrival_words, is_track_words, is_row_words}
use Rattle.board.specs.declared.rows.Row.{Row}
use Rattle.board.proofs.Stores.{length_arrival, length_track}
use Rattle.board.specs.declared.rows.Arrival.{Arrival}
use Rattle.board.specs.declared.rows.Track.{Track}

pub length-row : (r : Row) → length (row_words r) ≡ 11
unfolding row_words
length-row r =
    omega (arith, length-append (arrival_words r.arrival) (track_words r.track ++ 0 ∷ 0 ∷ []), length-append (track_words r.track) (0 ∷ 0 ∷ []), length_arrival r.arrival, length_track r.track)

-- no word of a kind is 0
pub some_word : (k t : ℕ) → is_word k t ≡ true → eqb t 0 ≡ false
some_word k t e =
    let p = word_packed k t e in
    ne_eqb t 0 (λ z. packed_some (text_of t) (text_is t p) (word_some k t e) (packed_text t p ∙ z))

-- ---- an entry and its four words

departure_some : (a b c d : ℕ) → (is_word POINT a && is_word POINT b && is_word ARRIVAL c && is_word STAMP d) ≡ true → eqb a 0 ≡ false
departure_some a b c d e = some_word POINT a (and_four (is_word POINT a) (is_word POINT b) (is_word ARRIVAL c) (is_word STAMP d) e).0

speed_some : (a b c d : ℕ) → (is_word GROUND_SPEED a && is_word TRACK_LEVEL b && is_word POSITION c && is_word STAMP d) ≡ true → eqb a 0 ≡ false
speed_some a b c d e = some_word GROUND_SPEED a (and_four (is_word GROUND_SPEED a) (is_word TRACK_LEVEL b) (is_word POSITION c) (is_word STAMP d) e).0

abbrev cell : List ℕ → ℕ → ℕ
cell w i = get_or w i 0

module _ (a : Option Arrival) where
  abbrev arrived : ℕ → ℕ
  arrived i = cell (arrival_words a) i

module _ (t : Option Track) where
  abbrev tracked : ℕ → ℕ
  tracked i = cell (track_words t) i

arrival_back : (a : Option Arrival) → is_arrival a ≡ true → arrival_of (arrived a 0) (arrived a 1) (arrived a 2) (arrived a 3) ≡ a
unfolding arrival_of arrival_words is_arrival
arrival_back None e = refl
arrival_back (Some a) e = rw (departure_some a.departure.0 a.destination.0 a.clock.0 a.stamp.0 e)

arrival_words_lem : (a : Option Arrival) → is_arrival a ≡ true → is_arrival_words (arrived a 0) (arrived a 1) (arrived a 2) (arrived a 3) ≡ true
unfolding is_arrival_words arrival_words is_arrival
arrival_words_lem None e = refl
arrival_words_lem (Some a) e = rw (departure_some a.departure.0 a.destination.0 a.clock.0 a.stamp.0 e) e

track_back : (t : Option Track) → is_track t ≡ true → track_of (tracked t 0) (tracked t 1) (tracked t 2) (tracked t 3) ≡ t
unfolding track_of track_words is_track
track_back None e = refl
track_back (Some t) e = rw (speed_some t.speed.0 t.level.0 t.position.0 t.stamp.0 e)

track_words_lem : (t : Option Track) → is_track t ≡ true → is_track_words (tracked t 0) (tracked t 1) (tracked t 2) (tracked t 3) ≡ true
unfolding is_track_words track_words is_track
track_words_lem None e = refl
track_words_lem (Some t) e = rw (speed_some t.speed.0 t.level.0 t.position.0 t.stamp.0 e) e

entry_words : (a : Option Arrival) (t : Option Track) → is_arrival a ≡ true → is_track t ≡ true → not (eqb (arrived a 0) 0 && eqb (tracked t 0) 0) ≡ has_entry a t
unfolding has_entry arrival_words track_words is_arrival is_track
entry_words None None e f = refl
entry_words None (Some t) e f = rw (speed_some t.speed.0 t.level.0 t.position.0 t.stamp.0 f)
entry_words (Some a) t e f = rw (departure_some a.departure.0 a.destination.0 a.clock.0 a.stamp.0 e)

-- ---- a row's words, read

module _ (k : ℕ) (rest : List ℕ) where
  abbrev told : Option Arrival → Option Track → List ℕ
  told a t = k ∷ (arrival_words a ++ (track_words t ++ 0 ∷ 0 ∷ [])) ++ rest

  row_cells : (a : Option Arrival) (t : Option Track)
      → row_of (told a t) ≡ record {
        key = record { 0 = k };
        arrival = arrival_of (arrived a 0) (arrived a 1) (arrived a 2) (arrived a 3);
        track = track_of (tracked t 0) (tracked t 1) (tracked t 2) (tracked t 3);
      }
  unfolding row_of arrival_words track_words
  row_cells None None = refl
  row_cells None (Some t) = refl
  row_cells (Some a) None = refl
  row_cells (Some a) (Some t) = refl

  test_cells : (a : Option Arrival) (t : Option Track)
      → is_row_words (told a t) ≡ (is_word KEY k && is_arrival_words (arrived a 0) (arrived a 1) (arrived a 2) (arrived a 3)
      && is_track_words (tracked t 0) (tracked t 1) (tracked t 2) (tracked t 3) && not (eqb (arrived a 0) 0 && eqb (tracked t 0) 0) && true && true)
  unfolding is_row_words arrival_words track_words
  test_cells None None = refl
  test_cells None (Some t) = refl
  test_cells (Some a) None = refl
  test_cells (Some a) (Some t) = refl

parts : (r : Row) → is_row r ≡ true → (is_word KEY r.key.0 ≡ true) × (is_arrival r.arrival ≡ true) × (is_track r.track ≡ true) × (has_entry r.arrival r.track ≡ true)
unfolding is_row
parts r e = and_four (is_word KEY r.key.0) (is_arrival r.arrival) (is_track r.track) (has_entry r.arrival r.track) e

pub row_key : (r : Row) → is_row r ≡ true → is_word KEY r.key.0 ≡ true
row_key r e = (parts r e).0

-- the words of a row give the row back
pub row_back : (r : Row) (rest : List ℕ) → is_row r ≡ true → row_of (row_words r ++ rest) ≡ r
unfolding row_words
row_back r rest e =
    let p = parts r e in
    row_cells r.key.0 rest r.arrival r.track
    ∙ (λ x. record { key = r.key; arrival = arrival_back r.arrival p.1 x; track = track_back r.track p.2 x })

-- and pass the test
pub row_words_lem : (r : Row) (rest : List ℕ) → is_row r ≡ true → is_row_words (row_words r ++ rest) ≡ true
unfolding row_words
row_words_lem r rest e =
    let p = parts r e in
    test_cells r.key.0 rest r.arrival r.track
    ∙ rw (p.0, arrival_words_lem r.arrival p.1, track_words_lem r.track p.2, entry_words r.arrival r.track p.1 p.2, p.3)

-- ---- words that pass the test

zeros : (b c d : ℕ) → (eqb b 0 && eqb c 0 && eqb d 0) ≡ true → (b ≡ 0) × (c ≡ 0) × (d ≡ 0)
zeros b c d e =
    let f = and_left (eqb b 0 && eqb c 0) (eqb d 0) e in (
      eqb-true b 0 (and_left (eqb b 0) (eqb c 0) f),
      eqb-true c 0 (and_right (eqb b 0) (eqb c 0) f),
      eqb-true d 0 (and_right (eqb b 0 && eqb c 0) (eqb d 0) e),
    )

module _ (a b c d : ℕ) where
  words_arrival : is_arrival_words a b c d ≡ true → (arrival_words (arrival_of a b c d) ≡ a ∷ b ∷ c ∷ d ∷ []) × (is_arrival (arrival_of a b c d) ≡ true)
  unfolding is_arrival_words arrival_of arrival_words is_arrival
  words_arrival e = go (eqb a 0) refl
    where
      go : (z : Bool) → eqb a 0 ≡ z → (arrival_words (arrival_of a b c d) ≡ a ∷ b ∷ c ∷ d ∷ []) × (is_arrival (arrival_of a b c d) ≡ true)
      go true q =
          let n = zeros b c d (rw q at e) in
          (rw (q, eqb-true a 0 q, n.0, n.1, n.2), rw q)
      go false q = (rw q, rw q (rw q at e))

  words_track : is_track_words a b c d ≡ true → (track_words (track_of a b c d) ≡ a ∷ b ∷ c ∷ d ∷ []) × (is_track (track_of a b c d) ≡ true)
  unfolding is_track_words track_of track_words is_track
  words_track e = go (eqb a 0) refl
    where
      go : (z : Bool) → eqb a 0 ≡ z → (track_words (track_of a b c d) ≡ a ∷ b ∷ c ∷ d ∷ []) × (is_track (track_of a b c d) ≡ true)
      go true q =
          let n = zeros b c d (rw q at e) in
          (rw (q, eqb-true a 0 q, n.0, n.1, n.2), rw q)
      go false q = (rw q, rw q (rw q at e))

  words_entry : (e f g h : ℕ) → has_entry (arrival_of a b c d) (track_of e f g h) ≡ not (eqb a 0 && eqb e 0)
  unfolding arrival_of track_of has_entry
  words_entry e f g h = go (eqb a 0) refl (eqb e 0) refl
    where
      go : (x : Bool) → eqb a 0 ≡ x → (y : Bool) → eqb e 0 ≡ y → has_entry (arrival_of a b c d) (track_of e f g h) ≡ not (eqb a 0 && eqb e 0)
      go true p true q = rw (p, q)
      go true p false q = rw (p, q)
      go false p y q = rw p

-- the first n words, one by one
tab : ℕ → (ℕ → ℕ) → List ℕ
tab zero f = []
tab (suc n) f = f 0 ∷ tab n (λ i. f (suc i))

tab_take : (n : ℕ) (w : List ℕ) → n ≤ length w → tab n (cell w) ≡ take n w
unfolding tab
tab_take zero w h = refl
tab_take (suc n) [] h = absurd (not-suc-le-zero h)
tab_take (suc n) (x ∷ w) h = ap (λ (z : List ℕ). x ∷ z) (tab_take n w (le_of_suc-le-suc h))

six : (a b c d e f : Bool) → (a && b && c && d && e && f) ≡ true → (a ≡ true) × (b ≡ true) × (c ≡ true) × (d ≡ true) × (e ≡ true) × (f ≡ true)
six a b c d e f h =
    let g = and_left (a && b && c && d && e) f h in
    let p = and_four a b c d (and_left (a && b && c && d) e g) in
    (p.0, p.1, p.2, p.3, and_right (a && b && c && d) e g, and_right (a && b && c && d && e) f h)

-- eleven words that pass are the words of their row, and it is allowed
pub words_row : (w : List ℕ) → 11 ≤ length w → is_row_words w ≡ true → (row_words (row_of w) ≡ take 11 w) × (is_row (row_of w) ≡ true)
unfolding is_row_words row_words row_of is_row tab
words_row w h e =
    let p =
    six (is_word KEY (cell w 0)) (is_arrival_words (cell w 1) (cell w 2) (cell w 3) (cell w 4)) (is_track_words (cell w 5) (cell w 6) (cell w 7) (cell w 8))
    (not (eqb (cell w 1) 0 && eqb (cell w 5) 0)) (eqb (cell w 9) 0) (eqb (cell w 10) 0) e in
    let eleven : cell w 0 ∷ cell w 1 ∷ cell w 2 ∷ cell w 3 ∷ cell w 4 ∷ cell w 5 ∷ cell w 6 ∷ cell w 7 ∷ cell w 8 ∷ cell w 9 ∷ cell w 10 ∷ [] ≡ take 11 w =
    tab_take 11 w h in
    let a = words_arrival (cell w 1) (cell w 2) (cell w 3) (cell w 4) p.1 in
    let t = words_track (cell w 5) (cell w 6) (cell w 7) (cell w 8) p.2 in (
      rw (a.0, t.0) (rw (eqb-true (cell w 9) 0 p.4, eqb-true (cell w 10) 0 p.5) at eleven),
      rw (p.0, a.1, t.1, words_entry (cell w 1) (cell w 2) (cell w 3) (cell w 4) (cell w 5) (cell w 6) (cell w 7) (cell w 8)) p.3,
    )
