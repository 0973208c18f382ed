-- THE LAW of `slips`: the line of an allowed row is the line of its words in their order, each the number of a text. Assumes nothing.
use Rattle.std.specs.Prelude.{None, Option, Some}
use mathlib.Core.Path.{◌≡◌, refl, sym, ap, ◌∙◌}
use mathlib.Core.Bool.{true}
use mathlib.Core.List.{List, [], ◌∷◌, ◌++◌, map, map-append}
use Prim.Native.Nat.{ℕ, ◌+◌, ◌≤◌}
use native.Mathlib.Omega.{arith}
use lib.ListN.{length, get_or, take, drop, length-drop}
use lib.Seq.{get_or-take, get_or-drop}
use Rattle.text.specs.Class.{all}
use Rattle.text.specs.Place.{tight}
use Rattle.text.specs.Text.{text_of, is_packed}
use Rattle.text.proofs.Logic.{and_four}
use Rattle.rules.specs.Kind.{STAMP, KEY, POINT, ARRIVAL, GROUND_SPEED, TRACK_LEVEL, POSITION}
use Rattle.fields.specs.Word.{is_word}
use Rattle.fields.proofs.WordLaws.{word_packed}
use Rattle.board.specs.Row.{is_arrival, is_track, has_entry, is_row, arrival_words, track_words, row_words, row_of, is_row_words}
use Rattle.board.specs.declared.rows.Arrival.{Arrival}
use Rattle.board.specs.declared.rows.Track.{Track}
use Rattle.board.specs.declared.rows.Row.{Row}
use Rattle.board.proofs.RowWords.{some_word, words_row}
use Rattle.printer.specs.RowText.{hyphen, arrival_parts, track_parts, row_text}
use Rattle.printer.specs.Parts.{part_text, parts_of, slip_text, SlipWords}

-- ---- what an allowed row is, in parts

pub record Arrives (a : Arrival) : Type 0 where
  pub departure : is_word POINT a.departure.0 ≡ true
  pub destination : is_word POINT a.destination.0 ≡ true
  pub clock : is_word ARRIVAL a.clock.0 ≡ true

pub record Tracks (t : Track) : Type 0 where
  pub stamp : is_word STAMP t.stamp.0 ≡ true
  pub speed : is_word GROUND_SPEED t.speed.0 ≡ true
  pub level : is_word TRACK_LEVEL t.level.0 ≡ true
  pub position : is_word POSITION t.position.0 ≡ true

pub arrives : (a : Arrival) → is_arrival (Some a) ≡ true → Arrives a
unfolding is_arrival
arrives a e =
    let f = and_four (is_word POINT a.departure.0) (is_word POINT a.destination.0) (is_word ARRIVAL a.clock.0) (is_word STAMP a.stamp.0) e in
    record { departure = f.0; destination = f.1; clock = f.2 }

pub tracks : (t : Track) → is_track (Some t) ≡ true → Tracks t
unfolding is_track
tracks t e =
    let f = and_four (is_word GROUND_SPEED t.speed.0) (is_word TRACK_LEVEL t.level.0) (is_word POSITION t.position.0) (is_word STAMP t.stamp.0) e in
    record { stamp = f.3; speed = f.0; level = f.1; position = f.2 }

pub record Allowed (r : Row) : Type 0 where
  pub key : is_word KEY r.key.0 ≡ true
  pub arrival : is_arrival r.arrival ≡ true
  pub track : is_track r.track ≡ true

pub allowed : (r : Row) → is_row r ≡ true → Allowed r
unfolding is_row
allowed r e =
    let f = and_four (is_word KEY r.key.0) (is_arrival r.arrival) (is_track r.track) (has_entry r.arrival r.track) e in
    record { key = f.0; arrival = f.1; track = f.2 }

-- ---- the words of a row in the order of its line

arrival_order : Option Arrival → List ℕ
arrival_order None = 0 ∷ 0 ∷ 0 ∷ []
arrival_order (Some a) = a.departure.0 ∷ a.destination.0 ∷ a.clock.0 ∷ []

track_order : Option Track → List ℕ
track_order None = 0 ∷ 0 ∷ 0 ∷ 0 ∷ []
track_order (Some t) = t.stamp.0 ∷ t.speed.0 ∷ t.level.0 ∷ t.position.0 ∷ []

order : Row → List ℕ
order r = r.key.0 ∷ (arrival_order r.arrival ++ track_order r.track)

row_order : (r : Row) → parts_of (row_words r) ≡ order r
unfolding parts_of row_words arrival_words track_words order arrival_order track_order
row_order r = go r.arrival r.track
  where
    go : (a : Option Arrival) (t : Option Track) → parts_of (r.key.0 ∷ (arrival_words a ++ (track_words t ++ 0 ∷ 0 ∷ []))) ≡ r.key.0 ∷ (arrival_order a ++ track_order t)
    go None None = refl
    go None (Some t) = refl
    go (Some a) None = refl
    go (Some a) (Some t) = refl

parts_take : (w : List ℕ) → parts_of (take 11 w) ≡ parts_of w
unfolding parts_of
parts_take w =
    rw (
      get_or-take 11 w 0 0 (omega arith),
      get_or-take 11 w 1 0 (omega arith),
      get_or-take 11 w 2 0 (omega arith),
      get_or-take 11 w 3 0 (omega arith),
      get_or-take 11 w 8 0 (omega arith),
      get_or-take 11 w 5 0 (omega arith),
      get_or-take 11 w 6 0 (omega arith),
      get_or-take 11 w 7 0 (omega arith),
    )

-- ---- each word's part

pub word_part : (k w : ℕ) → is_word k w ≡ true → part_text w ≡ text_of w
unfolding part_text
word_part k w e = rw (some_word k w e)

zero_part : part_text 0 ≡ hyphen
unfolding part_text
zero_part = refl

zero_packed : is_packed 0 ≡ true
unfolding is_packed tight
zero_packed = refl

arrival_parts_lem : (a : Option Arrival) → is_arrival a ≡ true → map part_text (arrival_order a) ≡ arrival_parts a
unfolding arrival_order
arrival_parts_lem None e = rw zero_part
arrival_parts_lem (Some a) e =
    let p = arrives a e in
    rw (word_part POINT a.departure.0 p.departure, word_part POINT a.destination.0 p.destination, word_part ARRIVAL a.clock.0 p.clock)

track_parts_lem : (t : Option Track) → is_track t ≡ true → map part_text (track_order t) ≡ track_parts t
unfolding track_order
track_parts_lem None e = rw zero_part
track_parts_lem (Some t) e =
    let p = tracks t e in
    rw (
      word_part STAMP t.stamp.0 p.stamp,
      word_part GROUND_SPEED t.speed.0 p.speed,
      word_part TRACK_LEVEL t.level.0 p.level,
      word_part POSITION t.position.0 p.position,
    )

arrival_packed : (a : Option Arrival) (ws : List ℕ) → is_arrival a ≡ true → all is_packed ws ≡ true → all is_packed (arrival_order a ++ ws) ≡ true
unfolding arrival_order all
arrival_packed None ws e h = rw (zero_packed, h)
arrival_packed (Some a) ws e h =
    let p = arrives a e in
    rw (word_packed POINT a.departure.0 p.departure, word_packed POINT a.destination.0 p.destination, word_packed ARRIVAL a.clock.0 p.clock, h)

track_packed : (t : Option Track) → is_track t ≡ true → all is_packed (track_order t) ≡ true
unfolding track_order all
track_packed None e = rw zero_packed
track_packed (Some t) e =
    let p = tracks t e in
    rw (
      word_packed STAMP t.stamp.0 p.stamp,
      word_packed GROUND_SPEED t.speed.0 p.speed,
      word_packed TRACK_LEVEL t.level.0 p.level,
      word_packed POSITION t.position.0 p.position,
    )

-- ---- a row

module _ (r : Row) (p : Allowed r) where
  order_text : slip_text (order r) ≡ row_text r
  unfolding slip_text row_text order
  order_text =
      rw (
        word_part KEY r.key.0 p.key,
        map-append part_text (arrival_order r.arrival) (track_order r.track),
        arrival_parts_lem r.arrival p.arrival,
        track_parts_lem r.track p.track,
      )

  order_packed : all is_packed (order r) ≡ true
  unfolding order all
  order_packed = rw (word_packed KEY r.key.0 p.key) (arrival_packed r.arrival (track_order r.track) p.arrival (track_packed r.track p.track))

-- the words of an allowed row
module _ (w : List ℕ) (h : 11 ≤ length w) (e : is_row_words w ≡ true) where
  parts_order : parts_of w ≡ order (row_of w)
  parts_order = sym (parts_take w) ∙ ap parts_of (sym (words_row w h e).0) ∙ row_order (row_of w)

  pub row_slip : slip_text (parts_of w) ≡ row_text (row_of w)
  row_slip = ap slip_text parts_order ∙ order_text (row_of w) (allowed (row_of w) (words_row w h e).1)

  pub row_counted : SlipWords (parts_of w)
  unfolding parts_of
  row_counted = record { count = refl; good = ap (all is_packed) parts_order ∙ order_packed (row_of w) (allowed (row_of w) (words_row w h e).1) }

-- ---- where they stand among the words of the board

pub parts_there : (w : List ℕ) (p : ℕ)
    → get_or w p 0 ∷ get_or w (p + 1) 0 ∷ get_or w (p + 2) 0 ∷ get_or w (p + 3) 0 ∷ get_or w (p + 8) 0 ∷ get_or w (p + 5) 0 ∷ get_or w (p + 6) 0 ∷ get_or w (p + 7) 0 ∷ []
    ≡ parts_of (drop p w)
unfolding parts_of
parts_there w p =
    let z : p + 0 ≡ p = omega arith in
    rw (
      get_or-drop p w 0 0,
      z,
      get_or-drop p w 1 0,
      get_or-drop p w 2 0,
      get_or-drop p w 3 0,
      get_or-drop p w 8 0,
      get_or-drop p w 5 0,
      get_or-drop p w 6 0,
      get_or-drop p w 7 0,
    )

-- the words that `parts` gives of an allowed row
module _ (l : List ℕ) (p : ℕ) (h : p + 11 ≤ length l) (e : is_row_words (drop p l) ≡ true) {ws : List ℕ} (is : ws ≡ parts_of (drop p l)) where
  eleven : 11 ≤ length (drop p l)
  eleven = rw length-drop (omega arith)

  pub counted_there : SlipWords ws
  counted_there = rw is (row_counted (drop p l) eleven e)

  pub slip_there : slip_text ws ≡ row_text (row_of (drop p l))
  slip_there = ap slip_text is ∙ row_slip (drop p l) eleven e

  pub room_there : {n : ℕ} → length (row_text (row_of (drop p l))) ≤ n → length (slip_text ws) ≤ n
  room_there room = rw slip_there room
