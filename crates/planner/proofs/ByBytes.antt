-- THE LAWS of what a line is to the board: a DZ, AZ or TZ of a flight, with the entry that its fields give, exactly if its bytes say so; and
-- nothing to it exactly if it is unread or of another type. Assumes nothing.
use Rattle.std.specs.Prelude.{Err, None, Ok, Result, Some}
use mathlib.Core.Logic.{◌↔◌}
use mathlib.Core.Path.{◌≡◌, refl, sym, ap, ap₂, ◌∙◌, subst}
use mathlib.Core.Bool.{Bool, true, false, not, ◌&&◌}
use mathlib.Core.List.{List}
use Prim.Native.Nat.{ℕ, ◌+◌, ◌*◌}
use Prim.Native.Char.{code}
use native.Mathlib.Omega.{arith}
use lib.Dec.{eqb}
use borrow.Author.Tests.{eq-eqb}
use lib.ListN.{get_or, drop}
use Rattle.text.specs.Bytes.{bytes}
use Rattle.text.specs.Text.{packed, text_of}
use Rattle.text.proofs.Logic.{true_false}
use Rattle.text.proofs.Laws.{packed_text}
use Rattle.shapes.specs.Cut.{before}
use Rattle.shapes.specs.Picture.{part}
use Rattle.rules.specs.Form.{is_ident}
use Rattle.rules.specs.Kind.{STAMP, POINT, CLOCK, ARRIVAL, GROUND_SPEED, TRACK_LEVEL, POSITION}
use Rattle.rules.specs.declared.Rule.TheVariants.{New}
use Rattle.fields.specs.Word.{is_word}
use Rattle.fields.specs.Ident.{ident_from, ident_of, ident_text, is_ident_value}
use Rattle.fields.specs.MessageType.{type_text}
use Rattle.fields.specs.declared.idents.Ident.{Ident}
use Rattle.fields.proofs.WordLaws.{word_packed}
use Rattle.fields.proofs.IdentLaws.{ident_complete}
use Rattle.table.specs.Table.{has_fields}
use Rattle.messages.specs.Body.{type_in}
use Rattle.messages.specs.Allowed.{is_body}
use Rattle.messages.specs.Named.{named, AreFields}
use Rattle.messages.specs.Reading.{reading_of}
use Rattle.messages.specs.declared.Message.{Message}
use Rattle.messages.specs.declared.Body.{Body}
use Rattle.messages.specs.declared.Body.TheVariants as body
use Rattle.line.specs.Read.{read_of, free_of, line_number}
use Rattle.line.specs.Placed.{Placed}
use Rattle.line.proofs.Steps.{Allows, allowed_allows}
use Rattle.line.proofs.Lines.{refusal_numbers}
use Rattle.line.proofs.Theorems.{reads_allowed}
use Rattle.line.proofs.Placed.{reads_placed}
use Rattle.board.specs.declared.rows.Arrival.{Arrival}
use Rattle.board.specs.declared.rows.Track.{Track}
use Rattle.board.specs.Board.{rows_of, words_of, is_allowed}
use Rattle.history.specs.Steps.{rows_after}
use Rattle.history.specs.Events.{Event, dz, az, tz, other, unread, strike, misnamed}
use Rattle.planner.specs.Asked.{asked_in, asked_by, asked_from, asked_of}
use Rattle.planner.specs.Apply.{event_of, line_event, board_after}
use Rattle.planner.specs.ByBytes.{DzOf, AzOf, TzOf, OtherOf}
use Rattle.planner.proofs.apply.Reads as apply
use Rattle.planner.proofs.Theorems.{apply_promise}
use Rattle.planner.proofs.Fields.{ident_dz, from_dz, to_dz, clock_dz, ident_az, from_az, to_az, clock_az, ident_tz, speed_tz, level_tz, position_tz}
use Rattle.line.specs.declared.Refusal.{Refusal}

-- ---- a field whose text is known

word_at : (k w : ℕ) {f : List ℕ} → is_word k w ≡ true → f ≡ text_of w → w ≡ packed f
word_at k w e p = sym (ap packed p ∙ packed_text w (word_packed k w e))

key_cut : (i : Ident) → is_ident_value i ≡ true → i.key.0 ≡ packed (before (code "/") (ident_text i))
unfolding ident_of ident_from
key_cut i e = go (is_ident (ident_text i)) refl
  where
    go : (b : Bool) → is_ident (ident_text i) ≡ b → i.key.0 ≡ packed (before (code "/") (ident_text i))
    go true q = let z : Some (ident_from (ident_text i)) ≡ Some i = rw q at (ident_complete i e) in let y : ident_from (ident_text i) ≡ i = cc in sym (ap (λ (j : Ident). j.key.0) y)
    go false q = let z : None ≡ Some i = rw q at (ident_complete i e) in cc

key_at_lem : (i : Ident) {f : List ℕ} → is_ident_value i ≡ true → f ≡ ident_text i → i.key.0 ≡ packed (before (code "/") f)
key_at_lem i e p = key_cut i e ∙ ap (λ (f : List ℕ). packed (before (code "/") f)) (sym p)

-- ---- what each event says of its line

abbrev Known : List ℕ → Event → Type 0
Known s (dz k a) = DzOf s k a
Known s (az k a) = AzOf s k a
Known s (tz k t) = TzOf s k t
Known s other = OtherOf s
Known s unread = line_number (read_of s) ≡ 0 → ⊥
Known s (strike k) = ⊥
Known s misnamed = ⊥

-- two letters as one number
abbrev two : List ℕ → ℕ
two x = get_or x 0 0 * 256 + get_or x 1 0

abbrev elsewhere : List ℕ → Bool
elsewhere x = not (eqb (two x) (two (bytes "DZ"))) && not (eqb (two x) (two (bytes "AZ"))) && not (eqb (two x) (two (bytes "TZ")))

-- the line s reads as the message m
module _ (s : List ℕ) (m : Message) (e : read_of s ≡ Ok m) where
  abbrev p : Placed s m
  p = reads_placed s m e

  abbrev a : Allows New (reading_of m) (free_of New s)
  a = allowed_allows New (reading_of m) (free_of New s) (reads_allowed New s m e).0

  reads_zero : line_number (read_of s) ≡ 0
  reads_zero = ap line_number e

  stamp_at : m.stamp.0 ≡ packed (part 4 8 s)
  stamp_at = word_at STAMP m.stamp.0 a.stamp_held (sym p.stamp)

  module _ (b : Body) (q : m.body ≡ b) where
    type_at : part 16 2 s ≡ type_text (type_in b)
    type_at = subst (λ (b : Body). part 16 2 s ≡ type_text (type_in b)) q (sym p.type)

    fields_at : has_fields (type_in b) ≡ true → AreFields (drop 18 s) (named b (free_of New s))
    fields_at = subst (λ (b : Body). has_fields (type_in b) ≡ true → AreFields (drop 18 s) (named b (free_of New s))) q p.fields

    body_at : is_body New b (free_of New s) m.trailing ≡ true
    body_at = subst (λ (b : Body). is_body New b (free_of New s) m.trailing ≡ true) q a.body

    other_at : elsewhere (type_text (type_in b)) ≡ true → OtherOf s
    other_at t =
        record {
          reads = reads_zero;
          not_dz = λ z. true_false t (ap elsewhere (sym type_at ∙ z));
          not_az = λ z. true_false t (ap elsewhere (sym type_at ∙ z));
          not_tz = λ z. true_false t (ap elsewhere (sym type_at ∙ z));
        }

  -- its named parts are its fields, so its entry is of these
  known_body : (b : Body) → m.body ≡ b → Known s (event_of (Ok (asked_in m.stamp b)))
  unfolding named
  known_body (body.Dz d) q =
      let f = (fields_at (body.Dz d) q refl).stand in
      let g = body_at (body.Dz d) q in
      let r = free_of New s in
      let t = m.trailing in
      record {
        reads = reads_zero;
        type = type_at (body.Dz d) q;
        key = key_at_lem d.ident (ident_dz d r t g) f.0;
        departure = word_at POINT d.from.0 (from_dz d r t g) f.1.1.0;
        destination = word_at POINT d.to.0 (to_dz d r t g) f.1.1.1.1.0;
        clock = word_at CLOCK d.clock.0 (clock_dz d r t g) f.1.1.1.1.1.0;
        stamp = stamp_at;
      }
  known_body (body.Az d) q =
      let f = (fields_at (body.Az d) q refl).stand in
      let g = body_at (body.Az d) q in
      let r = free_of New s in
      let t = m.trailing in
      record {
        reads = reads_zero;
        type = type_at (body.Az d) q;
        key = key_at_lem d.ident (ident_az d r t g) f.0;
        departure = word_at POINT d.from.0 (from_az d r t g) f.1.0;
        destination = word_at POINT d.to.0 (to_az d r t g) f.1.1.0;
        clock = word_at ARRIVAL d.clock.0 (clock_az d r t g) f.1.1.1.0;
        stamp = stamp_at;
      }
  known_body (body.Tz d) q =
      let f = (fields_at (body.Tz d) q refl).stand in
      let g = body_at (body.Tz d) q in
      let r = free_of New s in
      let t = m.trailing in
      record {
        reads = reads_zero;
        type = type_at (body.Tz d) q;
        key = key_at_lem d.ident (ident_tz d r t g) f.0;
        speed = word_at GROUND_SPEED d.speed.0 (speed_tz d r t g) f.1.0;
        level = word_at TRACK_LEVEL d.level.0 (level_tz d r t g) f.1.1.0;
        position = word_at POSITION d.position.0 (position_tz d r t g) f.1.1.1.0;
        stamp = stamp_at;
      }
  known_body (body.Af d) q = other_at (body.Af d) q refl
  known_body (body.Fz d) q = other_at (body.Fz d) q refl
  known_body (body.Rz d) q = other_at (body.Rz d) q refl
  known_body (body.Uz d) q = other_at (body.Uz d) q refl
  known_body body.Rt q = other_at body.Rt q refl
  known_body body.To q = other_at body.To q refl
  known_body body.Hb q = other_at body.Hb q refl

known : (s : List ℕ) → Known s (line_event s)
unfolding line_event asked_of asked_by
known s = go (read_of s) refl
  where
    go : (r : Result Message Refusal) → read_of s ≡ r → Known s (event_of (asked_from r))
    go (Ok m) e = known_body s m e m.body refl
    go (Err x) e = λ z. omega (arith, (refusal_numbers x).0, ap line_number e, z)

-- ---- and no other event says it

letters : {X : Type 0} (x y : List ℕ) {z : List ℕ} → eqb (two x) (two y) ≡ false → z ≡ x → z ≡ y → X
letters x y n p q = true_false (eq-eqb (two x) (two y) (ap two (sym p ∙ q))) n

same_arrival : (a b : Arrival) → a.departure.0 ≡ b.departure.0 → a.destination.0 ≡ b.destination.0 → a.clock.0 ≡ b.clock.0 → a.stamp.0 ≡ b.stamp.0 → a ≡ b
same_arrival a b p q r t = λ i. record { departure = record { 0 = p i }; destination = record { 0 = q i }; clock = record { 0 = r i }; stamp = record { 0 = t i } }

same_track : (a b : Track) → a.speed.0 ≡ b.speed.0 → a.level.0 ≡ b.level.0 → a.position.0 ≡ b.position.0 → a.stamp.0 ≡ b.stamp.0 → a ≡ b
same_track a b p q r t = λ i. record { speed = record { 0 = p i }; level = record { 0 = q i }; position = record { 0 = r i }; stamp = record { 0 = t i } }

dz_only : (s : List ℕ) (k : ℕ) (a : Arrival) (e : Event) → Known s e → DzOf s k a → e ≡ dz k a
dz_only s k a (dz j b) x y =
    ap₂ dz (x.key ∙ sym y.key)
    (same_arrival b a (x.departure ∙ sym y.departure) (x.destination ∙ sym y.destination) (x.clock ∙ sym y.clock) (x.stamp ∙ sym y.stamp))
dz_only s k a (az j b) x y = letters (bytes "AZ") (bytes "DZ") refl x.type y.type
dz_only s k a (tz j b) x y = letters (bytes "TZ") (bytes "DZ") refl x.type y.type
dz_only s k a other x y = absurd (x.not_dz y.type)
dz_only s k a unread x y = absurd (x y.reads)
dz_only s k a (strike j) x y = absurd x
dz_only s k a misnamed x y = absurd x

az_only : (s : List ℕ) (k : ℕ) (a : Arrival) (e : Event) → Known s e → AzOf s k a → e ≡ az k a
az_only s k a (az j b) x y =
    ap₂ az (x.key ∙ sym y.key)
    (same_arrival b a (x.departure ∙ sym y.departure) (x.destination ∙ sym y.destination) (x.clock ∙ sym y.clock) (x.stamp ∙ sym y.stamp))
az_only s k a (dz j b) x y = letters (bytes "DZ") (bytes "AZ") refl x.type y.type
az_only s k a (tz j b) x y = letters (bytes "TZ") (bytes "AZ") refl x.type y.type
az_only s k a other x y = absurd (x.not_az y.type)
az_only s k a unread x y = absurd (x y.reads)
az_only s k a (strike j) x y = absurd x
az_only s k a misnamed x y = absurd x

tz_only : (s : List ℕ) (k : ℕ) (t : Track) (e : Event) → Known s e → TzOf s k t → e ≡ tz k t
tz_only s k t (tz j u) x y =
    ap₂ tz (x.key ∙ sym y.key) (same_track u t (x.speed ∙ sym y.speed) (x.level ∙ sym y.level) (x.position ∙ sym y.position) (x.stamp ∙ sym y.stamp))
tz_only s k t (dz j b) x y = letters (bytes "DZ") (bytes "TZ") refl x.type y.type
tz_only s k t (az j b) x y = letters (bytes "AZ") (bytes "TZ") refl x.type y.type
tz_only s k t other x y = absurd (x.not_tz y.type)
tz_only s k t unread x y = absurd (x y.reads)
tz_only s k t (strike j) x y = absurd x
tz_only s k t misnamed x y = absurd x

other_only : (s : List ℕ) (e : Event) → Known s e → OtherOf s → e ≡ other
other_only s (dz j b) x y = absurd (y.not_dz x.type)
other_only s (az j b) x y = absurd (y.not_az x.type)
other_only s (tz j u) x y = absurd (y.not_tz x.type)
other_only s other x y = refl
other_only s unread x y = absurd (x y.reads)
other_only s (strike j) x y = absurd x
other_only s misnamed x y = absurd x

unread_only : (s : List ℕ) (e : Event) → Known s e → (line_number (read_of s) ≡ 0 → ⊥) → e ≡ unread
unread_only s (dz j b) x y = absurd (y x.reads)
unread_only s (az j b) x y = absurd (y x.reads)
unread_only s (tz j u) x y = absurd (y x.reads)
unread_only s other x y = absurd (y x.reads)
unread_only s unread x y = refl
unread_only s (strike j) x y = absurd x
unread_only s misnamed x y = absurd x

-- ---- THE LAWS

pub dz_exactly : (s : List ℕ) (k : ℕ) (a : Arrival) → (line_event s ≡ dz k a) ↔ DzOf s k a
dz_exactly s k a = (λ e. subst (Known s) e (known s), dz_only s k a (line_event s) (known s))

pub az_exactly : (s : List ℕ) (k : ℕ) (a : Arrival) → (line_event s ≡ az k a) ↔ AzOf s k a
az_exactly s k a = (λ e. subst (Known s) e (known s), az_only s k a (line_event s) (known s))

pub tz_exactly : (s : List ℕ) (k : ℕ) (t : Track) → (line_event s ≡ tz k t) ↔ TzOf s k t
tz_exactly s k t = (λ e. subst (Known s) e (known s), tz_only s k t (line_event s) (known s))

pub other_exactly : (s : List ℕ) → (line_event s ≡ other) ↔ OtherOf s
other_exactly s = (λ e. subst (Known s) e (known s), other_only s (line_event s) (known s))

pub unread_exactly : (s : List ℕ) → (line_event s ≡ unread) ↔ (line_number (read_of s) ≡ 0 → ⊥)
unread_exactly s = (λ e. subst (Known s) e (known s), unread_only s (line_event s) (known s))

-- ---- so a call of `apply` on an allowed board leaves the rows after what its bytes say; `Post` is its `ensures` as it stands in the source

module _ (κs : _) (c : _) (r : _) (s : _) (p : apply.Post κs c r s) (allowed : is_allowed c.0.now ≡ true) where
  apply_as : (e : Event) → line_event c.1.0.now ≡ e → s.0.now ≡ words_of (rows_after (rows_of c.0.now) e)
  unfolding board_after
  apply_as e q = (apply_promise κs c r s p).1 ∙ rw (allowed, q)

  pub apply_dz : (k : ℕ) (a : Arrival) → DzOf c.1.0.now k a → s.0.now ≡ words_of (rows_after (rows_of c.0.now) (dz k a))
  apply_dz k a d = apply_as (dz k a) ((dz_exactly c.1.0.now k a).1 d)

  pub apply_az : (k : ℕ) (a : Arrival) → AzOf c.1.0.now k a → s.0.now ≡ words_of (rows_after (rows_of c.0.now) (az k a))
  apply_az k a d = apply_as (az k a) ((az_exactly c.1.0.now k a).1 d)

  pub apply_tz : (k : ℕ) (t : Track) → TzOf c.1.0.now k t → s.0.now ≡ words_of (rows_after (rows_of c.0.now) (tz k t))
  apply_tz k t d = apply_as (tz k t) ((tz_exactly c.1.0.now k t).1 d)
