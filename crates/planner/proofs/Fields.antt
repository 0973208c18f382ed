-- The fields of a DZ, AZ or TZ that a line can have: each word that the board keeps is of its kind. Assumes nothing.
use mathlib.Core.Path.{◌≡◌, refl}
use mathlib.Core.Bool.{Bool, true, not, ◌&&◌, ◌||◌}
use mathlib.Core.List.{List, [], ◌∷◌}
use Prim.Native.Nat.{ℕ}
use lib.Dec.{eqb}
use Rattle.text.specs.Text.{text_of}
use Rattle.text.proofs.Logic.{and_left}
use Rattle.rules.specs.Form.{is_clock, is_arrival}
use Rattle.rules.specs.Kind.{KEY, NUMBER, POINT, TIME, CLOCK, ARRIVAL, GROUND_SPEED, TRACK_LEVEL, POSITION, is_form}
use Rattle.rules.specs.declared.Rule.TheVariants.{New}
use Rattle.fields.specs.Word.{is_word}
use Rattle.fields.specs.Pair.{is_pair}
use Rattle.fields.proofs.WordLaws.{word_packed, word_form}
use Rattle.fields.specs.Ident.{is_ident_value}
use Rattle.table.specs.Field.{IDENT, TZ_IDENT, AIRCRAFT, ident_in, is_two, plain, is_kind_value, is_value}
use Rattle.table.specs.declared.kinds.Value.{Value}
use Rattle.table.specs.Read.{padded}
use Rattle.table.specs.Table.{count_with}
use Rattle.messages.specs.Body.{value_of_word, value_of_ident, value_of_aircraft, slots, field_count, values_in}
use Rattle.messages.specs.Allowed.{is_whole, is_body}
use Rattle.messages.specs.declared.Az.{Az}
use Rattle.messages.specs.declared.Dz.{Dz}
use Rattle.messages.specs.declared.Tz.{Tz}
use Rattle.messages.specs.declared.Body.TheVariants as body
use Rattle.messages.proofs.InOrder.{First, first, next, word_in, body_values}

-- ---- one value

pair_key : (v : Value) → is_ident_value (ident_in v) ≡ true → is_word KEY v.a ≡ true
unfolding is_pair
pair_key v e = and_left (is_word KEY v.a) (eqb v.b 0 || is_word NUMBER v.b) e

-- an ident, and one with a number
ident_in_lem : (p : ℕ) (r : List ℕ) (v : Value) → is_value IDENT p r v ≡ true → is_ident_value (ident_in v) ≡ true
unfolding is_value is_kind_value plain
ident_in_lem p r v e = and_left (is_ident_value (ident_in v)) (is_two v) e

ident_in_tz : (p : ℕ) (r : List ℕ) (v : Value) → is_value TZ_IDENT p r v ≡ true → is_ident_value (ident_in v) ≡ true
unfolding is_value is_kind_value plain
ident_in_tz p r v e =
    let some = not (eqb v.b 0) in
    and_left (is_ident_value (ident_in v)) some (and_left (is_ident_value (ident_in v) && some) (is_two v) e)

-- "four digits in that range": every clock is also an arrival clock
pub clock_arrival : (t : ℕ) → is_word CLOCK t ≡ true → is_word ARRIVAL t ≡ true
unfolding is_word is_form is_arrival
clock_arrival t e =
    let f : is_clock (text_of t) ≡ true = word_form CLOCK t e in
    rw (word_packed CLOCK t e, f)

-- ---- by type

module _ (m : Dz) (r : List ℕ) (t : Bool) (e : is_body New (body.Dz m) r t ≡ true) where
  values_dz : First IDENT (AIRCRAFT ∷ POINT ∷ TIME ∷ POINT ∷ CLOCK ∷ []) r (value_of_ident m.ident) (value_of_aircraft m.aircraft ∷ value_of_word m.from.0 ∷ value_of_word m.time.0 ∷ value_of_word m.to.0 ∷ value_of_word m.clock.0 ∷ [])
  unfolding values_in field_count count_with slots padded is_whole
  values_dz = first IDENT _ 0 0 r (value_of_ident m.ident) _ (body_values New (body.Dz m) r t refl e)

  pub ident_dz : is_ident_value m.ident ≡ true
  ident_dz = ident_in_lem values_dz.left r (value_of_ident m.ident) values_dz.value

  pub key_dz : is_word KEY m.ident.key.0 ≡ true
  key_dz = pair_key (value_of_ident m.ident) ident_dz

  pub from_dz : is_word POINT m.from.0 ≡ true
  unfolding is_value is_kind_value plain
  from_dz = let f = next (next values_dz) in word_in POINT f.left r (value_of_word m.from.0) refl f.value

  pub to_dz : is_word POINT m.to.0 ≡ true
  unfolding is_value is_kind_value plain
  to_dz = let f = next (next (next (next values_dz))) in word_in POINT f.left r (value_of_word m.to.0) refl f.value

  pub clock_dz : is_word CLOCK m.clock.0 ≡ true
  unfolding is_value is_kind_value plain
  clock_dz = let f = next (next (next (next (next values_dz)))) in word_in CLOCK f.left r (value_of_word m.clock.0) refl f.value

module _ (m : Az) (r : List ℕ) (t : Bool) (e : is_body New (body.Az m) r t ≡ true) where
  values_az : First IDENT (POINT ∷ POINT ∷ ARRIVAL ∷ []) r (value_of_ident m.ident) (value_of_word m.from.0 ∷ value_of_word m.to.0 ∷ value_of_word m.clock.0 ∷ [])
  unfolding values_in field_count count_with slots padded is_whole
  values_az = first IDENT _ 0 0 r (value_of_ident m.ident) _ (body_values New (body.Az m) r t refl e)

  pub ident_az : is_ident_value m.ident ≡ true
  ident_az = ident_in_lem values_az.left r (value_of_ident m.ident) values_az.value

  pub key_az : is_word KEY m.ident.key.0 ≡ true
  key_az = pair_key (value_of_ident m.ident) ident_az

  pub from_az : is_word POINT m.from.0 ≡ true
  unfolding is_value is_kind_value plain
  from_az = let f = next values_az in word_in POINT f.left r (value_of_word m.from.0) refl f.value

  pub to_az : is_word POINT m.to.0 ≡ true
  unfolding is_value is_kind_value plain
  to_az = let f = next (next values_az) in word_in POINT f.left r (value_of_word m.to.0) refl f.value

  pub clock_az : is_word ARRIVAL m.clock.0 ≡ true
  unfolding is_value is_kind_value plain
  clock_az = let f = next (next (next values_az)) in word_in ARRIVAL f.left r (value_of_word m.clock.0) refl f.value

module _ (m : Tz) (r : List ℕ) (t : Bool) (e : is_body New (body.Tz m) r t ≡ true) where
  values_tz : First TZ_IDENT (GROUND_SPEED ∷ TRACK_LEVEL ∷ POSITION ∷ []) r (value_of_ident m.ident) (value_of_word m.speed.0 ∷ value_of_word m.level.0 ∷ value_of_word m.position.0 ∷ [])
  unfolding values_in field_count count_with slots padded is_whole
  values_tz = first TZ_IDENT _ 0 0 r (value_of_ident m.ident) _ (body_values New (body.Tz m) r t refl e)

  pub ident_tz : is_ident_value m.ident ≡ true
  ident_tz = ident_in_tz values_tz.left r (value_of_ident m.ident) values_tz.value

  pub key_tz : is_word KEY m.ident.key.0 ≡ true
  key_tz = pair_key (value_of_ident m.ident) ident_tz

  pub speed_tz : is_word GROUND_SPEED m.speed.0 ≡ true
  unfolding is_value is_kind_value plain
  speed_tz = let f = next values_tz in word_in GROUND_SPEED f.left r (value_of_word m.speed.0) refl f.value

  pub level_tz : is_word TRACK_LEVEL m.level.0 ≡ true
  unfolding is_value is_kind_value plain
  level_tz = let f = next (next values_tz) in word_in TRACK_LEVEL f.left r (value_of_word m.level.0) refl f.value

  pub position_tz : is_word POSITION m.position.0 ≡ true
  unfolding is_value is_kind_value plain
  position_tz = let f = next (next (next values_tz)) in word_in POSITION f.left r (value_of_word m.position.0) refl f.value
