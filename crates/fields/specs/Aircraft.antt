-- The aircraft (document 01, "Fields"): "optional prefix and slash; type of 2 to 4 alnum; optional slash and letter".
-- Assumes nothing.
use Rattle.std.specs.Prelude.{ℕ, ◌≡◌, Bool, true, cond, ◌&&◌, ◌||◌, List, [], ◌⊎◌, eqb, length, None, Option, Some}
use Rattle.text.specs.Text.{packed, text_of, slashed, join_of}
use Rattle.shapes.specs.Cut.{has, before, after}
use Rattle.rules.specs.Form.{is_prefix, is_model, is_one_letter}
use Rattle.rules.specs.Kind.{PREFIX, MODEL, LETTER, is_form}
use Rattle.rules.specs.declared.Rule.{Rule}
use Rattle.rules.specs.declared.Rule.TheVariants.{New, Old}
use Rattle.fields.specs.Word.{is_word}
use Rattle.fields.specs.Pair.{slash, pair_of, pair_text, is_pair, pair_word}
use Rattle.fields.specs.declared.aircraft.Aircraft.{Aircraft}

-- ---- the rule

-- "optional prefix and slash" before y, "optional slash and letter" after x; a part that is not there is empty
abbrev pub leading : List ℕ → List ℕ → List ℕ
leading p y = cond (eqb (length p) 0) y (slashed p y)

abbrev pub trailing : List ℕ → List ℕ → List ℕ
trailing x l = cond (eqb (length l) 0) x (slashed x l)

-- the text s is cut into a prefix, a type and a letter; no text is cut so in two different ways (`proofs/Single.one_reading`)
pub record CutInto (s prefix type letter : List ℕ) : Type 0 where
  pub prefixed : (prefix ≡ []) ⊎ (is_prefix prefix ≡ true)
  pub typed : is_model type ≡ true
  pub lettered : (letter ≡ []) ⊎ (is_one_letter letter ≡ true)
  pub text : leading prefix (trailing type letter) ≡ s

-- what may be told of s: its parts where it is cut so, and nothing where no way cuts it
pub data Told (s : List ℕ) : Option Aircraft → Type 0 where
  Parts : (a : Aircraft) → CutInto s (text_of a.prefix) (text_of a.model) (text_of a.letter) → Told s (Some a)
  Uncut : ((prefix type letter : List ℕ) → CutInto s prefix type letter → ⊥) → Told s None

-- ---- the same of the words that are kept; a prefix or a letter of 0 is none

-- the text of an aircraft
unfoldable pub aircraft_text : Aircraft → List ℕ
aircraft_text a = cond (eqb a.prefix 0) (pair_text a.model a.letter) (slashed (text_of a.prefix) (pair_text a.model a.letter))

-- the values that some text gives
unfoldable pub is_aircraft_value : Aircraft → Bool
is_aircraft_value a = is_pair MODEL LETTER a.model a.letter && (eqb a.prefix 0 || is_word PREFIX a.prefix)

-- a is a reading of s
pub record Reading (s : List ℕ) (a : Aircraft) : Type 0 where
  pub value : is_aircraft_value a ≡ true
  pub text : aircraft_text a ≡ s

-- by the rule: the old feed "lacked .. the aircraft's last letter" (document 02, l)
abbrev pub is_letter_by : Rule → ℕ → Bool
is_letter_by New l = true
is_letter_by Old l = eqb l 0

pub record ReadingBy (ρ : Rule) (s : List ℕ) (a : Aircraft) : Type 0 where
  pub reading : Reading s a
  pub letter : is_letter_by ρ a.letter ≡ true

-- the cases of document 01's answer numbers: 0 where a text has one reading, 9 where it has none, and no other
pub data Case (ρ : Rule) (s : List ℕ) : ℕ → Type 0 where
  One : (a : Aircraft) → ReadingBy ρ s a → ((b : Aircraft) → ReadingBy ρ s b → b ≡ a) → Case ρ s 0
  NoOne : ((a : Aircraft) → ReadingBy ρ s a → ⊥) → Case ρ s 9

-- ---- what the reader answers: the reading without a prefix, or else the one with a prefix

abbrev pub with_prefix : ℕ → Option (ℕ × ℕ) → Option Aircraft
with_prefix p (Some (m, l)) = Some (record { prefix = p; model = m; letter = l })
with_prefix p None = None

unfoldable pub plain_of : List ℕ → Option Aircraft
plain_of s = with_prefix 0 (pair_of MODEL LETTER s)

unfoldable pub prefixed_of : List ℕ → Option Aircraft
prefixed_of s = cond (has slash s && is_form PREFIX (before slash s)) (with_prefix (packed (before slash s)) (pair_of MODEL LETTER (after slash s))) None

abbrev pub or_else : Option Aircraft → Option Aircraft → Option Aircraft
or_else (Some a) y = Some a
or_else None y = y

unfoldable pub aircraft_of : List ℕ → Option Aircraft
aircraft_of s = or_else (plain_of s) (prefixed_of s)

-- by the rule: "an aircraft field with a last letter .. has no reading there"
abbrev pub lettered : Rule → Option Aircraft → Option Aircraft
lettered ρ (Some a) = cond (is_letter_by ρ a.letter) (Some a) None
lettered ρ None = None

unfoldable pub aircraft_by : Rule → List ℕ → Option Aircraft
aircraft_by ρ s = lettered ρ (aircraft_of s)

-- document 01's answer number
abbrev pub aircraft_answer : Option Aircraft → ℕ
aircraft_answer (Some a) = 0
aircraft_answer None = 9

-- ---- the word of the whole text

abbrev pub after_prefix : ℕ → Option ℕ → Option ℕ
after_prefix p (Some t) = cond (eqb p 0) (Some t) (join_of p t)
after_prefix p None = None

unfoldable pub aircraft_word : Aircraft → Option ℕ
aircraft_word a = after_prefix a.prefix (pair_word a.model a.letter)
