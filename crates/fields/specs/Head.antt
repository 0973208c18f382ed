-- THE HEAD of a line, by the rule (document 01, "The line"; document 02, l): its parts before the type, how long each is, its form, and the number that
-- it is kept as; and where type and body stand. Assumes nothing.
use Rattle.std.specs.Prelude.{ℕ, ◌+◌, Bool, List, [], eqb, length, drop}
use Rattle.text.specs.Place.{value}
use Rattle.text.specs.Text.{packed, text_of}
use Rattle.shapes.specs.Picture.{part}
use Rattle.rules.specs.Form.{is_facility}
use Rattle.rules.specs.Kind.{SEQUENCE, STAMP, OLD_STAMP, LETTER, is_form}
use Rattle.rules.specs.declared.Rule.{Rule}
use Rattle.rules.specs.declared.Rule.TheVariants.{New, Old}
use Rattle.fields.specs.Facility.{facility_text, is_facility_value}
use Rattle.fields.specs.Word.{is_word}

-- a part: its bytes, the number that its text is kept as, the text of a number, and the numbers that some text gives
pub record Part : Type 0 where
  pub size : ℕ
  pub form : List ℕ → Bool
  pub kept : List ℕ → ℕ
  pub shown : ℕ → List ℕ
  pub held : ℕ → Bool

-- n bytes of the kind k, kept as their word
abbrev word : ℕ → ℕ → Part
word n k = record { size = n; form = is_form k; kept = packed; shown = text_of; held = is_word k }

-- what the rule has not
abbrev none : Part
none = record { size = 0; form = λ s. eqb (length s) 0; kept = λ _. 0; shown = λ _. []; held = λ n. eqb n 0 }

-- "four characters 0-9 or A-F: sequence number"; the old feed "lacked: the sequence number"
abbrev pub sequence_in : Rule → Part
sequence_in New = word 4 SEQUENCE
sequence_in Old = none

-- "eight digits DDHHMMSS"; of the old feed "six digits HHMMSS"
abbrev pub stamp_in : Rule → Part
stamp_in New = word 8 STAMP
stamp_in Old = word 6 OLD_STAMP

-- "four characters of facility, right justified"; of the old feed "one capital for the center"
abbrev pub facility_in : Rule → Part
facility_in New = record { size = 4; form = is_facility; kept = value 256 4; shown = facility_text; held = is_facility_value }
facility_in Old = word 1 LETTER

-- ---- where they stand: one after the other, then "two letters of type" and "the body"

abbrev pub stamp_at : Rule → ℕ
stamp_at ρ = (sequence_in ρ).size

abbrev pub facility_at : Rule → ℕ
facility_at ρ = stamp_at ρ + (stamp_in ρ).size

abbrev pub type_at : Rule → ℕ
type_at ρ = facility_at ρ + (facility_in ρ).size

abbrev pub head_length : Rule → ℕ
head_length ρ = type_at ρ + 2

abbrev pub sequence_part : Rule → List ℕ → List ℕ
sequence_part ρ s = part 0 (sequence_in ρ).size s

abbrev pub stamp_part : Rule → List ℕ → List ℕ
stamp_part ρ s = part (stamp_at ρ) (stamp_in ρ).size s

abbrev pub facility_part : Rule → List ℕ → List ℕ
facility_part ρ s = part (facility_at ρ) (facility_in ρ).size s

abbrev pub type_part : Rule → List ℕ → List ℕ
type_part ρ s = part (type_at ρ) 2 s

abbrev pub body_part : Rule → List ℕ → List ℕ
body_part ρ s = drop (head_length ρ) s
