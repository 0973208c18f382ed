-- WHERE the parts of a message stand in its line (document 01, "The line"; document 02, l): sequence number, stamp, facility and type by their bytes,
-- and the named parts of the body by their fields. Assumes nothing.
use Rattle.std.specs.Prelude.{ℕ, ◌≡◌, true, false, List, drop}
use Rattle.text.specs.Text.{text_of}
use Rattle.shapes.specs.Picture.{part}
use Rattle.rules.specs.declared.Rule.TheVariants.{New, Old}
use Rattle.fields.specs.Facility.{facility_text}
use Rattle.fields.specs.MessageType.{type_text}
use Rattle.table.specs.Table.{has_fields}
use Rattle.messages.specs.Body.{type_in}
use Rattle.messages.specs.Named.{named, AreFields}
use Rattle.messages.specs.declared.Message.{Message}
use Rattle.messages.specs.declared.OldMessage.{OldMessage}
use Rattle.line.specs.Read.{free_of}

pub record Placed (s : List ℕ) (m : Message) : Type 0 where
  -- "four characters 0-9 or A-F: sequence number"
  pub sequence : text_of m.sequence.0 ≡ part 0 4 s
  -- "eight digits DDHHMMSS"
  pub stamp : text_of m.stamp.0 ≡ part 4 8 s
  -- "four characters of facility"
  pub facility : facility_text m.facility.0 ≡ part 12 4 s
  -- "two letters of type"
  pub type : type_text (type_in m.body) ≡ part 16 2 s
  -- "the body": its named parts are its fields
  pub fields : has_fields (type_in m.body) ≡ true → AreFields (drop 18 s) (named m.body (free_of New s))
  -- "RT, TO and HB bodies are kept whole"
  pub whole : has_fields (type_in m.body) ≡ false → free_of New s ≡ drop 18 s

-- of the old feed: "a line is six digits HHMMSS, one capital for the center, a type (our seven, no RT, TO or HB), and the body"
pub record OldPlaced (s : List ℕ) (m : OldMessage) : Type 0 where
  pub stamp : text_of m.stamp.0 ≡ part 0 6 s
  pub center : text_of m.center.0 ≡ part 6 1 s
  pub type : type_text (type_in m.body) ≡ part 7 2 s
  pub seven : has_fields (type_in m.body) ≡ true
  pub fields : AreFields (drop 9 s) (named m.body (free_of Old s))
