-- THE LINE (document 01, "The line", "Fields"; document 02, l): under the rule ρ, the text of what is read, and which readings a line can have. r is
-- the free text that stands beside them: a route, or the body of RT, TO and HB. Assumes nothing.
use Rattle.std.specs.Prelude.{ℕ, Bool, not, ◌&&◌, List, ◌++◌, leb, length}
use Rattle.rules.specs.Frame.{longest_line}
use Rattle.rules.specs.declared.Rule.{Rule}
use Rattle.rules.specs.declared.Rule.TheVariants.{New, Old}
use Rattle.fields.specs.Head.{sequence_in, stamp_in, facility_in}
use Rattle.fields.specs.MessageType.{type_text}
use Rattle.table.specs.Plan.{is_long_plan}
use Rattle.table.specs.Table.{has_type}
use Rattle.messages.specs.Body.{type_in}
use Rattle.messages.specs.Allowed.{body_text, is_body}
use Rattle.messages.specs.Reading.{reading_of, old_reading_of}
use Rattle.messages.specs.declared.Message.{Message}
use Rattle.messages.specs.declared.OldMessage.{OldMessage}
use Rattle.messages.specs.declared.Reading.{Reading}

-- sequence number, stamp, facility, type, and the body
unfoldable pub line_by : Rule → Reading → List ℕ → List ℕ
line_by ρ x r =
    (sequence_in ρ).shown x.sequence ++ ((stamp_in ρ).shown x.stamp ++ ((facility_in ρ).shown x.facility ++ (type_text (type_in x.body) ++ body_text ρ x.body r x.trailing)))

-- sequence number, stamp and facility that some text gives, and a type of the rule
unfoldable pub is_head_by : Rule → Reading → Bool
is_head_by ρ x = (sequence_in ρ).held x.sequence && (stamp_in ρ).held x.stamp && (facility_in ρ).held x.facility && has_type ρ (type_in x.body)

-- "line over 2,048 bytes"; "FZ over 439 bytes"
unfoldable pub has_size_by : Rule → Reading → List ℕ → Bool
has_size_by ρ x r = leb (length (line_by ρ x r)) longest_line && not (is_long_plan ρ (type_in x.body) (length (line_by ρ x r)))

-- the readings that a line can have
unfoldable pub is_allowed_by : Rule → Reading → List ℕ → Bool
is_allowed_by ρ x r = is_head_by ρ x && is_body ρ x.body r x.trailing && has_size_by ρ x r

-- ---- the same of a message, and of a message of the old feed

abbrev pub line_of : Message → List ℕ → List ℕ
line_of m r = line_by New (reading_of m) r

abbrev pub is_allowed : Message → List ℕ → Bool
is_allowed m r = is_allowed_by New (reading_of m) r

abbrev pub old_line_of : OldMessage → List ℕ → List ℕ
old_line_of m r = line_by Old (old_reading_of m) r

abbrev pub is_old_allowed : OldMessage → List ℕ → Bool
is_old_allowed m r = is_allowed_by Old (old_reading_of m) r
