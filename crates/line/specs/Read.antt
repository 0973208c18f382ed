-- What a line is read as under the rule ρ, in document 01's order: "1 to 7 rising, 11, 8, then fields from the left"; the answer
-- numbers; the free text. Assumes nothing.
use Rattle.std.specs.Prelude.{ℕ, ◌+◌, cond, List, [], ltb, length, Bool, Err, None, Ok, Option, Result, Some}
use Rattle.text.specs.Place.{all_in}
use Rattle.rules.specs.Frame.{longest_line}
use Rattle.rules.specs.declared.Rule.{Rule}
use Rattle.rules.specs.declared.Rule.TheVariants.{New, Old}
use Rattle.fields.specs.Head.{sequence_in, stamp_in, facility_in, sequence_part, stamp_part, facility_part, type_part, body_part, head_length}
use Rattle.fields.specs.MessageType.{type_of}
use Rattle.table.specs.Plan.{is_long_plan}
use Rattle.table.specs.Read.{fault_number, fault_place}
use Rattle.table.specs.Table.{has_type, free_in, free_at_in}
use Rattle.messages.specs.Read.{body_read}
use Rattle.messages.specs.Reading.{message_of, old_message_of}
use Rattle.line.specs.declared.front.Head.{Head}
use Rattle.line.specs.declared.Refusal.{Refusal}
use Rattle.line.specs.declared.Refusal.TheVariants.{Short, Long, Unprintable, NoSequence, NoStamp, NoFacility, NoType, LongPlan, Body}
use Rattle.messages.specs.declared.Body.{Body as BodyOf}
use Rattle.table.specs.declared.walk.Fault.{Fault}
use Rattle.messages.specs.declared.Message.{Message}
use Rattle.fields.specs.declared.heads.MessageType.{MessageType}
use Rattle.messages.specs.declared.OldMessage.{OldMessage}
use Rattle.messages.specs.declared.Reading.{Reading}

-- ---- the head: sequence number, stamp, facility, "two letters of type"

-- a type that the rule has
abbrev pub of_rule : Rule → Option MessageType → Option MessageType
of_rule ρ (Some t) = cond (has_type ρ t) (Some t) None
of_rule ρ None = None

unfoldable pub type_by : Rule → List ℕ → Option MessageType
type_by ρ s = of_rule ρ (type_of s)

abbrev pub typed : Rule → List ℕ → Option MessageType → Result Head Refusal
typed ρ s (Some t) =
    Ok (record { sequence = (sequence_in ρ).kept (sequence_part ρ s); stamp = (stamp_in ρ).kept (stamp_part ρ s); facility = (facility_in ρ).kept (facility_part ρ s); kind = t })
typed ρ s None = Err NoType

unfoldable pub head_of : Rule → List ℕ → Result Head Refusal
head_of ρ s =
    cond ((sequence_in ρ).form (sequence_part ρ s))
    (cond ((stamp_in ρ).form (stamp_part ρ s))
    (cond ((facility_in ρ).form (facility_part ρ s)) (typed ρ s (type_by ρ (type_part ρ s))) (Err NoFacility)) (Err NoStamp)) (Err NoSequence)

-- ---- the body after it

abbrev pub with_body : Head → Result (BodyOf × Bool) Fault → Result Reading Refusal
with_body h (Ok (b, t)) = Ok (record { sequence = h.sequence; stamp = h.stamp; facility = h.facility; body = b; trailing = t })
with_body h (Err x) = Err (Body x)

unfoldable pub rest_of : Rule → Head → List ℕ → Result Reading Refusal
rest_of ρ h s = cond (is_long_plan ρ h.kind (length s)) (Err LongPlan) (with_body h (body_read ρ h.kind (body_part ρ s)))

abbrev pub by_head : Rule → List ℕ → Result Head Refusal → Result Reading Refusal
by_head ρ s (Ok h) = rest_of ρ h s
by_head ρ s (Err x) = Err x

-- ---- the line

unfoldable pub read_by : Rule → List ℕ → Result Reading Refusal
read_by ρ s =
    cond (ltb (length s) (head_length ρ)) (Err Short)
    (cond (ltb longest_line (length s)) (Err Long) (cond (all_in 32 126 s) (by_head ρ s (head_of ρ s)) (Err Unprintable)))

-- as a message, and as a message of the old feed
abbrev pub newly : Result Reading Refusal → Result Message Refusal
newly (Ok x) = Ok (message_of x)
newly (Err y) = Err y

abbrev pub oldly : Result Reading Refusal → Result OldMessage Refusal
oldly (Ok x) = Ok (old_message_of x)
oldly (Err y) = Err y

unfoldable pub read_of : List ℕ → Result Message Refusal
read_of s = newly (read_by New s)

unfoldable pub old_read_of : List ℕ → Result OldMessage Refusal
old_read_of s = oldly (read_by Old s)

-- document 01's answer number, and the place that it gives; 0 where it gives none
abbrev pub refusal_number : Refusal → ℕ
refusal_number Short = 1
refusal_number Long = 2
refusal_number Unprintable = 3
refusal_number NoSequence = 4
refusal_number NoStamp = 5
refusal_number NoFacility = 6
refusal_number NoType = 7
refusal_number LongPlan = 11
refusal_number (Body x) = fault_number x

abbrev pub refusal_place : Refusal → ℕ
refusal_place Short = 0
refusal_place Long = 0
refusal_place Unprintable = 0
refusal_place NoSequence = 0
refusal_place NoStamp = 0
refusal_place NoFacility = 0
refusal_place NoType = 0
refusal_place LongPlan = 0
refusal_place (Body x) = fault_place x

-- of a head alone
abbrev pub head_number : Result Head Refusal → ℕ
head_number (Ok h) = 0
head_number (Err x) = refusal_number x

abbrev pub number_by : Result Reading Refusal → ℕ
number_by (Ok x) = 0
number_by (Err y) = refusal_number y

abbrev pub place_by : Result Reading Refusal → ℕ
place_by (Ok x) = 0
place_by (Err y) = refusal_place y

abbrev pub line_number : Result Message Refusal → ℕ
line_number (Ok m) = 0
line_number (Err x) = refusal_number x

abbrev pub line_place : Result Message Refusal → ℕ
line_place (Ok m) = 0
line_place (Err x) = refusal_place x

abbrev pub old_number : Result OldMessage Refusal → ℕ
old_number (Ok m) = 0
old_number (Err x) = refusal_number x

abbrev pub old_place : Result OldMessage Refusal → ℕ
old_place (Ok m) = 0
old_place (Err x) = refusal_place x

-- ---- "the reader gives back that part of the line": the body of RT, TO and HB, the route of the others, else nothing

abbrev pub free_by : Rule → Option MessageType → List ℕ → List ℕ
free_by ρ None b = []
free_by ρ (Some t) b = free_in ρ t b

unfoldable pub free_of : Rule → List ℕ → List ℕ
free_of ρ s = cond (ltb (length s) (head_length ρ)) [] (free_by ρ (type_by ρ (type_part ρ s)) (body_part ρ s))

-- where it starts in the line: "the body" of RT, TO and HB after the head, a route after the space before it; an empty part that is no free text
-- starts where it is looked for, at the body or, where the line has no type, at its front
abbrev pub free_at_by : Rule → Option MessageType → List ℕ → ℕ
free_at_by ρ None b = 0
free_at_by ρ (Some t) b = head_length ρ + free_at_in ρ t b

unfoldable pub free_at : Rule → List ℕ → ℕ
free_at ρ s = cond (ltb (length s) (head_length ρ)) 0 (free_at_by ρ (type_by ρ (type_part ρ s)) (body_part ρ s))
