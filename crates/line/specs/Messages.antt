-- THE MESSAGES of the two feeds by the rule ρ, and what their readers answer, so that what holds of both is said once. Assumes nothing.
use Rattle.std.specs.Prelude.{ℕ, List, Err, Ok, Result}
use Rattle.rules.specs.declared.Rule.{Rule}
use Rattle.rules.specs.declared.Rule.TheVariants.{New, Old}
use Rattle.messages.specs.Reading.{reading_of, old_reading_of}
use Rattle.messages.specs.declared.Message.{Message}
use Rattle.messages.specs.declared.OldMessage.{OldMessage}
use Rattle.messages.specs.declared.Reading.{Reading}
use Rattle.line.specs.Read.{read_of, old_read_of, line_number, line_place, old_number, old_place}
use Rattle.line.specs.declared.Refusal.{Refusal}

-- a message, and what is read of its line
abbrev pub MessageOf : Rule → Type 0
MessageOf New = Message
MessageOf Old = OldMessage

abbrev pub reading_in : (ρ : Rule) → MessageOf ρ → Reading
reading_in New m = reading_of m
reading_in Old m = old_reading_of m

-- what `line::read` and `line::read_old` answer: of a line, where it is a message, and with which number and place
abbrev pub AnswerOf : Rule → Type 0
AnswerOf New = (Result Message Refusal)
AnswerOf Old = (Result OldMessage Refusal)

abbrev pub answer_to : (ρ : Rule) → List ℕ → AnswerOf ρ
answer_to New s = read_of s
answer_to Old s = old_read_of s

abbrev pub Took : (ρ : Rule) → MessageOf ρ → AnswerOf ρ
Took New m = Ok m
Took Old m = Ok m

abbrev pub number_of : (ρ : Rule) → AnswerOf ρ → ℕ
number_of New r = line_number r
number_of Old r = old_number r

abbrev pub place_of : (ρ : Rule) → AnswerOf ρ → ℕ
place_of New r = line_place r
place_of Old r = old_place r

-- the answer as what is read under the rule
abbrev pub read_as : (ρ : Rule) → AnswerOf ρ → Result Reading Refusal
read_as New (Ok m) = Ok (reading_of m)
read_as New (Err y) = Err y
read_as Old (Ok m) = Ok (old_reading_of m)
read_as Old (Err y) = Err y
