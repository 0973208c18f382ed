-- What the reader of a body answers: by its type's table, and the values given their types. Assumes nothing.
use Rattle.std.specs.Prelude.{ℕ, false, cond, List, [], Bool, Err, Ok, Result}
use Rattle.fields.specs.declared.heads.MessageType.{MessageType}
use Rattle.table.specs.declared.kinds.Value.{Value}
use Rattle.table.specs.Read.{padded, fault_number}
use Rattle.rules.specs.declared.Rule.{Rule}
use Rattle.table.specs.Table.{has_fields, answer_by, values_by}
use Rattle.messages.specs.Body.{body_from}
use Rattle.messages.specs.declared.Body.{Body}
use Rattle.table.specs.declared.walk.Fault.{Fault}

abbrev pub typed_of : MessageType → List Value → Result (Bool × ℕ) Fault → Result (Body × Bool) Fault
typed_of t w (Ok (trailing, m)) = Ok (body_from t m w, trailing)
typed_of t w (Err x) = Err x

-- document 01's number: the table's answer, 0 for a body that is kept whole
abbrev pub body_number : Result (Body × Bool) Fault → ℕ
body_number (Ok (b, t)) = 0
body_number (Err x) = fault_number x

-- by the table where the type has fields; "RT, TO and HB bodies are kept whole", and then no value is held
unfoldable pub body_read : Rule → MessageType → List ℕ → Result (Body × Bool) Fault
body_read ρ t s = cond (has_fields t) (typed_of t (padded (values_by ρ t s)) (answer_by ρ t s)) (Ok (body_from t 0 (padded []), false))
