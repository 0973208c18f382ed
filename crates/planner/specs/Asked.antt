-- What a line asks of the board (document 01, "Board"): "DZ writes the arrival entry and empties the track. AZ writes
-- the arrival entry. TZ writes the track. .. Other types change nothing". Assumes nothing.
use Rattle.std.specs.Prelude.{ℕ, List, Err, Ok, Result}
use Rattle.fields.specs.declared.frame.Stamp.{Stamp}
use Rattle.messages.specs.declared.Message.{Message}
use Rattle.messages.specs.declared.Az.{Az as Message-Az}
use Rattle.messages.specs.declared.Dz.{Dz as Message-Dz}
use Rattle.messages.specs.declared.Tz.{Tz as Message-Tz}
use Rattle.messages.specs.declared.Body.{Body}
use Rattle.messages.specs.declared.Body.TheVariants as body
use Rattle.line.specs.Read.{read_of, refusal_number, refusal_place}
use Rattle.planner.specs.declared.asks.Asked.{Asked}
use Rattle.planner.specs.declared.asks.Asked.TheVariants.{Dz, Az, Tz, Other}
use Rattle.line.specs.declared.Refusal.{Refusal}

-- of a line with the stamp s; "the flight's key is the part before the slash"
abbrev pub dz_asks : Message-Dz → Stamp → Asked
dz_asks m s = Dz m.ident.key (record { departure = m.from; destination = m.to; clock = record { 0 = m.clock.0 }; stamp = s })

abbrev pub az_asks : Message-Az → Stamp → Asked
az_asks m s = Az m.ident.key (record { departure = m.from; destination = m.to; clock = m.clock; stamp = s })

abbrev pub tz_asks : Message-Tz → Stamp → Asked
tz_asks m s = Tz m.ident.key (record { speed = m.speed; level = m.level; position = m.position; stamp = s })

abbrev pub asked_in : Stamp → Body → Asked
asked_in s (body.Dz m) = dz_asks m s
asked_in s (body.Az m) = az_asks m s
asked_in s (body.Tz m) = tz_asks m s
asked_in s (body.Af m) = Other
asked_in s (body.Fz m) = Other
asked_in s (body.Rz m) = Other
asked_in s (body.Uz m) = Other
asked_in s body.Rt = Other
asked_in s body.To = Other
asked_in s body.Hb = Other

unfoldable pub asked_by : Message → Asked
asked_by m = asked_in m.stamp m.body

-- the line's own answer, where it is not read
abbrev pub asked_from : Result Message Refusal → Result Asked Refusal
asked_from (Ok m) = Ok (asked_by m)
asked_from (Err x) = Err x

-- document 01's number and place of what is asked: the line's own, 0 for a line that is read
abbrev pub asked_number : Result Asked Refusal → ℕ
asked_number (Ok a) = 0
asked_number (Err x) = refusal_number x

abbrev pub asked_place : Result Asked Refusal → ℕ
asked_place (Ok a) = 0
asked_place (Err x) = refusal_place x

unfoldable pub asked_of : List ℕ → Result Asked Refusal
asked_of s = asked_from (read_of s)
