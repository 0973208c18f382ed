-- The message type (document 01, "The line"): "two letters of type: AF AZ DZ FZ RZ TZ UZ RT TO HB". Assumes nothing.
use Rattle.std.specs.Prelude.{ℕ, cond, List, None, Option, Some}
use Rattle.text.specs.Bytes.{bytes}
use Rattle.text.specs.Place.{value}
use Rattle.shapes.specs.Picture.{fits}
use Rattle.fields.specs.declared.heads.MessageType.{MessageType}
use Rattle.fields.specs.declared.heads.MessageType.TheVariants.{Af, Az, Dz, Fz, Rz, Tz, Uz, Rt, To, Hb}

-- the two letters of a type
abbrev pub type_text : MessageType → List ℕ
type_text Af = bytes "AF"
type_text Az = bytes "AZ"
type_text Dz = bytes "DZ"
type_text Fz = bytes "FZ"
type_text Rz = bytes "RZ"
type_text Tz = bytes "TZ"
type_text Uz = bytes "UZ"
type_text Rt = bytes "RT"
type_text To = bytes "TO"
type_text Hb = bytes "HB"

-- these as one number to the base 256
abbrev pub type_number : MessageType → ℕ
type_number t = value 256 2 (type_text t)

-- the type whose letters s is
unfoldable pub type_of : List ℕ → Option MessageType
type_of s =
    cond (fits (type_text Af) s) (Some Af)
    (cond (fits (type_text Az) s) (Some Az)
    (cond (fits (type_text Dz) s) (Some Dz)
    (cond (fits (type_text Fz) s) (Some Fz)
    (cond (fits (type_text Rz) s) (Some Rz)
    (cond (fits (type_text Tz) s) (Some Tz)
    (cond (fits (type_text Uz) s) (Some Uz)
    (cond (fits (type_text Rt) s) (Some Rt)
    (cond (fits (type_text To) s) (Some To)
    (cond (fits (type_text Hb) s) (Some Hb) None)))))))))

-- document 01's answer number
abbrev pub type_answer : Option MessageType → ℕ
type_answer (Some t) = 0
type_answer None = 7
