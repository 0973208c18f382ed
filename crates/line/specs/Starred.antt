-- The starred readings of document 01 ("Known readings") of lines, fields and ages, as one table: what is asked, and
-- the answer that document 01 gives. Assumes nothing.
use Rattle.std.specs.Prelude.{ℕ, List, [], ◌∷◌, ℤ, pos, negsuc, Err, None, Ok, Option, Result, Some}
use Prim.Native.String.{String}
use Rattle.text.specs.Bytes.{bytes}
use Rattle.text.specs.Text.{packed, text_of}
use Rattle.rules.specs.Kind.{CLOCK, POSITION}
use Rattle.rules.specs.declared.Rule.TheVariants.{New}
use Rattle.fields.specs.Word.{word_of}
use Rattle.fields.specs.Ident.{ident_of}
use Rattle.fields.specs.Aircraft.{aircraft_of}
use Rattle.fields.specs.Facility.{facility_text}
use Rattle.fields.specs.MessageType.{type_text}
use Rattle.messages.specs.Body.{type_in}
use Rattle.line.specs.Read.{read_of, line_number, free_of}
use Rattle.meanings.specs.Meaning.{minutes_of}
use Rattle.meanings.specs.Age.{age_in}
use Rattle.meanings.specs.Age as ages
use Rattle.meanings.specs.declared.ages.Aged.{Aged}
use Rattle.meanings.specs.declared.ages.Aged.TheVariants as aged
use Rattle.fields.specs.declared.aircraft.Aircraft.{Aircraft as AircraftField}
use Rattle.fields.specs.declared.idents.Ident.{Ident as IdentField}
use Rattle.messages.specs.declared.Message.{Message}
use Rattle.line.specs.declared.Refusal.{Refusal}

pub data Question : Type 0 where
  Line : String → Question
  Ident : String → Question
  Aircraft : String → Question
  Position : String → Question
  MinutesOf : String → Question
  Clock : String → Question
  -- now, the last day of the previous month, the stamp
  Age : String → ℕ → String → Question

-- of a line its answer number, and its parts where it is read; of a field no reading, or a reading with these parts; two signed
-- numbers; an age in seconds, or its word; refused with this number
pub data Answer : Type 0 where
  Numbered : ℕ → List (List ℕ) → Answer
  Refused : ℕ → Answer
  NoReading : Answer
  Parts : List (List ℕ) → Answer
  Signed : ℤ → ℤ → Answer
  Seconds : ℕ → Answer
  Ahead : Answer
  Old : Answer

-- ---- what the definitions answer

-- a line's number; of one that is read sequence number, stamp, facility and type, and its free text
abbrev of_line : Result Message Refusal → List ℕ → Answer
of_line (Ok m) r = Numbered (line_number (Ok m)) (text_of m.sequence.0 ∷ text_of m.stamp.0 ∷ facility_text m.facility.0 ∷ type_text (type_in m.body) ∷ r ∷ [])
of_line (Err x) r = Numbered (line_number (Err x)) []

abbrev of_ident : Option IdentField → Answer
of_ident (Some i) = Parts (text_of i.key.0 ∷ text_of i.number.0 ∷ [])
of_ident None = NoReading

abbrev of_aircraft : Option AircraftField → Answer
of_aircraft (Some a) = Parts (text_of a.prefix ∷ text_of a.model ∷ text_of a.letter ∷ [])
of_aircraft None = NoReading

abbrev of_word : Option ℕ → Answer
of_word (Some t) = Parts (text_of t ∷ [])
of_word None = NoReading

abbrev of_minutes : Option (ℤ × ℤ) → Answer
of_minutes (Some (y, x)) = Signed y x
of_minutes None = NoReading

abbrev of_age : Option Aged → Answer
of_age (Some (aged.Seconds n)) = Seconds n
of_age (Some aged.Ahead) = Ahead
of_age (Some aged.Old) = Old
of_age None = Refused (ages.age_number None)

abbrev pub answer : Question → Answer
answer (Line t) = of_line (read_of (bytes t)) (free_of New (bytes t))
answer (Ident t) = of_ident (ident_of (bytes t))
answer (Aircraft t) = of_aircraft (aircraft_of (bytes t))
answer (Position t) = of_word (word_of POSITION (bytes t))
answer (MinutesOf t) = of_minutes (minutes_of (bytes t))
answer (Clock t) = of_word (word_of CLOCK (bytes t))
answer (Age now last stamp) = of_age (age_in (packed (bytes now)) last (packed (bytes stamp)))

-- ---- the table

pub record Row : Type 0 where
  pub asked : Question
  pub told : Answer

abbrev row : Question → Answer → Row
row q a = record { asked = q; told = a }

abbrev pub table : List Row
table =
    row (Line "000006143655KZMAHB") (Numbered 0 (bytes "0000" ∷ bytes "06143655" ∷ bytes "KZMA" ∷ bytes "HB" ∷ [] ∷ []))
    ∷ row (Line "000006143655KZMAH") (Numbered 1 [])
    ∷ row (Ident "N5") (Parts (bytes "N5" ∷ [] ∷ []))
    ∷ row (Ident "N") NoReading
    ∷ row (Ident "ABCDEFG/12Z") (Parts (bytes "ABCDEFG" ∷ bytes "12Z" ∷ []))
    ∷ row (Aircraft "C172/A") (Parts ([] ∷ bytes "C172" ∷ bytes "A" ∷ []))
    ∷ row (Aircraft "T/AB") (Parts (bytes "T" ∷ bytes "AB" ∷ [] ∷ []))
    ∷ row (Aircraft "AB/CD") NoReading
    ∷ row (Position "9000N/18000W") (Parts (bytes "9000N/18000W" ∷ []))
    ∷ row (Position "9001N/00000E") NoReading
    ∷ row (Position "8960N/00000E") NoReading
    ∷ row (MinutesOf "3015N/08430W") (Signed (pos 1815) (negsuc 5069))
    ∷ row (MinutesOf "0000S/00000W") (Signed (pos 0) (pos 0))
    ∷ row (Clock "2359") (Parts (bytes "2359" ∷ []))
    ∷ row (Clock "2400") NoReading
    ∷ row (Age "06081800" 30 "06081700") (Seconds 60)
    ∷ row (Age "01000010" 30 "30235950") (Seconds 20)
    ∷ row (Age "06081659" 30 "06081700") Ahead
    ∷ []
