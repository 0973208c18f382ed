-- WHAT IS SAID OF A LINE, read under the rule ρ, and why it was refused: its number from 1, document 01's answer number, the place that it gives ("0 where it
-- gives none"), and of a line that reads its type and its flight's key; a hyphen for what is not there. No board is there, so 12 and 13 do not arise.
-- Assumes nothing.
use Rattle.std.specs.Prelude.{ℕ, Bool, true, false, cond, ◌&&◌, List, [], ◌∷◌, eqb, Err, Ok, Result}
use Rattle.text.specs.Decimal.{decimal}
use Rattle.rules.specs.declared.Rule.{Rule}
use Rattle.fields.specs.MessageType.{type_text}
use Rattle.cutter.specs.Feed.{Line, Whole, TooLong}
use Rattle.messages.specs.Body.{type_in, key_in}
use Rattle.line.specs.Read.{read_by, number_by, place_by}
use Rattle.printer.specs.RowText.{hyphen, line_text}
use Rattle.printer.specs.Parts.{part_text}
use Rattle.checks.specs.declared.Asked.{Asked}
use Rattle.messages.specs.declared.Reading.{Reading}
use Rattle.line.specs.declared.Refusal.{Refusal}

-- what may be asked for under a rule: every line of the feed, or those alone that have no reading
abbrev pub every_line : Rule → Asked
every_line ρ = record { rule = ρ; refused = false }

abbrev pub refused_lines : Rule → Asked
refused_lines ρ = record { rule = ρ; refused = true }

-- NUMBER ANSWER PLACE TYPE KEY, with single spaces between them, and a line feed
abbrev pub saying : ℕ → ℕ → ℕ → List ℕ → List ℕ → List ℕ
saying number answer place type key = line_text (decimal number ∷ decimal answer ∷ decimal place ∷ type ∷ key ∷ [])

-- "two letters of type"
abbrev pub type_said : Result Reading Refusal → List ℕ
type_said (Ok x) = type_text (type_in x.body)
type_said (Err y) = hyphen

-- "The flight's key is the part before the slash"; RT, TO and HB have none
abbrev pub key_said : Result Reading Refusal → List ℕ
key_said (Ok x) = part_text (key_in x.body)
key_said (Err y) = hyphen

-- of what the n-th line is read as
abbrev pub read_said : ℕ → Result Reading Refusal → List ℕ
read_said n r = saying n (number_by r) (place_by r) (type_said r) (key_said r)

-- the n-th line of a feed; "2: line over 2,048 bytes"
unfoldable pub check_of : Rule → ℕ → Line → List ℕ
check_of ρ n (Whole s) = read_said n (read_by ρ s)
check_of ρ n TooLong = saying n 2 0 hyphen hyphen

-- "0: taken"
unfoldable pub is_taken : Rule → Line → Bool
is_taken ρ (Whole s) = eqb (number_by (read_by ρ s)) 0
is_taken ρ TooLong = false

-- where only the refused lines are asked for, the others are left out
unfoldable pub said_of : Asked → ℕ → Line → List ℕ
said_of asked n l = cond (asked.refused && is_taken asked.rule l) [] (check_of asked.rule n l)

-- what is said of an unended rest, which is no line: "17: end of feed inside a line"; at a line's start nothing
unfoldable pub torn_of : ℕ → List ℕ → List ℕ
torn_of n [] = []
torn_of n (x ∷ s) = saying n 17 0 hyphen hyphen
