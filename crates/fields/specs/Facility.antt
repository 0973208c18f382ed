-- The facility (document 01, "The line"): what its reader answers, its text, and which values some text gives.
-- Assumes nothing.
use Rattle.std.specs.Prelude.{ℕ, ◌^◌, Bool, cond, ◌&&◌, List, ltb, None, Option, Some}
use Rattle.text.specs.Place.{value, places}
use Rattle.rules.specs.Form.{is_facility}
use Rattle.fields.specs.declared.heads.Facility.{Facility}

unfoldable pub facility_of : List ℕ → Option Facility
facility_of s = cond (is_facility s) (Some (record { 0 = value 256 4 s })) None

-- its four bytes
unfoldable pub facility_text : ℕ → List ℕ
facility_text n = places 256 4 n

unfoldable pub is_facility_value : ℕ → Bool
is_facility_value n = ltb n (256 ^ 4) && is_facility (facility_text n)

-- document 01's answer number
abbrev pub facility_answer : Option Facility → ℕ
facility_answer (Some f) = 0
facility_answer None = 6
