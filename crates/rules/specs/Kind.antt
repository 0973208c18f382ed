-- The kinds of fields that are held as their text, a letter each, and the form of each kind. Assumes nothing.
use Rattle.std.specs.Prelude.{ℕ, Bool, false, cond, List, eqb}
use Prim.Native.Char.{code}
use Rattle.rules.specs.Form.{is_sequence, is_stamp, is_old_stamp, is_key, is_number, is_prefix, is_model, is_one_letter, is_filed_speed, is_ground_speed, is_point, is_fix, is_time, is_clock, is_arrival, is_level, is_track_level, is_position}

abbrev pub SEQUENCE : ℕ
SEQUENCE = code "Q"

abbrev pub STAMP : ℕ
STAMP = code "D"

-- the old feed's, in a small letter
abbrev pub OLD_STAMP : ℕ
OLD_STAMP = code "d"

abbrev pub KEY : ℕ
KEY = code "K"

abbrev pub NUMBER : ℕ
NUMBER = code "N"

abbrev pub PREFIX : ℕ
PREFIX = code "X"

abbrev pub MODEL : ℕ
MODEL = code "V"

abbrev pub LETTER : ℕ
LETTER = code "E"

abbrev pub FILED_SPEED : ℕ
FILED_SPEED = code "S"

abbrev pub GROUND_SPEED : ℕ
GROUND_SPEED = code "G"

abbrev pub POINT : ℕ
POINT = code "P"

abbrev pub FIX : ℕ
FIX = code "F"

abbrev pub TIME : ℕ
TIME = code "T"

abbrev pub CLOCK : ℕ
CLOCK = code "C"

abbrev pub ARRIVAL : ℕ
ARRIVAL = code "A"

abbrev pub LEVEL : ℕ
LEVEL = code "L"

abbrev pub TRACK_LEVEL : ℕ
TRACK_LEVEL = code "M"

abbrev pub POSITION : ℕ
POSITION = code "O"

-- the form of the kind k; a letter that names no kind has none
unfoldable pub is_form : ℕ → List ℕ → Bool
is_form k s =
    cond (eqb k SEQUENCE) (is_sequence s)
    (cond (eqb k STAMP) (is_stamp s)
    (cond (eqb k OLD_STAMP) (is_old_stamp s)
    (cond (eqb k KEY) (is_key s)
    (cond (eqb k NUMBER) (is_number s)
    (cond (eqb k PREFIX) (is_prefix s)
    (cond (eqb k MODEL) (is_model s)
    (cond (eqb k LETTER) (is_one_letter s)
    (cond (eqb k FILED_SPEED) (is_filed_speed s)
    (cond (eqb k GROUND_SPEED) (is_ground_speed s)
    (cond (eqb k POINT) (is_point s)
    (cond (eqb k FIX) (is_fix s)
    (cond (eqb k TIME) (is_time s)
    (cond (eqb k CLOCK) (is_clock s)
    (cond (eqb k ARRIVAL) (is_arrival s)
    (cond (eqb k LEVEL) (is_level s)
    (cond (eqb k TRACK_LEVEL) (is_track_level s)
    (cond (eqb k POSITION) (is_position s) false)))))))))))))))))
