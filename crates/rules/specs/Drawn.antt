-- The kinds whose rule is one or more pictures, and nothing else. Assumes nothing.
use Rattle.std.specs.Prelude.{ℕ, Bool, false, cond, List, eqb}
use Rattle.rules.specs.Form.{is_sequence, is_number, is_prefix, is_one_letter, is_filed_speed, is_ground_speed, is_track_level}
use Rattle.rules.specs.Kind.{SEQUENCE, NUMBER, PREFIX, LETTER, FILED_SPEED, GROUND_SPEED, TRACK_LEVEL}

-- the form of such a kind; any other letter has none here
unfoldable pub is_drawn : ℕ → List ℕ → Bool
is_drawn k s =
    cond (eqb k SEQUENCE) (is_sequence s)
    (cond (eqb k NUMBER) (is_number s)
    (cond (eqb k PREFIX) (is_prefix s)
    (cond (eqb k LETTER) (is_one_letter s)
    (cond (eqb k FILED_SPEED) (is_filed_speed s)
    (cond (eqb k GROUND_SPEED) (is_ground_speed s)
    (cond (eqb k TRACK_LEVEL) (is_track_level s) false))))))
