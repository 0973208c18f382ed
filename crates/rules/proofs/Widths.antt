-- How many bytes a field of each kind that a board holds can have. Assumes nothing.
use mathlib.Core.Path.{◌≡◌, refl}
use mathlib.Core.Bool.{true, ◌&&◌}
use mathlib.Core.List.{List}
use Prim.Native.Char.{code}
use Prim.Native.Nat.{ℕ, ◌≤◌}
use native.Mathlib.Omega.{arith}
use lib.ListN.{length}
use Rattle.text.specs.Bytes.{bytes}
use Rattle.text.proofs.Logic.{and_left, either_of, true_false, not_fails}
use Rattle.shapes.specs.Pieces.{pieces}
use Rattle.shapes.specs.Picture.{fits, fits_any, one_of, part}
use Rattle.shapes.proofs.Laws.{fits_length, run_most}
use Rattle.rules.specs.Form.{is_stamp, is_key, is_clock, is_arrival, is_position}
use Rattle.rules.specs.Kind.{STAMP, KEY, POINT, ARRIVAL, GROUND_SPEED, TRACK_LEVEL, POSITION, is_form}

pub key_width : (s : List ℕ) → is_form KEY s ≡ true → length s ≤ 7
unfolding is_form is_key
key_width s e = run_most (code "a") 2 7 s (not_fails _ (λ q. true_false (rw q at e) refl))

pub point_width : (s : List ℕ) → is_form POINT s ≡ true → length s ≤ 12
unfolding is_form
point_width s e = run_most (code "a") 2 12 s e

pub stamp_width : (s : List ℕ) → is_form STAMP s ≡ true → length s ≤ 8
unfolding is_form is_stamp
stamp_width s e = omega (arith, fits_length (bytes "dddddddd") s (not_fails _ (λ q. true_false (rw q at e) refl)))

pub clock_width : (s : List ℕ) → is_clock s ≡ true → length s ≤ 5
unfolding is_clock
clock_width s e = omega (arith, fits_length (bytes "dddd") s (not_fails _ (λ q. true_false (rw q at e) refl)))

pub arrival_width : (s : List ℕ) → is_form ARRIVAL s ≡ true → length s ≤ 5
unfolding is_form is_arrival
arrival_width s =
    either_of (is_clock s) (fits (bytes "mdddd") s && is_clock (part 1 4 s)) (clock_width s)
    (λ e. omega (arith, fits_length (bytes "mdddd") s (and_left (fits (bytes "mdddd") s) (is_clock (part 1 4 s)) e)))

pub speed_width : (s : List ℕ) → is_form GROUND_SPEED s ≡ true → length s ≤ 3
unfolding is_form
speed_width s e = omega (arith, fits_length (bytes "ddd") s e)

pub level_width : (s : List ℕ) → is_form TRACK_LEVEL s ≡ true → length s ≤ 4
unfolding is_form one_of fits_any pieces
level_width s =
    either_of (fits (bytes "ddd") s) _ (λ e. omega (arith, fits_length (bytes "ddd") s e))
    (either_of (fits (bytes "dddl") s) _ (λ e. omega (arith, fits_length (bytes "dddl") s e)) (λ e. true_false e refl))

pub position_width : (s : List ℕ) → is_form POSITION s ≡ true → length s ≤ 12
unfolding is_form is_position
position_width s e = omega (arith, fits_length (bytes "ddddn/ddddde") s (not_fails _ (λ q. true_false (rw q at e) refl)))
