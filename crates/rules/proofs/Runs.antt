-- The rules of numbers, track levels and speeds, said as the code tests them: runs of digits, and pictures for what is left.
-- Assumes nothing.
use mathlib.Core.Path.{◌≡◌, sym, ◌∙◌}
use mathlib.Core.Bool.{◌&&◌, ◌||◌, or-false}
use mathlib.Core.List.{List}
use Prim.Native.Char.{code}
use Prim.Native.Nat.{ℕ}
use native.Mathlib.Omega.{arith}
use lib.Dec.{lit≤}
use lib.ListN.{length, get_or, take}
use Rattle.text.specs.Bytes.{bytes}
use Rattle.shapes.specs.Pieces.{pieces}
use Rattle.shapes.specs.Picture.{is_of, fits_any, one_of, run}
use Rattle.shapes.proofs.Laws.{fits_apart}
use Rattle.shapes.proofs.Same.{fits_same}
use Rattle.shapes.proofs.Parts.{fits_then, any_run, any_longer}
use Rattle.rules.specs.Form.{is_number, is_filed_speed, is_track_level}

-- a computer number of three bytes: there is no other
pub number_runs : (s : List ℕ) → length s ≡ 3 → is_number s ≡ (run (code "d") 2 2 (take 2 s) && is_of (code "a") (get_or s 2 0))
number_runs s e = fits_then (code "d") 2 (code "a") s e

-- a track level of four bytes, and one of any other length
pub track-letter :
    (s : List ℕ) → length s ≡ 4 → is_track_level s ≡ (run (code "d") 3 3 (take 3 s) && is_of (code "l") (get_or s 3 0))
unfolding one_of fits_any pieces
track-letter s e = rw (fits_apart (bytes "ddd") s (λ h. absurd (omega arith)), fits_then (code "d") 3 (code "l") s e) (or-false _)

pub track_plain : (s : List ℕ) → (length s ≡ 4 → ⊥) → is_track_level s ≡ run (code "d") 3 3 s
unfolding one_of fits_any pieces
track_plain s e = rw (fits_apart (bytes "dddl") s (λ h. e (sym h)), fits_same (code "d") 3 s) (or-false _)

pub speed_runs : (s : List ℕ) → is_filed_speed s ≡ (run (code "d") 2 4 s || one_of (bytes "lddd|SC") s)
unfolding one_of pieces
speed_runs s = any_run (code "d") _ s 2 ∙ any_longer (code "d") _ s 2 2 (lit≤ tt) ∙ any_longer (code "d") _ s 2 3 (lit≤ tt)
