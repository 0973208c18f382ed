-- A row's words, where they stand among the words from p on. Assumes nothing.
use Rattle.std.specs.Prelude.{Option}
use mathlib.Core.Path.{◌≡◌, refl, sym, ap, ◌∙◌}
use mathlib.Core.Bool.{not, ◌&&◌}
use mathlib.Core.List.{List}
use Prim.Native.Nat.{ℕ, ◌+◌}
use native.Mathlib.Omega.{arith}
use lib.Dec.{eqb}
use lib.ListN.{get_or, drop}
use lib.Seq.{get_or-drop}
use Rattle.rules.specs.Kind.{KEY}
use Rattle.fields.specs.Word.{is_word}
use Rattle.board.specs.Row.{arrival_of, track_of, row_of, is_arrival_words, is_track_words, is_row_words}
use Rattle.board.specs.declared.rows.Arrival.{Arrival}
use Rattle.board.specs.declared.rows.Track.{Track}

first_at : (w : List ℕ) (p : ℕ) → get_or (drop p w) 0 0 ≡ get_or w p 0
first_at w p = let e : p + 0 ≡ p = omega arith in get_or-drop p w 0 0 ∙ ap (λ (i : ℕ). get_or w i 0) e

-- the words from p on, where an entry begins at a place of its own
module _ (w : List ℕ) (p : ℕ) where
  at_place : (q i j : ℕ) → q + i ≡ p + j → get_or w (q + i) 0 ≡ get_or (drop p w) j 0
  at_place q i j e = ap (λ (n : ℕ). get_or w n 0) e ∙ sym (get_or-drop p w j 0)

  pub row_there : {a : (Option Arrival)} {t : (Option Track)} → a ≡ arrival_of (get_or w (p + 1) 0) (get_or w (p + 1 + 1) 0) (get_or w (p + 1 + 2) 0) (get_or w (p + 1 + 3) 0)
      → t ≡ track_of (get_or w (p + 5) 0) (get_or w (p + 5 + 1) 0) (get_or w (p + 5 + 2) 0) (get_or w (p + 5 + 3) 0)
      → record { key = record { 0 = get_or w p 0 }; arrival = a; track = t } ≡ row_of (drop p w)
  unfolding row_of
  row_there e f =
      rw (
        e,
        f,
        first_at w p,
        at_place p 1 1 refl,
        at_place (p + 1) 1 2 (omega arith),
        at_place (p + 1) 2 3 (omega arith),
        at_place (p + 1) 3 4 (omega arith),
        at_place p 5 5 refl,
        at_place (p + 5) 1 6 (omega arith),
        at_place (p + 5) 2 7 (omega arith),
        at_place (p + 5) 3 8 (omega arith),
      )

  pub test-there :
      is_row_words (drop p w) ≡ (is_word KEY (get_or w p 0)
      && is_arrival_words (get_or w (p + 1) 0) (get_or w (p + 1 + 1) 0) (get_or w (p + 1 + 2) 0) (get_or w (p + 1 + 3) 0)
      && is_track_words (get_or w (p + 5) 0) (get_or w (p + 5 + 1) 0) (get_or w (p + 5 + 2) 0) (get_or w (p + 5 + 3) 0)
      && not (eqb (get_or w (p + 1) 0) 0 && eqb (get_or w (p + 5) 0) 0) && eqb (get_or w (p + 9) 0) 0 && eqb (get_or w (p + 10) 0) 0)
  unfolding is_row_words
  test-there =
      rw (
        first_at w p,
        at_place p 1 1 refl,
        at_place (p + 1) 1 2 (omega arith),
        at_place (p + 1) 2 3 (omega arith),
        at_place (p + 1) 3 4 (omega arith),
        at_place p 5 5 refl,
        at_place (p + 5) 1 6 (omega arith),
        at_place (p + 5) 2 7 (omega arith),
        at_place (p + 5) 3 8 (omega arith),
        at_place p 9 9 refl,
        at_place p 10 10 refl,
      )
