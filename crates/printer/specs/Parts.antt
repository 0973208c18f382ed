-- What the inner functions of `slips` are about: the words of a row in the order of its line, and the line of such words.
-- `proofs/RowLines` shows that of an allowed row this is its line. Assumes nothing.
use Rattle.std.specs.Prelude.{ℕ, ◌≡◌, true, cond, List, [], ◌∷◌, map, eqb, length, get_or}
use Rattle.text.specs.Class.{all}
use Rattle.text.specs.Text.{text_of, is_packed}
use Rattle.printer.specs.RowText.{hyphen, line_text}

-- what stands for a word: no text is held as 0, so 0 is a part of a missing entry
unfoldable pub part_text : ℕ → List ℕ
part_text w = cond (eqb w 0) hyphen (text_of w)

-- key, departure, destination, clock; stamp, speed, level, position
unfoldable pub parts_of : List ℕ → List ℕ
parts_of w = get_or w 0 0 ∷ get_or w 1 0 ∷ get_or w 2 0 ∷ get_or w 3 0 ∷ get_or w 8 0 ∷ get_or w 5 0 ∷ get_or w 6 0 ∷ get_or w 7 0 ∷ []

unfoldable pub slip_text : List ℕ → List ℕ
slip_text ws = line_text (map part_text ws)

-- eight words, each the number of a text
pub record SlipWords (ws : List ℕ) : Type 0 where
  pub count : length ws ≡ 8
  pub good : all is_packed ws ≡ true
