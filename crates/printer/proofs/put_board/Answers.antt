-- `printer::put_board` meets its contract: the line of flights, and the rows after it. Assumes nothing.
use mathlib.Core.Path.{◌≡◌, refl, sym, ap, ◌∙◌}
use mathlib.Core.List.{List, ◌++◌}
use Prim.Native.Nat.{ℕ, ◌+◌, ◌≤◌}
use native.Mathlib.Omega.{arith}
use lib.ListN.{length, get_or}
use Rattle.text.specs.Bytes.{bytes}
use Rattle.text.specs.Text.{spliced}
use Rattle.board.specs.Board.{rows_of}
use Rattle.rules.specs.Frame.{line_feed}
use Rattle.printer.specs.RowText.{rows_text}
use Rattle.printer.specs.Print.{text_in}
use Rattle.printer.specs.Asks.{counted, RowsAsk, BoardAsks}
use Rattle.printer.proofs.Counts.{first_fits, next_fits, next_wrote}
use Rattle.printer.proofs.Boards.{text_parts, board_long}
use Rattle.printer.proofs.put_board.Goals as goal

module _ (l out : List ℕ) (at : ℕ) (a : BoardAsks l out at) where
  abbrev first : List ℕ
  first = counted (bytes "FLIGHTS ") (get_or l 0 0) line_feed

  abbrev rows : List ℕ
  rows = rows_text (rows_of l)

  fits : at + length (first ++ rows) ≤ length out
  fits = rw (text_parts l) at a.room

  first_room : at + length first ≤ length out
  first_room = first_fits out first rows at fits refl refl

  module _ {j : ℕ} {o : List ℕ} (ends : j ≡ at + length first) (is : o ≡ spliced out at first) where
    rows_ask : RowsAsk l o j
    rows_ask = record { good = a.good; room = next_fits out first rows at fits ends is }

    whole : {o' : List ℕ} → o' ≡ spliced o j rows → o' ≡ spliced out at (text_in l)
    whole w = next_wrote out first rows at fits ends is w ∙ ap (spliced out at) (sym (text_parts l))

pub bounds-board-0 : goal.bounds-board-0
bounds-board-0 c = omega (arith, board_long c.args.board.now c.requires.good)

pub put_count-j-requires : goal.put_count-j-requires
put_count-j-requires c = let a = c.args in first_room a.board.now a.out.now a.at c.requires

pub put_rows-requires : goal.put_rows-requires
put_rows-requires c = rows_ask _ _ _ c.requires c.put_count-j.ensures.value c.put_count-j.ensures.out_after

pub returns : goal.returns
returns c = whole _ _ _ c.requires c.put_count-j.ensures.value c.put_count-j.ensures.out_after c.put_rows.ensures
