-- `printer::put_rows` meets its contract: what is left, written from the place that is reached, makes what all rows make. Assumes nothing.
use mathlib.Core.Path.{◌≡◌}
use mathlib.Core.List.{List}
use Prim.Native.Nat.{ℕ, ◌+◌}
use lib.ListN.{length}
use Rattle.text.specs.Text.{spliced}
use Rattle.board.specs.Board.{rows_of}
use Rattle.printer.specs.RowText.{rows_text}
use Rattle.printer.proofs.Boards.{left_of}
use Rattle.printer.proofs.put_rows.Given as goal

pub record Inv (l out₀ : List ℕ) (at : ℕ) (out : List ℕ) (i next : ℕ) : Type 0 where
  pub size : next + length (left_of l i) ≡ at + length (rows_text (rows_of l))
  pub text : spliced out next (left_of l i) ≡ spliced out₀ at (rows_text (rows_of l))

abbrev pub invariant-loop-i : goal.invariant-loop-i
invariant-loop-i l = Inv l.board l.initial.out l.at l.out l.i l.next
