-- `printer::board_size` meets its contract: what is counted and what is left make the whole, and that is short. Assumes nothing.
use mathlib.Core.Path.{◌≡◌}
use Prim.Native.Nat.{◌+◌}
use lib.ListN.{length}
use Rattle.printer.specs.Print.{text_in}
use Rattle.printer.proofs.Boards.{left_of}
use Rattle.printer.proofs.board_size.Given as goal

abbrev pub invariant-loop-i : goal.invariant-loop-i
invariant-loop-i l = l.total + length (left_of l.board l.i) ≡ length (text_in l.board)
