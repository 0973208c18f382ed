-- `rows_hold` meets its contract. Assumes nothing.
use mathlib.Core.Path.{◌≡◌}
use lib.ListN.{drop}
use Rattle.board.specs.Board.{rows_hold}
use Rattle.board.proofs.Finds.{hold_from}
use Rattle.board.proofs.rows_hold.Given as goal

abbrev pub invariant-loop-i : goal.invariant-loop-i
invariant-loop-i l = rows_hold l.n (drop 1 l.board) ≡ hold_from l.board l.n l.i
