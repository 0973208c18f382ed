-- `keys_rise` meets its contract. Assumes nothing.
use mathlib.Core.Path.{◌≡◌}
use Prim.Native.Nat.{◌+◌, ◌*◌, ◌-◌, ◌≤◌}
use lib.ListN.{get_or, drop}
use Rattle.board.specs.Rows.{above, rises}
use Rattle.board.specs.Board.{W, read_rows}
use Rattle.board.proofs.keys_rise.Given as goal

abbrev pub invariant-loop-i : goal.invariant-loop-i
invariant-loop-i l = l.i ≤ l.n → rises (read_rows l.n (drop 1 l.board)) ≡ above (get_or l.board (1 + W * (l.i - 1)) 0) (drop l.i (read_rows l.n (drop 1 l.board)))
