-- `half_left` meets its contract. Assumes nothing.
use Prim.Native.Nat.{◌+◌, ◌/◌}
use mathlib.Core.Path.{sym, ap}
use mathlib.Core.Bool.{Bool, cond}
use borrow.Author.Tests.{le-leb, lt-leb}
use native.Mathlib.Omega.{arith}
use Rattle.board.specs.Halving.{key_at}
use Rattle.board.proofs.halving.half_left.Goals as goal

pub returns-then-board-middle : goal.returns-then-board-middle
returns-then-board-middle c = let a = c.args in
    sym (ap (λ (b : Bool). cond b (a.first + a.width / 2) a.first) (le-leb _ _ c.if-board-middle.true))

pub returns : goal.returns
returns c = let a = c.args in
    sym (ap (λ (b : Bool). cond b (a.first + a.width / 2) a.first) (lt-leb (key_at a.board.now (a.first + a.width / 2)) a.key (omega (arith, c.if-board-middle.false))))
