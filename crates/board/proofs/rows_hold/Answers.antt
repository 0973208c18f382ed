-- `rows_hold` meets its contract. Assumes nothing.
use mathlib.Core.Path.{sym, ◌∙◌}
use native.Mathlib.Omega.{arith}
use Rattle.text.proofs.Logic.{so, not_so}
use Rattle.board.proofs.Finds.{hold_first, hold_more, hold_not, hold_end}
use Rattle.board.proofs.rows_hold.Goals as goal

pub loop-i-init : goal.loop-i-init
loop-i-init c = hold_first c.args.board.now c.args.n

pub returns-then-not-is_row : goal.returns-then-not-is_row
returns-then-not-is_row c = let a = c.args in
    let o = c.loop-i in
    sym (o.invariant ∙ hold_not a.board.now a.n o.i (omega arith) (not_so c.is_row.ensures c.if-not-is_row.true-raw))

pub loop-i-preserved : goal.loop-i-preserved
loop-i-preserved c = let a = c.args in
    let o = c.loop-i in
    o.invariant ∙ hold_more a.board.now a.n o.i (omega arith) (so c.is_row.ensures c.if-not-is_row.false-raw)

pub returns : goal.returns
returns c = let a = c.args in
    let o = c.loop-i in
    sym (o.invariant ∙ hold_end a.board.now a.n o.i (omega arith))
