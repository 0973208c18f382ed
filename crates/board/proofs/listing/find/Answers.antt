-- `find` meets its contract. Assumes nothing.
use Prim.Native.Nat.{◌<◌}
use mathlib.Core.Path.{sym, ap}
use native.Mathlib.Omega.{arith}
use Rattle.board.specs.Board.{found_of}
use Rattle.board.specs.Halving.{key_at}
use Rattle.board.proofs.Allowed.{cap_is, parts}
use Rattle.board.proofs.Halves.{place_none, left_tells, place_at, place_after, place_before}
use Rattle.board.proofs.listing.find.Goals as goal

pub bounds-board-0 : goal.bounds-board-0
bounds-board-0 c = omega (arith, (parts _ c.requires).size)

pub returns-then-n-eq0 : goal.returns-then-n-eq0
returns-then-n-eq0 c = sym (ap found_of (place_none c.args.board.now c.args.key.0 c.if-n-eq0.true))

pub overflow_mul-left : goal.overflow_mul-left
overflow_mul-left c = omega (arith, c.one_left-i.ensures.row, (parts _ c.requires).count, cap_is)

pub overflow_add-left : goal.overflow_add-left
overflow_add-left c = omega (arith, c.one_left-i.ensures.row, (parts _ c.requires).count, cap_is)

pub offset_bounds-board-i : goal.offset_bounds-board-i
offset_bounds-board-i c = omega (arith, c.one_left-i.ensures.row, (parts _ c.requires).count, cap_is)

pub bounds-board-i : goal.bounds-board-i
bounds-board-i c = let p = parts _ c.requires in
    omega (arith, c.one_left-i.ensures.row, p.size, p.count)

pub returns-then-left-key : goal.returns-then-left-key
returns-then-left-key c = let a = c.args in
    let left = c.one_left-i.ensures in
    left_tells a.board.now a.key.0 left (place_at _ _ _ left.row c.if-left-key.true)

pub overflow_add-result : goal.overflow_add-result
overflow_add-result c = omega (arith, c.one_left-i.ensures.row, (parts _ c.requires).count, cap_is)

pub returns-then-left-key-2 : goal.returns-then-left-key-2
returns-then-left-key-2 c = let a = c.args in
    let left = c.one_left-i.ensures in
    left_tells a.board.now a.key.0 left (place_after _ _ _ left.row c.if-left-key-2.true)

pub returns : goal.returns
returns c = let a = c.args in
    let left = c.one_left-i in
    let after : a.key.0 < key_at a.board.now left.result = omega (arith, c.if-left-key.false, c.if-left-key-2.false) in
    left_tells a.board.now a.key.0 left.ensures (place_before _ _ _ left.ensures.row after)
