-- `strike` meets its contract. Assumes nothing.
use Prim.Native.Nat.{ℕ, ◌-◌}
use mathlib.Core.Path.{sym, ap, subst}
use Rattle.board.specs.Posts.{Stricken}
use mathlib.Core.List.{List}
use native.Mathlib.Omega.{arith}
use lib.ListN.{get_or, set}
use Rattle.board.specs.Rows.{find_in}
use Rattle.board.specs.Board.{rows_of}
use Rattle.board.proofs.Allowed.{parts}
use Rattle.board.proofs.Ways.{at_back, gap_back, at_below, strike_at, strike_missing}
use Rattle.board.proofs.listing.strike.Goals as goal

pub bounds-board-0 : goal.bounds-board-0
bounds-board-0 c = omega (arith, (parts _ c.requires).size)

pub close_gap-requires : goal.close_gap-requires
close_gap-requires c =
    let l : List ℕ = c.args.board.now in
    let i : ℕ = c.in-At.i in
    let e = at_back (find_in (rows_of l) c.args.key.0) i c.find-found.ensures c.in-At.is in
    let p = parts l c.requires in
    (at_below l c.args.key.0 i e, omega (arith, p.size, p.count))

pub overflow_sub-board : goal.overflow_sub-board
overflow_sub-board c =
    let l : List ℕ = c.args.board.now in
    let i : ℕ = c.in-At.i in
    let e = at_back (find_in (rows_of l) c.args.key.0) i c.find-found.ensures c.in-At.is in
    omega (arith, at_below l c.args.key.0 i e)

pub bounds-board-0-in-At : goal.bounds-board-0-in-At
bounds-board-0-in-At c = omega (arith, (parts _ c.requires).size, c.close_gap.auto.board)

pub returns-in-At : goal.returns-in-At
returns-in-At c =
    let l : List ℕ = c.args.board.now in
    let i : ℕ = c.in-At.i in
    let e = at_back (find_in (rows_of l) c.args.key.0) i c.find-found.ensures c.in-At.is in
    subst (Stricken l c.args.key.0 _) (ap (λ (x : List ℕ). set x 0 (get_or l 0 0 - 1)) (sym c.close_gap.ensures))
    (strike_at l c.requires c.args.key.0 i e)

pub returns-in-Gap : goal.returns-in-Gap
returns-in-Gap c =
    let l : List ℕ = c.args.board.now in
    let i : ℕ = c.in-Gap.field-0 in
    let e = gap_back (find_in (rows_of l) c.args.key.0) i c.find-found.ensures c.in-Gap.is in
    strike_missing l c.requires c.args.key.0 i e
