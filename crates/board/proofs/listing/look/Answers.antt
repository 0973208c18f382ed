-- `look` meets its contract. Assumes nothing.
use Prim.Native.Nat.{ℕ}
use mathlib.Core.Path.{◌∙◌}
use mathlib.Core.List.{List}
use native.Mathlib.Omega.{arith}
use Rattle.board.specs.Rows.{find_in}
use Rattle.board.specs.Board.{rows_of}
use Rattle.board.proofs.Allowed.{cap_is, parts}
use Rattle.board.proofs.Ways.{at_back, gap_back, at_below, look_at, look_gap}
use Rattle.board.proofs.listing.look.Goals as goal

pub overflow_mul-i : goal.overflow_mul-i
overflow_mul-i c =
    let l : List ℕ = c.args.board.now in
    let i : ℕ = c.in-At.i in
    let e = at_back (find_in (rows_of l) c.args.key.0) i c.find-found.ensures c.in-At.is in
    let p = parts l c.requires in
    omega (arith, at_below l c.args.key.0 i e, p.size, p.count, cap_is)

pub overflow_add-i : goal.overflow_add-i
overflow_add-i c =
    let l : List ℕ = c.args.board.now in
    let i : ℕ = c.in-At.i in
    let e = at_back (find_in (rows_of l) c.args.key.0) i c.find-found.ensures c.in-At.is in
    let p = parts l c.requires in
    omega (arith, at_below l c.args.key.0 i e, p.size, p.count, cap_is)

pub row_at-requires : goal.row_at-requires
row_at-requires c =
    let l : List ℕ = c.args.board.now in
    let i : ℕ = c.in-At.i in
    let e = at_back (find_in (rows_of l) c.args.key.0) i c.find-found.ensures c.in-At.is in
    let p = parts l c.requires in
    omega (arith, at_below l c.args.key.0 i e, p.size, p.count, cap_is)

pub returns-in-At : goal.returns-in-At
returns-in-At c =
    let l : List ℕ = c.args.board.now in
    let i : ℕ = c.in-At.i in
    let e = at_back (find_in (rows_of l) c.args.key.0) i c.find-found.ensures c.in-At.is in
    c.row_at.ensures ∙ look_at l c.args.key.0 i e

pub returns-in-Gap : goal.returns-in-Gap
returns-in-Gap c =
    let l : List ℕ = c.args.board.now in
    let i : ℕ = c.in-Gap.field-0 in
    let e = gap_back (find_in (rows_of l) c.args.key.0) i c.find-found.ensures c.in-Gap.is in
    look_gap l c.args.key.0 i c.requires e
