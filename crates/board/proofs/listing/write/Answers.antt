-- `write` meets its contract. Assumes nothing.
use Prim.Native.Nat.{ℕ, ◌+◌, ◌*◌}
use mathlib.Core.Path.{sym, ap, ◌∙◌, subst}
use mathlib.Core.List.{List}
use native.Mathlib.Omega.{arith}
use lib.ListN.{get_or, set, length-set}
use Rattle.board.specs.Rows.{find_in}
use Rattle.board.specs.Board.{W, rows_of}
use Rattle.board.proofs.Allowed.{cap_is, parts}
use Rattle.text.specs.Text.{spliced}
use Rattle.board.specs.Row.{row_words}
use Rattle.board.specs.Posts.{Wrote}
use Rattle.board.proofs.Ways.{at_back, gap_back, at_below, gap_below, write_at, write_full, write_in}
use Rattle.board.proofs.listing.write.Goals as goal

pub overflow_mul-i : goal.overflow_mul-i
overflow_mul-i c =
    let l : List ℕ = c.args.board.now in
    let i : ℕ = c.in-At.i in
    let e = at_back (find_in (rows_of l) c.args.row.key.0) i c.find-found.ensures c.in-At.is in
    let p = parts l c.requires.0 in
    omega (arith, at_below l c.args.row.key.0 i e, p.size, p.count, cap_is)

pub overflow_add-i : goal.overflow_add-i
overflow_add-i c =
    let l : List ℕ = c.args.board.now in
    let i : ℕ = c.in-At.i in
    let e = at_back (find_in (rows_of l) c.args.row.key.0) i c.find-found.ensures c.in-At.is in
    let p = parts l c.requires.0 in
    omega (arith, at_below l c.args.row.key.0 i e, p.size, p.count, cap_is)

pub put_row-requires : goal.put_row-requires
put_row-requires c =
    let l : List ℕ = c.args.board.now in
    let i : ℕ = c.in-At.i in
    let e = at_back (find_in (rows_of l) c.args.row.key.0) i c.find-found.ensures c.in-At.is in
    let p = parts l c.requires.0 in
    omega (arith, at_below l c.args.row.key.0 i e, p.size, p.count)

pub bounds-board-0 : goal.bounds-board-0
bounds-board-0 c = omega (arith, (parts _ c.requires.0).size)

pub returns-then-n : goal.returns-then-n
returns-then-n c =
    let l : List ℕ = c.args.board.now in
    let i : ℕ = c.in-Gap.i in
    let e = gap_back (find_in (rows_of l) c.args.row.key.0) i c.find-found.ensures c.in-Gap.is in
    write_full l c.requires.0 c.args.row c.requires.1 i e (omega (arith, cap_is, c.if-n.true))

pub open_gap-requires : goal.open_gap-requires
open_gap-requires c =
    let l : List ℕ = c.args.board.now in
    let i : ℕ = c.in-Gap.i in
    let e = gap_back (find_in (rows_of l) c.args.row.key.0) i c.find-found.ensures c.in-Gap.is in
    (gap_below l c.args.row.key.0 i e, omega (arith, (parts l c.requires.0).size, cap_is, c.if-n.false))

pub overflow_mul-i-in-Gap : goal.overflow_mul-i-in-Gap
overflow_mul-i-in-Gap c =
    let l : List ℕ = c.args.board.now in
    let i : ℕ = c.in-Gap.i in
    let e = gap_back (find_in (rows_of l) c.args.row.key.0) i c.find-found.ensures c.in-Gap.is in
    omega (arith, gap_below l c.args.row.key.0 i e, (parts l c.requires.0).count, cap_is)

pub overflow_add-i-in-Gap : goal.overflow_add-i-in-Gap
overflow_add-i-in-Gap c =
    let l : List ℕ = c.args.board.now in
    let i : ℕ = c.in-Gap.i in
    let e = gap_back (find_in (rows_of l) c.args.row.key.0) i c.find-found.ensures c.in-Gap.is in
    omega (arith, gap_below l c.args.row.key.0 i e, (parts l c.requires.0).count, cap_is)

pub put_row-requires-in-Gap : goal.put_row-requires-in-Gap
put_row-requires-in-Gap c =
    let l : List ℕ = c.args.board.now in
    let i : ℕ = c.in-Gap.i in
    let e = gap_back (find_in (rows_of l) c.args.row.key.0) i c.find-found.ensures c.in-Gap.is in
    omega (arith, gap_below l c.args.row.key.0 i e, (parts l c.requires.0).size, cap_is, c.if-n.false, c.open_gap.auto.board)

pub bounds-board-0-in-Gap : goal.bounds-board-0-in-Gap
bounds-board-0-in-Gap c = omega (arith, (parts _ c.requires.0).size, c.put_row-in-Gap.auto.words, c.open_gap.auto.board)

pub returns-in-At : goal.returns-in-At
returns-in-At c =
    let l : List ℕ = c.args.board.now in
    let i : ℕ = c.in-At.i in
    let e = at_back (find_in (rows_of l) c.args.row.key.0) i c.find-found.ensures c.in-At.is in
    subst (Wrote l c.args.row _) (sym c.put_row.ensures) (write_at l c.requires.0 c.args.row c.requires.1 i e)

pub shape_of-board-else-n : goal.shape_of-board-else-n
shape_of-board-else-n c = simp length-set (c.put_row-in-Gap.auto.words ∙ c.open_gap.auto.board)

pub returns-else-n : goal.returns-else-n
returns-else-n c =
    let l : List ℕ = c.args.board.now in
    let i : ℕ = c.in-Gap.i in
    let e = gap_back (find_in (rows_of l) c.args.row.key.0) i c.find-found.ensures c.in-Gap.is in
    let q = c.put_row-in-Gap.ensures ∙ ap (λ (x : List ℕ). spliced x (1 + W * i) (row_words c.args.row)) c.open_gap.ensures in
    subst (Wrote l c.args.row _) (ap (λ (x : List ℕ). set x 0 (get_or l 0 0 + 1)) (sym q))
    (write_in l c.requires.0 c.args.row c.requires.1 i e (omega (arith, cap_is, c.if-n.false)))
