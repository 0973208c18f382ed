-- `printer::put_rows` meets its contract: what is left, written from the place that is reached, makes what all rows make. Assumes nothing.
use mathlib.Core.Path.{◌≡◌, refl, sym, ◌∙◌}
use mathlib.Core.List.{List, ◌++◌}
use Prim.Native.Nat.{ℕ, ◌+◌, ◌-◌, ◌≤◌, ◌<◌}
use native.Mathlib.Omega.{arith}
use borrow.Rule.Slice.PartMut.{put_mid}
use lib.ListN.{length, get_or, take, drop, length-drop}
use Rattle.text.specs.Text.{spliced}
use Rattle.text.proofs.Splice.{spliced_next, spliced_none, lend_on}
use Rattle.shapes.proofs.Laws.{rest_all}
use Rattle.board.specs.Board.{rows_of}
use Rattle.printer.specs.RowText.{rows_text}
use Rattle.printer.specs.Asks.{RowsAsk}
use Rattle.printer.proofs.Boards.{board_long, flights_few, left_of, left_next, left_end, left_size, line, row_whole, row_good}
use Rattle.printer.proofs.put_rows.Invariants.{Inv}
use Rattle.printer.proofs.put_rows.Goals as goal

module _ {l out₀ out : List ℕ} {at i next : ℕ} (a : RowsAsk l out₀ at) (same : length out ≡ length out₀) (v : Inv l out₀ at out i next) where
  module _ (more : i < get_or l 0 0) where
    -- the line that a turn of the loop writes
    abbrev here : List ℕ
    here = line l a.good i more

    fits : next + length here ≤ length out
    fits = omega (arith, v.size, left_size l a.good i more, a.room, same)

    rest_fits : length here ≤ length (take (length out - next) (drop next out))
    rest_fits = rw (rest_all out next) (omega (arith, fits, length-drop next out))

    again : {n : ℕ} {ys : List ℕ} → n ≡ length here → ys ≡ spliced (take (length out - next) (drop next out)) 0 here
        → Inv l out₀ at (put_mid next (length out - next) out ys) (i + 1) (next + n)
    again {n} {ys} e y =
        let o = lend_on out here next y in
        let t : spliced out next (here ++ left_of l (i + 1)) ≡ spliced out₀ at (rows_text (rows_of l)) = rw (left_next l i more) at v.text in
        record { size = omega (arith, v.size, left_size l a.good i more, e); text = rw (o, e) (spliced_next out here (left_of l (i + 1)) next fits ∙ t) }

  done : get_or l 0 0 ≤ i → out ≡ spliced out₀ at (rows_text (rows_of l))
  done h = sym (spliced_none out next) ∙ (rw (left_end l i h) at v.text)

pub bounds-board-0 : goal.bounds-board-0
bounds-board-0 c = omega (arith, board_long c.args.board.now c.requires.good)

pub loop-i-init : goal.loop-i-init
loop-i-init c = record { size = refl; text = refl }

pub overflow_mul-i : goal.overflow_mul-i
overflow_mul-i c = omega (arith, flights_few c.args.board.now c.requires.good)

pub overflow_add-i : goal.overflow_add-i
overflow_add-i c = omega (arith, flights_few c.args.board.now c.requires.good)

pub slice_bounds-put-count : goal.slice_bounds-put-count
slice_bounds-put-count c = omega (arith, fits c.requires c.loop-i.auto.out c.loop-i.invariant (grind arith))

pub slice_bounds-put-start : goal.slice_bounds-put-start
slice_bounds-put-start c = omega (arith, fits c.requires c.loop-i.auto.out c.loop-i.invariant (grind arith))

pub put-size-requires : goal.put-size-requires
put-size-requires c =
    let l = c.args.board.now in
    record {
      p_in_bounds = row_whole l c.requires.good c.loop-i.i (grind arith);
      board_value = row_good l c.requires.good c.loop-i.i (grind arith);
      board_in_bounds = rest_fits c.requires c.loop-i.auto.out c.loop-i.invariant (grind arith);
    }

pub overflow_add-next : goal.overflow_add-next
overflow_add-next c = omega (arith, c.put-size.ensures.value, fits c.requires c.loop-i.auto.out c.loop-i.invariant (grind arith))

pub loop-i-preserved : goal.loop-i-preserved
loop-i-preserved c =
    again c.requires c.loop-i.auto.out c.loop-i.invariant (grind arith) c.put-size.ensures.value c.put-size.ensures.out_after

pub returns : goal.returns
returns c = done c.requires c.loop-i.auto.out c.loop-i.invariant (grind arith)
