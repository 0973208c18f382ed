-- `work::close` meets its contract. Assumes nothing.
use Prim.Native.Nat.{ℕ}
use native.Mathlib.Omega.{arith}
use mathlib.Core.Path.{sym, ◌∙◌}
use lib.ListN.{length-replicate}
use lib.Seq.{length-take-le}
use Rattle.text.proofs.Logic.{so, not_so}
use Rattle.keeper.proofs.Closings.{closes_shut, few, index_size, index_room, trailer_ready, closing_piece, closes}
use Rattle.keeper.proofs.work.close.Goals as goal

pub returns-then-not-is_live : goal.returns-then-not-is_live
returns-then-not-is_live c = closes_shut _ c.args.work (not_so c.is_live.ensures c.if-not-is_live.true-raw)

pub overflow_mul-size : goal.overflow_mul-size
overflow_mul-size c = omega (arith, few _ c.args.work c.requires)

pub overflow_add-size : goal.overflow_add-size
overflow_add-size c = omega (arith, few _ c.args.work c.requires)

pub slice_bounds-put_index-end : goal.slice_bounds-put_index-end
slice_bounds-put_index-end c = sym (index_size _ c.args.work c.requires)

pub put_index-requires : goal.put_index-requires
put_index-requires c = index_room _ c.args.work c.requires _ (length-replicate {A = ℕ} 262148 0)

pub overflow_mul-count : goal.overflow_mul-count
overflow_mul-count c = omega (arith, few _ c.args.work c.requires)

pub put_trailer-requires : goal.put_trailer-requires
put_trailer-requires c =
    let both = trailer_ready _ c.args.work c.requires _ c.version_1.ensures _ (c.put_index.auto.out ∙ length-replicate {A = ℕ} 262148 0) in
    record { place_value = both.1.0; trailer_in_bounds = both.1.1 }

pub slice_bounds-closing-end : goal.slice_bounds-closing-end
slice_bounds-closing-end c = omega (arith, few _ c.args.work c.requires)

pub slice_bounds-put_day-end : goal.slice_bounds-put_day-end
slice_bounds-put_day-end c =
    sym (length-take-le _ _ (omega (arith, few _ c.args.work c.requires, c.put_trailer.auto.out, c.put_index.auto.out, length-replicate {A = ℕ} 262148 0)))

pub put_day-requires : goal.put_day-requires
put_day-requires c =
    closing_piece _ c.args.work c.requires _ _ _ c.version_1.result c.version_1.ensures (length-replicate {A = ℕ} 262148 0) c.put_index.ensures c.put_trailer.ensures
    (so c.is_live.ensures c.if-not-is_live.false-raw)

pub returns : goal.returns
returns c =
    closes _ c.args.work c.requires _ _ _ c.version_1.result c.version_1.ensures (length-replicate {A = ℕ} 262148 0) c.put_index.ensures c.put_trailer.ensures
    (so c.is_live.ensures c.if-not-is_live.false-raw) c.put_day.result c.put_day.ensures
