-- `checking::finish` meets its contract. Assumes nothing.
use native.Mathlib.Omega.{arith}
use mathlib.Core.Path.{sym}
use lib.Seq.{length-take-le}
use Rattle.text.proofs.Logic.{so, not_so}
use Rattle.checks.proofs.Torn.{torn_inside}
use Rattle.intake.proofs.Desks.{end_ready, done_closed, end_next, end_done}
use Rattle.intake.proofs.checking.finish.Goals as goal

pub returns-then-not-is_live : goal.returns-then-not-is_live
returns-then-not-is_live c = done_closed c.args.asked _ c.args.work c.requires.whole (not_so c.is_live.ensures c.if-not-is_live.true-raw)

pub end-size-requires : goal.end-size-requires
end-size-requires c = end_ready c.args.asked _ c.args.work c.requires.whole _ (omega arith) c.requires.longest_saying_in_bounds

pub slice_bounds-hand_over-end : goal.slice_bounds-hand_over-end
slice_bounds-hand_over-end c = torn_inside _ _ _ c.requires.longest_saying_in_bounds c.end-size.ensures.value c.end-size.ensures.out_after

pub slice_bounds-hand_over-end-2 : goal.slice_bounds-hand_over-end-2
slice_bounds-hand_over-end-2 c = sym (length-take-le _ _ (torn_inside _ _ _ c.requires.longest_saying_in_bounds c.end-size.ensures.value c.end-size.ensures.out_after))

pub hand_over-output-requires : goal.hand_over-output-requires
hand_over-output-requires c =
    end_next c.args.asked _ c.args.work c.requires.whole (so c.is_live.ensures c.if-not-is_live.false-raw) _ c.end-size.ensures.ends_feed

pub returns : goal.returns
returns c =
    end_done c.args.asked _ c.args.work c.requires.whole (so c.is_live.ensures c.if-not-is_live.false-raw) _ c.end-size.ensures.ends_feed c.hand_over-output.result c.hand_over-output.ensures
