-- `work::is_on` meets its contract. Assumes nothing.
use Rattle.text.proofs.Logic.{so, not_so}
use Rattle.keeper.proofs.Ways.{on_ended, on_shut, on_free}
use Rattle.keeper.proofs.work.is_on.Goals as goal

pub returns-then-not-is_live : goal.returns-then-not-is_live
returns-then-not-is_live c = on_ended c.args.work (not_so c.is_live.ensures c.if-not-is_live.true-raw)

pub returns-then-not-is_live-2 : goal.returns-then-not-is_live-2
returns-then-not-is_live-2 c =
    on_shut c.args.work (so c.is_live.ensures c.if-not-is_live.false-raw) (not_so c.is_live-2.ensures c.if-not-is_live-2.true-raw)

pub returns : goal.returns
returns c =
    on_free c.args.work (so c.is_live.ensures c.if-not-is_live.false-raw) (so c.is_live-2.ensures c.if-not-is_live-2.false-raw)
