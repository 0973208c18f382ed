-- `meanings::ages::age_at` meets its contract: each way out is one law of the age. Assumes nothing.
use mathlib.Core.Path.{sym, ◌∙◌}
use Prim.Native.Nat.{◌≤◌, ◌<◌}
use native.Mathlib.Omega.{arith}
use Rattle.meanings.proofs.AgeWays.{same_day, day_before_lem, ahead, old}
use Rattle.meanings.proofs.ages.age_at.Goals as goal

pub returns-then-stamped-moment-2 : goal.returns-then-stamped-moment-2
returns-then-stamped-moment-2 c =
    let h : c.args.moment.seconds < c.args.stamped.seconds = omega (arith, c.if-stamped-moment-2.true) in
    ahead _ _ _ c.requires.le_last c.requires.ranged.day_least c.if-stamped-moment.true h

pub returns-then-stamped-moment : goal.returns-then-stamped-moment
returns-then-stamped-moment c =
    let h : c.args.stamped.seconds ≤ c.args.moment.seconds = omega (arith, c.if-stamped-moment-2.false) in
    same_day _ _ _ c.if-stamped-moment.true h

pub day_before-requires : goal.day_before-requires
day_before-requires c = c.requires.ranged.day_least

pub returns-then-stamped-day_before : goal.returns-then-stamped-day_before
returns-then-stamped-day_before c =
    let p = c.requires in
    day_before_lem _ _ _ p.le_last p.ranged.day_least (c.if-stamped-day_before.true ∙ c.day_before.ensures)

pub returns : goal.returns
returns c = old _ _ _ c.if-stamped-moment.false (λ q. c.if-stamped-day_before.false (q ∙ sym c.day_before.ensures))
