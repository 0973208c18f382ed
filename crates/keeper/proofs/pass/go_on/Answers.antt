-- `go_on` meets its contract: window after window, the pass stands where a file of that size would have it. Assumes nothing.
use mathlib.Core.Path.{refl, ◌∙◌}
use native.Mathlib.Omega.{arith}
use Rattle.text.proofs.Logic.{so, not_so}
use Rattle.keeper.proofs.Passes.{going_first, going_on, less_to_go, pass_none, pass_ended}
use Rattle.keeper.proofs.pass.go_on.Goals as goal

pub returns-then-day-eq0 : goal.returns-then-day-eq0
returns-then-day-eq0 c = pass_none c.start-shelf.result c.requires.told c.start-shelf.ensures c.if-day-eq0.true

pub loop-volume-init : goal.loop-volume-init
loop-volume-init c = (going_first c.start-shelf.result c.requires.told c.start-shelf.ensures (omega (arith, c.if-day-eq0.false)), refl, refl)

pub turn-pass-requires : goal.turn-pass-requires
turn-pass-requires c =
    let l = c.loop-volume.invariant in
    record { passing = l.0.passing; to_go = l.0.to_go; lines_len = (l.1 ∙ c.requires.lines_len.0, l.2 ∙ c.requires.lines_len.1) }

pub loop-volume-smaller : goal.loop-volume-smaller
loop-volume-smaller c = less_to_go c.loop-volume.pass c.turn-pass.result c.turn-pass.ensures (so c.is_on.ensures c.if-not-is_on.false-raw)

pub loop-volume-preserved : goal.loop-volume-preserved
loop-volume-preserved c =
    let k = c.turn-pass.auto in
    (going_on c.loop-volume.pass c.turn-pass.result c.turn-pass.ensures (so c.is_on.ensures c.if-not-is_on.false-raw), k.lines ∙ c.loop-volume.invariant.1, k.index ∙ c.loop-volume.invariant.2)

pub returns-then-not-is_on : goal.returns-then-not-is_on
returns-then-not-is_on c = pass_ended c.loop-volume.pass c.turn-pass.result c.turn-pass.ensures (not_so c.is_on.ensures c.if-not-is_on.true-raw)
