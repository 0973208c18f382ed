-- `meanings::ages::day_before` meets its contract. Assumes nothing.
use mathlib.Core.Path.{◌≡◌, sym}
use native.Mathlib.Omega.{arith}
use Rattle.meanings.proofs.AgeWays.{before_first, before_other}
use Rattle.meanings.proofs.ages.day_before.Goals as goal

pub returns-then-day-eq1 : goal.returns-then-day-eq1
returns-then-day-eq1 c = let e : c.args.day ≡ 1 = omega (arith, c.if-day-eq1.true) in sym (before_first _ _ e)

pub returns : goal.returns
returns c = let f : c.args.day ≡ 1 → ⊥ = λ e. omega (arith, e, c.if-day-eq1.false) in sym (before_other _ _ f)
