-- `meanings::ages::age` meets its contract: what is out of range is refused, and the rest is the age of two moments.
-- Assumes nothing.
use Rattle.std.specs.Prelude.{Some}
use mathlib.Core.Path.{sym, ap, ◌∙◌}
use Prim.Native.Nat.{◌≤◌, ◌<◌}
use native.Mathlib.Omega.{arith}
use Rattle.meanings.specs.Cases.{OutOfRange, NowOut, StampOut, LastUnder, LastOver}
use Rattle.meanings.proofs.Moments.{ranged}
use Rattle.meanings.proofs.AgeWays.{in_range_lem, out_of_range}
use Rattle.meanings.proofs.Cases.{in_age_case}
use Rattle.meanings.proofs.ages.age.Goals as goal
use Rattle.meanings.proofs.ages.age.Goals.{then-last-lt28-via-then-last-lt28, then-last-lt28-via-else-last-lt28+then-last-gt31}

pub returns-in_err-moment : goal.returns-in_err-moment
returns-in_err-moment c =
    let both = in_age_case (c.from_residual.ensures ∙ out_of_range (NowOut (sym c.in_err-moment.ensures))) in
    record { value = both.0; age_is = both.1 }

pub returns-in_err-stamped : goal.returns-in_err-stamped
returns-in_err-stamped c =
    let both = in_age_case (c.from_residual-in_err-stamped.ensures ∙ out_of_range (StampOut (sym c.in_err-stamped.ensures))) in
    record { value = both.0; age_is = both.1 }

pub returns-then-last-lt28 : goal.returns-then-last-lt28
returns-then-last-lt28 c =
    let out : OutOfRange c.args.now.0 c.args.last c.args.stamp.0 =
    elim c.then-last-lt28.branch [
      | then-last-lt28-via-then-last-lt28 w ↦ (let h : c.args.last < 28 = omega (arith, w.if-last-lt28.true) in LastUnder h)
      | then-last-lt28-via-else-last-lt28+then-last-gt31 w ↦ (let h : 31 < c.args.last = omega (arith, w.if-last-gt31.true) in LastOver h)
    ] in
    let both = in_age_case (out_of_range out) in
    record { value = both.0; age_is = both.1 }

pub age_at-requires : goal.age_at-requires
age_at-requires c =
    let l : 28 ≤ c.args.last = omega (arith, c.if-last-lt28.false) in
    record { le_last = l; ranged = ranged _ _ (sym c.in_ok-moment.ensures); ranged_2 = ranged _ _ (sym c.in_ok-stamped.ensures) }

pub returns : goal.returns
returns c =
    let l : 28 ≤ c.args.last = omega (arith, c.if-last-lt28.false) in
    let h : c.args.last ≤ 31 = omega (arith, c.if-last-gt31.false) in
    let both = in_age_case (ap Some c.age_at.ensures ∙ in_range_lem (record { now_at = sym c.in_ok-moment.ensures; stamp_at = sym c.in_ok-stamped.ensures; last_least = l; last_most = h })) in
    record { value = both.0; age_is = both.1 }
