-- `strike` meets its contract. Assumes nothing.
use Rattle.std.specs.Prelude.{Err}
use mathlib.Core.Path.{refl, sym, ap, ◌∙◌}
use borrow.Author.Tests.{not-true, not-false}
use Rattle.planner.proofs.Ways.{handed_err, no_key_told, strike_no_key, strike_damaged, strike_gone, strike_missing}
use Rattle.planner.proofs.Cases.{in_strike_case}
use Rattle.planner.proofs.strike.Goals as goal

pub returns-in_err-key : goal.returns-in_err-key
returns-in_err-key c =
    let told = strike_no_key _ _ _ c.read.ensures c.in_err-key.ensures.ok_part in
    let both = in_strike_case _ _ (handed_err _ _ c.from_residual.ensures.1 ∙ ap Err (no_key_told _ _ c.in_err-key.ensures.ok_part c.in_err-key.ensures.value) ∙ told.0, told.1) in
    record { value = both.0; board_after = both.1.0; strike_case = both.1.1 }

pub returns-then-not-is_allowed : goal.returns-then-not-is_allowed
returns-then-not-is_allowed c =
    let both = in_strike_case _ _ (strike_damaged _ _ _ c.read.ensures _ c.in_ok-key.ensures.ok_part (sym c.is_allowed.ensures ∙ not-true _ c.if-not-is_allowed.true-raw)) in
    record { value = both.0; board_after = both.1.0; strike_case = both.1.1 }

pub strike-requires : goal.strike-requires
strike-requires c = sym c.is_allowed.ensures ∙ not-false _ c.if-not-is_allowed.false-raw

pub returns-in_err-strike : goal.returns-in_err-strike
returns-in_err-strike c =
    let told = strike_missing _ _ _ c.read.ensures _ c.in_ok-key.ensures.ok_part (sym c.is_allowed.ensures ∙ not-false _ c.if-not-is_allowed.false-raw) _ _ c.in_err-strike.ensures refl in
    let both = in_strike_case _ _ (handed_err _ _ c.from_residual-in_err-strike.ensures.1 ∙ told.0, told.1) in
    record { value = both.0; board_after = both.1.0; strike_case = both.1.1 }

pub returns : goal.returns
returns c =
    let both = in_strike_case _ _ (strike_gone _ _ _ c.read.ensures _ c.in_ok-key.ensures.ok_part (sym c.is_allowed.ensures ∙ not-false _ c.if-not-is_allowed.false-raw) _ _ c.in_ok-strike.ensures refl) in
    record { value = both.0; board_after = both.1.0; strike_case = both.1.1 }
