-- `checks::end` meets its contract. Assumes nothing.
use native.Mathlib.Omega.{arith}
use Rattle.checks.proofs.Torn.{torn_verdict, is_inside, end_inside, end_start}
use borrow.Enum.Refused.{opened}
use Rattle.checks.proofs.end.Goals as goal

pub overflow_add-sums : goal.overflow_add-sums
overflow_add-sums c = omega (arith, c.requires.few (is_inside _ c.args.sums c.requires.allowed _ c.end-end.ensures.end_is c.in-InsideLine.is))

pub put-requires : goal.put-requires
put-requires c = record { verdict_value = torn_verdict; longest_saying_in_bounds = omega (arith, c.requires.roomy) }

pub returns-in-InsideLine : goal.returns-in-InsideLine
returns-in-InsideLine c =
    let both = end_inside _ c.args.sums c.requires.allowed _ c.end-end.ensures.end_is c.in-InsideLine.is _ (c.put.ensures.value, c.put.ensures.out_after) in
    record { value = both.0; out_after = both.1.0; ends_feed = both.1.1 }

pub returns-in_default : goal.returns-in_default
returns-in_default c =
    let both = end_start _ c.args.sums c.requires.allowed _ c.end-end.ensures.end_is (opened c.in_default.in_default-own.keys2) _ in
    record { value = both.0; out_after = both.1.0; ends_feed = both.1.1 }
