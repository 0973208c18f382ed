-- `fill` meets its contract. Assumes nothing.
use native.Mathlib.Omega.{arith}
use borrow.Author.Rules.{rules}
use Rattle.intake.proofs.Days.{kept_lines, kept_taken}
use Rattle.intake.proofs.Fills.{fills_nothing, fills_none, fills_all, inside}
use Rattle.intake.proofs.fill.Goals as goal

pub returns-in_default-clause-fills : goal.returns-in_default-clause-fills
returns-in_default-clause-fills c =
    let e = c.print.ensures in
    fills_nothing _ c.args.day _ (search rules) _ _ (e.value, e.out_after) c.in_default.not-Ok

pub overflow_cast-day : goal.overflow_cast-day
overflow_cast-day c = omega (arith, kept_lines _ _ c.args.day c.requires.1)

pub overflow_cast-day-2 : goal.overflow_cast-day-2
overflow_cast-day-2 c = omega (arith, kept_taken _ _ c.args.day c.requires.1)

pub returns-in_default-print_counts-clause-fills : goal.returns-in_default-print_counts-clause-fills
returns-in_default-print_counts-clause-fills c =
    let e = c.print.ensures in
    let k = c.print_counts.ensures in
    fills_none _ c.args.day _ (search rules) _ _ (e.value, e.out_after) _ c.in-Ok.is _ _ (k.value, k.out_after) c.in_default-print_counts.not-Ok

pub returns : goal.returns
returns c =
    let e = c.print.ensures in
    let k = c.print_counts.ensures in
    let m = c.in-Ok-print_counts.is in
    record {
      upper_bound = inside _ c.args.day _ (search rules) _ _ (e.value, e.out_after) _ c.in-Ok.is _ _ (k.value, k.out_after) _ m;
      fills = fills_all _ c.args.day _ (search rules) _ _ (e.value, e.out_after) _ c.in-Ok.is _ _ (k.value, k.out_after) _ m;
    }
