-- `checks::step` meets its contract. Assumes nothing.
use Rattle.checks.proofs.Steps.{step_none, step_verdict, step_line}
use Rattle.checks.proofs.step.Goals as goal

pub say-next-requires : goal.say-next-requires
say-next-requires c =
    record {
      verdict_value = step_verdict c.args.asked _ c.args.sums _ c.args.out.now c.args.at c.requires.allowed c.cut-done.result _ (c.cut-done.ensures.value, (c.cut-done.ensures.held_after, c.cut-done.ensures.cut_is)) _ c.judge-judged.ensures _ c.in-Some.is;
      longest_saying_in_bounds = c.requires.roomy;
    }

pub returns-in-Some : goal.returns-in-Some
returns-in-Some c =
    step_line c.args.asked _ c.args.sums _ c.args.out.now c.args.at c.requires.allowed c.cut-done.result _ (c.cut-done.ensures.value, (c.cut-done.ensures.held_after, c.cut-done.ensures.cut_is)) _ c.judge-judged.ensures _ c.in-Some.is c.requires.more _ _ (c.say-next.ensures.value, c.say-next.ensures.out_after) _ c.count-sums.ensures

pub returns-in-None : goal.returns-in-None
returns-in-None c =
    step_none c.args.asked _ c.args.sums _ c.args.out.now c.args.at c.requires.allowed c.cut-done.result _ (c.cut-done.ensures.value, (c.cut-done.ensures.held_after, c.cut-done.ensures.cut_is)) c.requires.more _ c.judge-judged.ensures c.in-None.is
