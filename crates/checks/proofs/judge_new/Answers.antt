-- `checks::judge_new` meets its contract. Assumes nothing.
use Rattle.std.specs.Prelude.{Err, Ok}
use Rattle.rules.specs.declared.Rule.TheVariants.{New}
use Rattle.checks.proofs.Ways.{answer_judged}
use Rattle.checks.proofs.judge_new.Goals as goal

pub returns-in-Ok : goal.returns-in-Ok
returns-in-Ok c = answer_judged New _ _ c.read.ensures.value (Ok _) c.in-Ok.is c.of_body.ensures

pub returns-in-Err : goal.returns-in-Err
returns-in-Err c = answer_judged New _ _ c.read.ensures.value (Err _) c.in-Err.is c.of_refusal.ensures
