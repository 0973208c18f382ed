-- `output::hand_over` meets its contract. Assumes nothing.
use Rattle.text.proofs.Logic.{true_false}
use Rattle.intake.proofs.output.Output.hand_over.Goals as goal

pub returns-then-text-self : goal.returns-then-text-self
returns-then-text-self c = λ q. true_false q c.closed.ensures

pub returns-in-Err : goal.returns-in-Err
returns-in-Err c = λ q. true_false q c.closed-in-Err.ensures
