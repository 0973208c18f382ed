-- `messages::Plan::filed_level` meets its contract. Assumes nothing.
use borrow.Author.Tests.{eq-eqb, ne_eqb}
use Rattle.messages.specs.Body.{plan_level}
use Rattle.messages.proofs.Ways.{begins_p}
use Rattle.messages.proofs.Plan.filed_level.Goals as goal

pub returns-then-self-eq-P : goal.returns-then-self-eq-P
unfolding plan_level
returns-then-self-eq-P c = rw (begins_p c.args.self.time.0, eq-eqb _ _ c.if-self-eq-P.true)

pub returns : goal.returns
unfolding plan_level
returns c = rw (begins_p c.args.self.time.0, ne_eqb _ _ c.if-self-eq-P.false)
