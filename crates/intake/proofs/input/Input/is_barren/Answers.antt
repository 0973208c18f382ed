-- `is_barren` meets its contract. Assumes nothing.
use borrow.Author.Tests.{not-true, not-false}
use Rattle.intake.proofs.input.Input.is_barren.Goals as goal

pub returns-then-not-self : goal.returns-then-not-self
returns-then-not-self c = rw (not-true c.args.self.failed c.if-not-self.true)

pub returns : goal.returns
returns c = rw (not-false c.args.self.failed c.if-not-self.false)
