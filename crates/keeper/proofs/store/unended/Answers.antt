-- `store::unended` meets its contract. Assumes nothing.
use native.Mathlib.Omega.{arith}
use borrow.Author.Tests.{not-false}
use Rattle.keeper.proofs.store.unended.Goals as goal

pub returns : goal.returns
returns c = omega (arith, c.requires.after c.if-outcome.false (not-false _ c.if-not-outcome.false))
