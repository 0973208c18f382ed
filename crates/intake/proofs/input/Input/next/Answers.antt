-- `next` meets its contract. Assumes nothing.
use mathlib.Core.Path.{refl}
use mathlib.Core.Bool.{true, false}
use native.Mathlib.Omega.{arith}
use borrow.Author.Rules.{rules}
use Rattle.intake.proofs.Edges.{none_came, some_came}
use Rattle.intake.proofs.input.Input.next.Goals as goal

pub returns-then-block-self-clause-came : goal.returns-then-block-self-clause-came
returns-then-block-self-clause-came c = none_came _ _ _ false (λ q. refl) c.closed.ensures

pub returns-in-Err-clause-came : goal.returns-in-Err-clause-came
returns-in-Err-clause-came c = none_came _ _ _ true (λ q. absurd (omega arith)) c.closed-in-Err.ensures

pub returns-then-n-eq0-clause-came : goal.returns-then-n-eq0-clause-came
returns-then-n-eq0-clause-came c = none_came _ _ _ false (λ q. refl) c.closed-then-n-eq0.ensures

pub returns-clause-came : goal.returns-clause-came
returns-clause-came c = some_came _ _ _ _ (omega arith) (omega (arith, c.in-Ok.ensures.within)) refl (omega arith) refl refl (search rules)
