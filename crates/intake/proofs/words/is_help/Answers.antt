-- `is_help` meets its contract. Assumes nothing.
use mathlib.Core.Path.{refl}
use mathlib.Core.Logic.{inl, inr, ⊎_elim}
use Rattle.text.proofs.Logic.{true_false}
use Rattle.intake.proofs.words.is_help.Goals as goal

pub returns-then-same : goal.returns-then-same
returns-then-same c = (λ q. inl (c.same.ensures.0 c.if-same.true), λ q. refl)

pub returns : goal.returns
returns c =
    let e = c.same-2.ensures in
    (λ q. inr (e.0 q), ⊎_elim (λ w. true_false (c.same.ensures.1 w) c.if-same.false) e.1)
