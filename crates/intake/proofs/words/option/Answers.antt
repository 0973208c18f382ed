-- `option` meets its contract. Assumes nothing.
use mathlib.Core.Path.{refl}
use Rattle.text.proofs.Logic.{so, not_so, true_false}
use Rattle.intake.specs.Options.{AsksOld, AsksRefused, AsksNothing}
use Rattle.intake.proofs.Options.{two_words}
use Rattle.intake.proofs.words.option.Goals as goal

pub returns-then-asked : goal.returns-then-asked
returns-then-asked c = AsksNothing (λ e. absurd (two_words _ e (c.same.ensures.0 c.if-same.true))) (λ _. c.if-asked.true)

pub returns-then-same : goal.returns-then-same
returns-then-same c = AsksRefused (c.same.ensures.0 c.if-same.true) c.if-asked.false

pub returns-then-not-same : goal.returns-then-not-same
returns-then-not-same c = AsksNothing (λ e. absurd (true_false (c.same-2.ensures.1 e) (not_so refl c.if-not-same.true-raw))) (λ e. absurd (true_false (c.same.ensures.1 e) c.if-same.false))

pub returns-in-New : goal.returns-in-New
returns-in-New c = AsksOld (c.same-2.ensures.0 (so refl c.if-not-same.false-raw)) c.in-New.is

pub returns-in-Old : goal.returns-in-Old
returns-in-Old c =
    let e = c.same-2.ensures.0 (so refl c.if-not-same.false-raw) in
    AsksNothing (λ _. c.in-Old.is) (λ f. absurd (two_words _ e f))
