-- `look` meets its contract. Assumes nothing.
use mathlib.Core.Path.{sym, ◌∙◌}
use borrow.Author.Tests.{not-false}
use Rattle.keeper.proofs.Looks.{told_by_lem, told_judged}
use Rattle.keeper.proofs.Passes.{pass_judged}
use Rattle.keeper.proofs.lists.look.Goals as goal

pub returns-in_default : goal.returns-in_default
returns-in_default c = let l = c.look_at_end in told_judged (told_by_lem _ l.new.tail l.auto.tail c.in_ok-told.ensures) c.in_default.is

pub go_over-pass-requires : goal.go_over-pass-requires
go_over-pass-requires c =
    let l = c.look_at_end in
    told_by_lem _ l.new.tail l.auto.tail (sym c.in-Ok.is ∙ c.in_ok-told.ensures)

pub returns : goal.returns
returns c = let g = c.go_over-pass in rw c.verdict.ensures (pass_judged g.result g.ensures (not-false _ c.if-not-pass.false))
