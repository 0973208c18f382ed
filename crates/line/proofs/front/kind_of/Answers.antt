-- `line::front::kind_of` meets its contract. Assumes nothing.
use mathlib.Core.Path.{sym, ◌∙◌}
use Rattle.text.proofs.Logic.{so, not_so}
use Rattle.line.proofs.Ways.{no_letters, not_given, given}
use Rattle.line.proofs.front.kind_of.Goals as goal

pub returns-in_err-kind : goal.returns-in_err-kind
returns-in_err-kind c = c.from_residual.ensures ∙ no_letters _ _ (sym c.in_err-kind.ensures)

pub returns-then-not-has_type : goal.returns-then-not-has_type
returns-then-not-has_type c = not_given _ _ _ (sym c.in_ok-kind.ensures) (not_so c.has_type.ensures c.if-not-has_type.true-raw)

pub returns : goal.returns
returns c = given _ _ _ (sym c.in_ok-kind.ensures) (so c.has_type.ensures c.if-not-has_type.false-raw)
