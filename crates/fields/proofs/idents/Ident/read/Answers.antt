-- `fields::idents::Ident::read` meets its contract. Assumes nothing.
use mathlib.Core.Path.{ap, ◌∙◌}
use Rattle.fields.proofs.IdentLaws.{as_ident, ident_as}
use Rattle.fields.proofs.idents.Ident.read.Goals as goal

pub returns-in_err-key : goal.returns-in_err-key
returns-in_err-key c = c.from_residual.ensures ∙ ap as_ident c.in_err-key.ensures ∙ ident_as _

pub returns : goal.returns
returns c = ap as_ident c.in_ok-key.ensures ∙ ident_as _
