-- `messages::typed::read_body` meets its contract. Assumes nothing.
use Rattle.std.specs.Prelude.{Err}
use mathlib.Core.Path.{sym, ap, ◌∙◌}
use Rattle.std.proofs.lemmas.Result.{err_from_is_err_and}
use Rattle.messages.specs.Read.{typed_of}
use Rattle.messages.proofs.typed.read_body.Goals as goal

pub returns-in_err-trailing : goal.returns-in_err-trailing
returns-in_err-trailing c =
    let (e, is, same) = err_from_is_err_and c.from_residual.result c.from_residual.ensures.1 in
    is ∙ ap Err same ∙ sym (ap (typed_of _ _) c.in_err-trailing.was) ∙ c.read_fields-read.ensures

pub returns : goal.returns
returns c = rw c.body_from.ensures (sym (ap (typed_of _ _) c.in_ok-trailing.was) ∙ c.read_fields-read.ensures)
