-- `checks::of_body` meets its contract. Assumes nothing.
use Rattle.checks.proofs.Ways.{body_as}
use Rattle.checks.proofs.of_body.Goals as goal

pub returns : goal.returns
returns c = body_as c.args.body c.type_in.ensures c.type_word.ensures c.key_in.ensures
