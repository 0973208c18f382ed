-- `checks::of_refusal` meets its contract. Assumes nothing.
use Rattle.checks.proofs.Ways.{refused_as}
use Rattle.checks.proofs.of_refusal.Goals as goal

pub returns : goal.returns
returns c = refused_as c.args.refusal c.number.ensures c.place.ensures
