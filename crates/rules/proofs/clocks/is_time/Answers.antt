-- `rules::clocks::is_time` meets its contract. Assumes nothing.
use Rattle.rules.specs.Form.{is_time}
use Rattle.rules.proofs.clocks.is_time.Goals as goal

pub returns : goal.returns
unfolding is_time
returns c = c.is_lettered.ensures
