-- `rules::is_minutes` meets its contract: what the number says. Assumes nothing.
use Rattle.std.proofs.Common.{rules, tests}
use Rattle.rules.proofs.Minutes.{minutes_told}
use Rattle.rules.proofs.is_minutes.Goals as goal

pub returns : goal.returns
returns c = minutes_told _ _ _ _ _ c.number.ensures c.is_some_and.ensures (λ n p. search (rules, tests))
