-- `fields::aircraft::Aircraft::read` meets its contract. Assumes nothing.
use Rattle.std.proofs.Common.{rules, tests}
use Rattle.fields.specs.Aircraft.{plain_of}
use Rattle.fields.proofs.AircraftLaws.{read_either}
use Rattle.fields.proofs.Single.{told}
use Rattle.fields.proofs.aircraft.Aircraft.read.Goals as goal

pub returns : goal.returns
unfolding plain_of
returns c =
    let both = told _ (read_either _ _ _ _ c.read_after.ensures c.or_else.ensures (λ p. search (rules, tests))) in
    record { value = both.0; told = both.1 }
