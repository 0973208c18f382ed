-- `fields::idents::Ident::read_tz` meets its contract. Assumes nothing.
use Rattle.std.proofs.Common.{rules, tests}
use Rattle.fields.proofs.IdentLaws.{tz_filtered}
use Rattle.fields.proofs.idents.Ident.read_tz.Goals as goal

pub returns : goal.returns
returns c = tz_filtered _ _ _ _ c.read.ensures c.filter.ensures (λ i b p. search (rules, tests))
