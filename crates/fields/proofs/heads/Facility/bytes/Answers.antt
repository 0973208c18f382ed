-- `fields::heads::Facility::bytes` meets its contract. Assumes nothing.
use mathlib.Core.Path.{◌∙◌}
use Rattle.fields.proofs.FacilityLaws.{places_four}
use Rattle.fields.proofs.heads.Facility.bytes.Goals as goal

pub returns : goal.returns
returns c = c.to_be_bytes.ensures ∙ places_four _ c.requires
