-- `table::field::read_old_aircraft` meets its contract: it hands on what was read, unless that has a last letter. Assumes nothing.
use mathlib.Core.Path.{sym, ap, ◌∙◌}
use Rattle.std.specs.Prelude.{Ok}
use Rattle.rules.specs.declared.Rule.TheVariants.{Old}
use Rattle.table.proofs.ReadingWays.{aircraft_as, old_lettered, old_plain}
use Rattle.table.proofs.field.read_old_aircraft.Goals as goal

pub returns-in-Some : goal.returns-in-Some
returns-in-Some c = ap Ok c.from.ensures ∙ old_plain _ (sym c.in-Some.is ∙ c.read.ensures.value) c.if-aircraft-eq0.true

pub returns-in_default : goal.returns-in_default
returns-in_default c = old_lettered _ (sym c.in-Some.is ∙ c.read.ensures.value) c.if-aircraft-eq0.false

pub returns-in_default-2 : goal.returns-in_default-2
returns-in_default-2 c = aircraft_as Old _ (sym c.in_default.is ∙ c.read.ensures.value)
