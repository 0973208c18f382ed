-- `fields::heads::MessageType::letters` meets its contract. Assumes nothing.
use mathlib.Core.Path.{sym, ap}
use Rattle.text.specs.Place.{value}
use Rattle.fields.specs.MessageType.{type_number}
use Rattle.fields.proofs.heads.MessageType.letters.Goals as goal

pub returns-in-Af : goal.returns-in-Af
unfolding value
returns-in-Af c = ap type_number (sym c.in-Af.is)

pub returns-in-Az : goal.returns-in-Az
unfolding value
returns-in-Az c = ap type_number (sym c.in-Az.is)

pub returns-in-Dz : goal.returns-in-Dz
unfolding value
returns-in-Dz c = ap type_number (sym c.in-Dz.is)

pub returns-in-Fz : goal.returns-in-Fz
unfolding value
returns-in-Fz c = ap type_number (sym c.in-Fz.is)

pub returns-in-Rz : goal.returns-in-Rz
unfolding value
returns-in-Rz c = ap type_number (sym c.in-Rz.is)

pub returns-in-Tz : goal.returns-in-Tz
unfolding value
returns-in-Tz c = ap type_number (sym c.in-Tz.is)

pub returns-in-Uz : goal.returns-in-Uz
unfolding value
returns-in-Uz c = ap type_number (sym c.in-Uz.is)

pub returns-in-Rt : goal.returns-in-Rt
unfolding value
returns-in-Rt c = ap type_number (sym c.in-Rt.is)

pub returns-in-To : goal.returns-in-To
unfolding value
returns-in-To c = ap type_number (sym c.in-To.is)

pub returns-in-Hb : goal.returns-in-Hb
unfolding value
returns-in-Hb c = ap type_number (sym c.in-Hb.is)
