-- `messages::key_in` meets its contract. Assumes nothing.
use mathlib.Core.Path.{sym, ap}
use Rattle.messages.specs.Body.{key_in}
use Rattle.messages.proofs.key_in.Goals as goal

pub returns-in-Af : goal.returns-in-Af
returns-in-Af c = ap key_in (sym c.in-Af.is)

pub returns-in-Az : goal.returns-in-Az
returns-in-Az c = ap key_in (sym c.in-Az.is)

pub returns-in-Dz : goal.returns-in-Dz
returns-in-Dz c = ap key_in (sym c.in-Dz.is)

pub returns-in-Fz : goal.returns-in-Fz
returns-in-Fz c = ap key_in (sym c.in-Fz.is)

pub returns-in-Rz : goal.returns-in-Rz
returns-in-Rz c = ap key_in (sym c.in-Rz.is)

pub returns-in-Tz : goal.returns-in-Tz
returns-in-Tz c = ap key_in (sym c.in-Tz.is)

pub returns-in-Uz : goal.returns-in-Uz
returns-in-Uz c = ap key_in (sym c.in-Uz.is)
