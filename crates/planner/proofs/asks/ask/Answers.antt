-- `ask` meets its contract. Assumes nothing.
use mathlib.Core.Path.{◌∙◌}
use Rattle.planner.proofs.AskWays.{asks_body, asks_nothing, asks_by}
use borrow.Enum.Refused.{opened}
use Rattle.planner.proofs.asks.ask.Goals as goal

pub returns-in-Dz : goal.returns-in-Dz
returns-in-Dz c = c.of_dz.ensures ∙ asks_body _ _ c.in-Dz.is

pub returns-in-Az : goal.returns-in-Az
returns-in-Az c = c.of_az.ensures ∙ asks_body _ _ c.in-Az.is

pub returns-in-Tz : goal.returns-in-Tz
returns-in-Tz c = c.of_tz.ensures ∙ asks_body _ _ c.in-Tz.is

pub returns-in_default : goal.returns-in_default
returns-in_default c = let m = c.args.m in asks_nothing m.stamp m.body (opened c.in_default.in_default-own.keys4) ∙ asks_by m
