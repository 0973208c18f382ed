-- `fields::aircraft::read_prefixed` meets its contract. Assumes nothing.
use mathlib.Core.Path.{sym, ◌∙◌}
use native.Mathlib.Nat.{le_of_lt}
use lib.Seq.{length-take-le}
use Rattle.fields.proofs.AircraftLaws.{no_prefix, bad_prefix, with_prefix_lem}
use Rattle.fields.proofs.aircraft.read_prefixed.Goals as goal

pub returns-then-i-s : goal.returns-then-i-s
returns-then-i-s c = no_prefix _ _ c.find-i.ensures c.if-i-s.true

pub slice_bounds-read-end : goal.slice_bounds-read-end
slice_bounds-read-end c = sym (length-take-le _ _ (le_of_lt c.if-i-s.false))

pub returns-in_err-prefix : goal.returns-in_err-prefix
returns-in_err-prefix c = c.from_residual.ensures ∙ bad_prefix _ _ c.find-i.ensures c.if-i-s.false (sym c.in_err-prefix.ensures)

pub returns : goal.returns
returns c = c.read_after.ensures ∙ with_prefix_lem _ _ c.find-i.ensures c.if-i-s.false (sym c.in_ok-prefix.ensures)
