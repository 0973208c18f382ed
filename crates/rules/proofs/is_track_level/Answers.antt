-- `rules::is_track_level` meets its contract: four bytes and any other number of them are the two cases. Assumes nothing.
use mathlib.Core.Path.{sym, ◌∙◌}
use native.Mathlib.Omega.{arith}
use lib.ListN.{length-take}
use Rattle.rules.proofs.Runs.{track-letter, track_plain}
use Rattle.rules.proofs.is_track_level.Goals as goal

pub slice_bounds-run-end : goal.slice_bounds-run-end
slice_bounds-run-end c = simp length-take (omega arith)

pub returns-then-run : goal.returns-then-run
returns-then-run c = c.is_of.ensures ∙ rw (track-letter _ c.if-s-eq4.true, sym c.run.ensures ∙ c.if-run.true)

pub returns-else-run : goal.returns-else-run
returns-else-run c = c.if-run.false ∙ rw (track-letter _ c.if-s-eq4.true, sym c.run.ensures ∙ c.if-run.false)

pub returns : goal.returns
returns c = c.run-2.ensures ∙ sym (track_plain _ c.if-s-eq4.false)
