-- `board::rows::is_row` meets its contract: each way out is a test of the definition, on the words from p on. Assumes nothing.
use mathlib.Core.Path.{◌∙◌}
use Rattle.text.proofs.Logic.{so, not_so}
use Rattle.board.proofs.Cells.{test-there}
use Rattle.board.proofs.rows.is_row.Goals as goal

pub returns-then-not-holds : goal.returns-then-not-holds
returns-then-not-holds c = rw (test-there, not_so c.holds.ensures c.if-not-holds.true-raw)

pub returns-then-not-is_arrival_at : goal.returns-then-not-is_arrival_at
returns-then-not-is_arrival_at c =
    rw (test-there, so c.holds.ensures c.if-not-holds.false-raw, not_so c.is_arrival_at.ensures c.if-not-is_arrival_at.true-raw)

pub returns-then-not-is_track_at : goal.returns-then-not-is_track_at
returns-then-not-is_track_at c =
    rw (test-there, so c.holds.ensures c.if-not-holds.false-raw, so c.is_arrival_at.ensures c.if-not-is_arrival_at.false-raw, not_so c.is_track_at.ensures c.if-not-is_track_at.true-raw)

pub returns : goal.returns
returns c =
    c.is_whole.ensures
    ∙ rw (test-there, so c.holds.ensures c.if-not-holds.false-raw, so c.is_arrival_at.ensures c.if-not-is_arrival_at.false-raw, so c.is_track_at.ensures c.if-not-is_track_at.false-raw)
