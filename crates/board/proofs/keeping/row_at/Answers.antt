-- `board::keeping::row_at` meets its contract: key, arrival entry and track stand one after another from p on. Assumes nothing.
use Rattle.board.proofs.Cells.{row_there}
use Rattle.board.proofs.keeping.row_at.Goals as goal

pub returns : goal.returns
returns c = row_there c.args.words.now c.args.p c.arrival_at.ensures c.track_at.ensures
