-- `close_gap` meets its contract. Assumes nothing.
use Rattle.board.proofs.listing.close_gap.Goals as goal

pub returns : goal.returns
returns c = cc
