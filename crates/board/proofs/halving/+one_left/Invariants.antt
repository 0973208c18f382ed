-- The number that falls is how many looks the width takes: nine at most of a board's rows (`proofs/Looks`). Assumes nothing.
use Rattle.board.specs.Halving.{looks}
use Rattle.board.proofs.halving.+one_left.Given as goal

abbrev pub decreases-one_left : goal.decreases-one_left
decreases-one_left l = looks l.width
