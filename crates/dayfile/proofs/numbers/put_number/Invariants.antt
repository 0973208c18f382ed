-- `numbers::put_number` meets its contract. Assumes nothing.
use Rattle.dayfile.proofs.Puts.{Number}
use Rattle.dayfile.proofs.numbers.put_number.Given as goal

abbrev pub invariant-loop-k : goal.invariant-loop-k
invariant-loop-k l = Number l.n l.wide l.at l.initial.out l.out l.r l.k
