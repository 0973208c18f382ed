-- `shapes::sweeps::how_many_of_few` meets its contract: those that are counted and those that are left make all. Assumes nothing.
use Rattle.shapes.proofs.Passes.{Counting}
use Rattle.shapes.proofs.sweeps.how_many_of_few.Given as goal

abbrev pub invariant-loop-x : goal.invariant-loop-x
invariant-loop-x l = Counting l.b l.s l.n l.x-index
