-- `text::pack` meets its contract: its loop keeps `Packs`. Assumes nothing.
use Rattle.text.proofs.Packs.{Packs}
use Rattle.text.proofs.pack.Given as goal

abbrev pub invariant-loop-b : goal.invariant-loop-b
invariant-loop-b l = Packs l.s l.n l.w l.b-index
