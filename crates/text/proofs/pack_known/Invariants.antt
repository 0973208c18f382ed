-- `text::pack_known` meets its contract: its loop keeps `Packs`, and each byte is a text byte. Assumes nothing.
use Rattle.text.proofs.Packs.{Packs}
use Rattle.text.proofs.pack_known.Given as goal

abbrev pub invariant-loop-b : goal.invariant-loop-b
invariant-loop-b l = Packs l.s l.n l.w l.b-index
