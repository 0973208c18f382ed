-- `printer::slips::line_size` meets its contract: what is counted and what is left make the whole, and that is short. Assumes nothing.
use mathlib.Core.Path.{◌≡◌}
use Prim.Native.Nat.{◌+◌}
use lib.ListN.{length, drop}
use Rattle.printer.specs.Parts.{slip_text}
use Rattle.printer.proofs.Lines.{left_size}
use Rattle.printer.proofs.slips.line_size.Given as goal

abbrev pub invariant-loop-word : goal.invariant-loop-word
invariant-loop-word l = l.n + left_size (drop l.word-index l.words) ≡ length (slip_text l.words)
