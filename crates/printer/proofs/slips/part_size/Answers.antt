-- `printer::slips::part_size` meets its contract: one byte for 0, else those of the text. Assumes nothing.
use mathlib.Core.Path.{sym, ap, ◌∙◌}
use lib.ListN.{length}
use Rattle.printer.proofs.Lines.{part_none, size_some, size_never}
use Rattle.printer.proofs.slips.part_size.Goals as goal

pub returns-then-word-eq0 : goal.returns-then-word-eq0
returns-then-word-eq0 c = sym (ap length (part_none _ c.if-word-eq0.true))

pub returns-in-Some : goal.returns-in-Some
returns-in-Some c = size_some _ c.requires c.if-word-eq0.false (sym c.size-found.ensures ∙ c.in-Some.is)

pub returns-in-None : goal.returns-in-None
returns-in-None c = size_never _ c.requires c.if-word-eq0.false (sym c.size-found.ensures ∙ c.in-None.is)
