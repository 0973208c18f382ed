-- `is_full` meets its contract. Assumes nothing.
use mathlib.Core.Path.{◌∙◌}
use borrow.Author.Tests.{le-leb}
use Rattle.dayfile.proofs.Keeps.{full_many, full_by}
use Rattle.dayfile.proofs.is_full.Goals as goal

pub returns-then-place-most : goal.returns-then-place-most
returns-then-place-most c = le-leb _ _ c.if-place-most.true ∙ full_many c.args.most c.args.place c.args.line.now c.if-place-most.true

pub returns-else-place-most : goal.returns-else-place-most
returns-else-place-most c = full_by c.args.most c.args.place c.args.line.now c.if-place-most.false
