-- `ending::is_agreed` meets its contract. Assumes nothing.
use mathlib.Core.Path.{sym, ◌∙◌}
use borrow.Author.Tests.{ne_eqb}
use lib.Seq.{length-take-le}
use Rattle.dayfile.proofs.Keeps.{no_bytes, no_offsets, other_lines, agreed_by}
use Rattle.dayfile.proofs.ending.is_agreed.Goals as goal
use Rattle.dayfile.proofs.ending.is_agreed.Goals.{then-place-out-via-then-place-out, then-place-out-via-else-place-out+then-place-offsets}

pub returns-then-place-out : goal.returns-then-place-out
returns-then-place-out c =
    elim c.then-place-out.branch [
      | then-place-out-via-then-place-out w ↦ no_bytes _ _ c.args.place w.if-place-out.true
      | then-place-out-via-else-place-out+then-place-offsets w ↦ no_offsets _ _ c.args.place w.if-place-offsets.true
    ]

pub slice_bounds-walk_run-end : goal.slice_bounds-walk_run-end
slice_bounds-walk_run-end c = sym (length-take-le _ _ c.if-place-out.false)

pub slice_bounds-walk_run-end-2 : goal.slice_bounds-walk_run-end-2
slice_bounds-walk_run-end-2 c = sym (length-take-le _ _ c.if-place-offsets.false)

pub returns-then-walked-place : goal.returns-then-walked-place
returns-then-walked-place c = agreed_by _ _ c.args.place c.if-place-out.false c.if-place-offsets.false c.walk_run-walked.ensures c.if-walked-place.true

pub returns-else-walked-place : goal.returns-else-walked-place
returns-else-walked-place c =
    ne_eqb _ _ c.if-walked-place.false ∙ other_lines _ _ c.args.place c.if-place-out.false c.if-place-offsets.false c.walk_run-walked.ensures c.if-walked-place.false
