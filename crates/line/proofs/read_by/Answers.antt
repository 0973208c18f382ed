-- `line::read_by` meets its contract: the answers in document 01's order. Assumes nothing.
use mathlib.Core.Path.{sym, ◌∙◌}
use Prim.Native.Nat.{◌≤◌}
use native.Mathlib.Omega.{arith}
use lib.ListN.{length}
use borrow.Author.Tests.{not-true, not-false}
use Rattle.std.proofs.lemmas.Result.{err_from_is_err_and}
use Rattle.fields.specs.Head.{head_length}
use Rattle.line.proofs.Ways.{line_short, line_long, line_byte, line_head}
use Rattle.line.proofs.read_by.Goals as goal

pub returns-then-line-body_at : goal.returns-then-line-body_at
returns-then-line-body_at c = line_short _ _ (omega (arith, c.if-line-body_at.true, c.body_at.ensures))

pub returns-then-line-gt-LONGEST_LINE : goal.returns-then-line-gt-LONGEST_LINE
returns-then-line-gt-LONGEST_LINE c =
    let enough : head_length c.args.rule ≤ length c.args.line.now = omega (arith, c.if-line-body_at.false, c.body_at.ensures) in
    line_long _ _ enough c.if-line-gt-LONGEST_LINE.true

pub returns-then-not-each_within : goal.returns-then-not-each_within
returns-then-not-each_within c =
    let enough : head_length c.args.rule ≤ length c.args.line.now = omega (arith, c.if-line-body_at.false, c.body_at.ensures) in
    line_byte _ _ enough c.if-line-gt-LONGEST_LINE.false (sym c.each_within.ensures ∙ not-true _ c.if-not-each_within.true-raw)

pub returns-in_err-head : goal.returns-in_err-head
returns-in_err-head c =
    let enough : head_length c.args.rule ≤ length c.args.line.now = omega (arith, c.if-line-body_at.false, c.body_at.ensures) in
    let p = err_from_is_err_and c.from_residual.result c.from_residual.ensures.1 in
    rw (p.1, p.2) (line_head _ _ enough c.if-line-gt-LONGEST_LINE.false (sym c.each_within.ensures ∙ not-false _ c.if-not-each_within.false-raw) (sym c.in_err-head.ensures))

pub returns : goal.returns
returns c =
    let enough : head_length c.args.rule ≤ length c.args.line.now = omega (arith, c.if-line-body_at.false, c.body_at.ensures) in
    c.read_rest.ensures ∙ line_head _ _ enough c.if-line-gt-LONGEST_LINE.false (sym c.each_within.ensures ∙ not-false _ c.if-not-each_within.false-raw) (sym c.in_ok-head.ensures)
