-- `writer::sizes::size_line` meets its contract. Assumes nothing.
use mathlib.Core.Path.{sym, ◌∙◌}
use native.Mathlib.Omega.{arith}
use Rattle.text.proofs.Logic.{so, not_so}
use Rattle.line.specs.Line.{is_head_by}
use Rattle.writer.proofs.LineSizes.{Known, free_long, no_head, no_type, no_body, line_fits, too_long, long_plan, line_is}
use Rattle.writer.proofs.sizes.size_line.Goals as goal

pub returns-then-free-gt-LONGEST_LINE : goal.returns-then-free-gt-LONGEST_LINE
returns-then-free-gt-LONGEST_LINE c = free_long _ _ _ c.if-free-gt-LONGEST_LINE.true

pub returns-then-not-holds_head : goal.returns-then-not-holds_head
unfolding is_head_by
returns-then-not-holds_head c = no_head _ _ _ (rw (not_so c.holds_head.ensures c.if-not-holds_head.true-raw))

pub returns-then-not-has_type : goal.returns-then-not-has_type
returns-then-not-has_type c = no_type _ _ _ (rw c.type_in-kind.ensures at (not_so c.has_type.ensures c.if-not-has_type.true-raw))

pub returns-in_err-n : goal.returns-in_err-n
returns-in_err-n c = c.from_residual.ensures ∙ no_body _ _ _ (sym c.in_err-n.ensures)

pub overflow_add-size : goal.overflow_add-size
unfolding is_head_by
overflow_add-size c =
    let known : let a = c.args in Known a.rule a.x a.free.now _ = record { head = rw (so c.holds_head.ensures c.if-not-holds_head.false-raw, rw c.type_in-kind.ensures at (so c.has_type.ensures c.if-not-has_type.false-raw)); body = sym c.in_ok-n.ensures } in
    omega (arith, c.body_at.ensures, line_fits known c.if-free-gt-LONGEST_LINE.false)

pub returns-then-size-gt-LONGEST_LINE : goal.returns-then-size-gt-LONGEST_LINE
unfolding is_head_by
returns-then-size-gt-LONGEST_LINE c =
    let known : let a = c.args in Known a.rule a.x a.free.now _ = record { head = rw (so c.holds_head.ensures c.if-not-holds_head.false-raw, rw c.type_in-kind.ensures at (so c.has_type.ensures c.if-not-has_type.false-raw)); body = sym c.in_ok-n.ensures } in
    too_long known (rw c.body_at.ensures at c.if-size-gt-LONGEST_LINE.true)

pub returns-then-is_long_plan : goal.returns-then-is_long_plan
unfolding is_head_by
returns-then-is_long_plan c =
    let known : let a = c.args in Known a.rule a.x a.free.now _ = record { head = rw (so c.holds_head.ensures c.if-not-holds_head.false-raw, rw c.type_in-kind.ensures at (so c.has_type.ensures c.if-not-has_type.false-raw)); body = sym c.in_ok-n.ensures } in
    long_plan known (rw (c.body_at.ensures, c.type_in-kind.ensures) at (sym c.is_long_plan.ensures ∙ c.if-is_long_plan.true))

pub returns : goal.returns
unfolding is_head_by
returns c =
    let known : let a = c.args in Known a.rule a.x a.free.now _ = record { head = rw (so c.holds_head.ensures c.if-not-holds_head.false-raw, rw c.type_in-kind.ensures at (so c.has_type.ensures c.if-not-has_type.false-raw)); body = sym c.in_ok-n.ensures } in
    rw c.body_at.ensures
    (line_is known (rw c.body_at.ensures at c.if-size-gt-LONGEST_LINE.false) (rw (c.body_at.ensures, c.type_in-kind.ensures) at (sym c.is_long_plan.ensures ∙ c.if-is_long_plan.false)))
