-- `table::field::number` meets its contract: each arm is a case of the definitions. Assumes nothing.
use borrow.Author.Tests.{ne_eqb}
use Rattle.table.specs.Field.{is_mark, mark_text}
use Rattle.table.proofs.field.number.Goals as goal

pub returns-in-1 : goal.returns-in-1
unfolding is_mark mark_text
returns-in-1 c = rw c.in-1.is

pub returns-in-2 : goal.returns-in-2
unfolding is_mark mark_text
returns-in-2 c = rw c.in-2.is

pub returns-in-4 : goal.returns-in-4
unfolding is_mark mark_text
returns-in-4 c = rw c.in-4.is

pub returns-in-8 : goal.returns-in-8
unfolding is_mark mark_text
returns-in-8 c = rw c.in-8.is

pub returns-in-16 : goal.returns-in-16
unfolding is_mark mark_text
returns-in-16 c = rw c.in-16.is

pub returns-in-32 : goal.returns-in-32
unfolding is_mark mark_text
returns-in-32 c = rw c.in-32.is

pub returns-in-64 : goal.returns-in-64
unfolding is_mark mark_text
returns-in-64 c = rw c.in-64.is

pub returns-in-128 : goal.returns-in-128
unfolding is_mark mark_text
returns-in-128 c = rw c.in-128.is

pub returns-in_default : goal.returns-in_default
unfolding is_mark mark_text
returns-in_default c = let n = c.in_default.in_default-own.rest in
    rw (ne_eqb _ _ n.0.0.0.0.0.0.0.1, ne_eqb _ _ n.0.0.0.0.0.0.1, ne_eqb _ _ n.0.0.0.0.0.1, ne_eqb _ _ n.0.0.0.0.1, ne_eqb _ _ n.0.0.0.1, ne_eqb _ _ n.0.0.1, ne_eqb _ _ n.0.1, ne_eqb _ _ n.1)
