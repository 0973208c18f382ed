-- `table::field::put_field` meets its contract. Assumes nothing.
use mathlib.Core.Bool.{and-true, and-false}
use borrow.Author.Tests.{ne_eqb}
use Rattle.text.proofs.Laws.{no_text}
use Rattle.table.specs.Field.{is_value, shown}
use Rattle.table.proofs.field.put_field.Goals as goal

pub returns-then-kind-ne-AMENDMENT : goal.returns-then-kind-ne-AMENDMENT
unfolding is_value shown
returns-then-kind-ne-AMENDMENT c = rw (ne_eqb _ _ c.if-kind-ne-AMENDMENT.true, ← c.plain.ensures) (record { value = c.put_kind.ensures.value; out_after = c.put_kind.ensures.out_after })

pub returns-then-not-is_one : goal.returns-then-not-is_one
unfolding is_value shown
returns-then-not-is_one c =
    let both = no_text _ _ _ (rw (c.if-kind-ne-AMENDMENT.false, ← c.if-not-is_one.ensures, and-false)) in
    record { value = both.0; out_after = both.1 }

pub returns : goal.returns
unfolding is_value shown
returns c = rw (c.if-kind-ne-AMENDMENT.false, ← c.if-not-is_one.ensures, and-true) (record { value = c.put_mark.ensures.value; out_after = c.put_mark.ensures.out_after })
