-- `table::field::put_ident` meets its contract. Assumes nothing.
use mathlib.Core.Bool.{and-true, and-false}
use borrow.Author.Tests.{eq-eqb, ne_eqb}
use Rattle.text.proofs.Laws.{no_text}
use Rattle.table.specs.Field.{is_two}
use Rattle.table.proofs.field.put_ident.Goals as goal

pub returns-then-v-ne0 : goal.returns-then-v-ne0
unfolding is_two
returns-then-v-ne0 c =
    let both = no_text _ _ _ (rw (ne_eqb _ _ c.if-v-ne0.true, and-false)) in
    record { value = both.0; out_after = both.1 }

pub returns : goal.returns
unfolding is_two
returns c =
    let put = rw c.from.ensures at c.put.ensures in
    rw (eq-eqb _ _ c.if-v-ne0.false, and-true) (record { value = put.value; out_after = put.out_after })
