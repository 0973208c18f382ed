-- `table::field::put_kind` meets its contract: each arm is a case of the definitions. Assumes nothing.
use mathlib.Core.Bool.{and-true, and-false}
use borrow.Author.Tests.{eq-eqb, ne_eqb}
use Rattle.text.proofs.Laws.{no_text}
use Rattle.table.specs.Field.{is_kind_value, shown_kind}
use Rattle.table.proofs.field.put_kind.Goals as goal

pub returns-in-74 : goal.returns-in-74
unfolding is_kind_value shown_kind
returns-in-74 c =
    let both = no_text _ _ _ (rw (c.in-74.is, eq-eqb _ _ c.if-v-eq0.true, and-false)) in
    record { value = both.0; out_after = both.1 }

pub returns-in-122 : goal.returns-in-122
unfolding is_kind_value shown_kind
returns-in-122 c =
    let both = no_text _ _ _ (rw (c.in-122.is, ne_eqb _ _ c.if-v-ne0.true, and-false)) in
    record { value = both.0; out_after = both.1 }

pub returns-in-73 : goal.returns-in-73
unfolding is_kind_value shown_kind
returns-in-73 c = rw c.in-73.is (record { value = c.put_ident.ensures.value; out_after = c.put_ident.ensures.out_after })

pub returns-in-74-2 : goal.returns-in-74-2
unfolding is_kind_value shown_kind
returns-in-74-2 c = rw (c.in-74.is, ne_eqb _ _ c.if-v-eq0.false, and-true) (record { value = c.put_ident-in-74-2.ensures.value; out_after = c.put_ident-in-74-2.ensures.out_after })

pub returns-in-90 : goal.returns-in-90
unfolding is_kind_value shown_kind
returns-in-90 c = rw c.in-90.is (record { value = c.put_aircraft.ensures.value; out_after = c.put_aircraft.ensures.out_after })

pub returns-in-122-2 : goal.returns-in-122-2
unfolding is_kind_value shown_kind
returns-in-122-2 c = rw (c.in-122.is, eq-eqb _ _ c.if-v-ne0.false, and-true) (record { value = c.put_aircraft-in-122-2.ensures.value; out_after = c.put_aircraft-in-122-2.ensures.out_after })

pub returns-in-82 : goal.returns-in-82
unfolding is_kind_value shown_kind
returns-in-82 c = rw c.in-82.is (record { value = c.put_route.ensures.value; out_after = c.put_route.ensures.out_after })

pub returns-in_default : goal.returns-in_default
unfolding is_kind_value shown_kind
returns-in_default c =
    let n = c.in_default.in_default-own.rest in rw (ne_eqb _ _ n.0.0.0.0.1, ne_eqb _ _ n.0.0.0.1, ne_eqb _ _ n.0.0.1, ne_eqb _ _ n.0.1, ne_eqb _ _ n.1) (record { value = c.put_word.ensures.value; out_after = c.put_word.ensures.out_after })
