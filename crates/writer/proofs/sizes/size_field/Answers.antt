-- `writer::sizes::size_field` meets its contract: a field that is no route stands at the start of twelve bytes. Assumes nothing.
use mathlib.Core.Path.{sym, ◌∙◌}
use native.Mathlib.Omega.{arith}
use lib.Seq.{length-take-le}
use borrow.Author.Tests.{ne_eqb}
use Rattle.text.proofs.Laws.{next_known}
use Rattle.table.proofs.FieldLaws.{shown_short}
use Rattle.writer.proofs.FieldSizes.{unwritten, field_not, field_is}
use Rattle.text.proofs.Wrote.{next_text}
use Rattle.writer.proofs.sizes.size_field.Goals as goal

pub slice_bounds-room-end : goal.slice_bounds-room-end
slice_bounds-room-end c =
    let p = c.put_field-written in
    let k = next_known _ _ _ (sym p.ensures.value ∙ c.in-Ok.is) in
    omega (arith, k.1, k.2, p.auto.out)

pub slice_bounds-size_text-end : goal.slice_bounds-size_text-end
slice_bounds-size_text-end c =
    let p = c.put_field-written in
    let k = next_known _ _ _ (sym p.ensures.value ∙ c.in-Ok.is) in
    sym (length-take-le _ _ (omega (arith, k.1, k.2, p.auto.out)))

pub returns-in-Ok : goal.returns-in-Ok
returns-in-Ok c =
    let p = c.put_field-written in
    let told = sym p.ensures.value ∙ c.in-Ok.is in
    c.size_text.ensures ∙ field_is _ _ _ _ _ (next_known _ _ _ told).0 _ (next_text _ _ _ told p.ensures.out_after)

pub returns-in-Err : goal.returns-in-Err
returns-in-Err c =
    field_not _ _ _ _ _ (unwritten _ _ _ (λ q. shown_short _ _ _ _ q (rw (← c.plain.ensures) (ne_eqb _ _ c.if-plain-eq-ROUTE.false))) (sym c.put_field-written.ensures.value ∙ c.in-Err.is))
