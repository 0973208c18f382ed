-- `writer::put_one` meets its contract: there is a text, and room for it. Assumes nothing.
use Rattle.std.specs.Prelude.{Ok}
use mathlib.Core.Path.{◌≡◌, sym, ap, ◌∙◌}
use Rattle.text.specs.Text.{written_next}
use Rattle.text.proofs.Logic.{true_false}
use Rattle.table.specs.Field.{trace_of, is_value, shown}
use Rattle.text.proofs.Wrote.{next_size, next_bytes, next_inside, next_part, next_text}
use Rattle.writer.proofs.FieldSizes.{unwritten}
use Rattle.writer.proofs.put_one.Goals as goal

pub slice_bounds-trace-end : goal.slice_bounds-trace-end
slice_bounds-trace-end c =
    let told : let a = c.args in written_next (is_value a.kind a.trace a.route.now a.v) (shown a.kind a.trace a.route.now a.v) a.out.now 0 ≡ Ok c.in-Ok.n = sym c.put_field-written.ensures.value ∙ c.in-Ok.is in
    next_inside _ _ _ _ told c.put_field-written.ensures.out_after

pub slice_bounds-trace-end-in-Ok : goal.slice_bounds-trace-end-in-Ok
slice_bounds-trace-end-in-Ok c =
    let told : let a = c.args in written_next (is_value a.kind a.trace a.route.now a.v) (shown a.kind a.trace a.route.now a.v) a.out.now 0 ≡ Ok c.in-Ok.n = sym c.put_field-written.ensures.value ∙ c.in-Ok.is in
    next_part _ _ _ _ told c.put_field-written.ensures.out_after

pub returns-in-Ok : goal.returns-in-Ok
returns-in-Ok c =
    let told : let a = c.args in written_next (is_value a.kind a.trace a.route.now a.v) (shown a.kind a.trace a.route.now a.v) a.out.now 0 ≡ Ok c.in-Ok.n = sym c.put_field-written.ensures.value ∙ c.in-Ok.is in
    let is = c.put_field-written.ensures.out_after in
    record {
      end_value = next_size _ _ _ told is;
      trace_value = c.trace.ensures ∙ ap (trace_of _) (next_text _ _ _ told is);
      out_after = next_bytes _ _ _ _ told is;
    }

pub returns-in-Err : goal.returns-in-Err
returns-in-Err c =
    let none = unwritten _ _ _ (λ q. c.requires.room) (sym c.put_field-written.ensures.value ∙ c.in-Err.is) in
    record {
      end_value = true_false c.requires.good none;
      trace_value = true_false c.requires.good none;
      out_after = true_false c.requires.good none;
    }
