-- `printer::put_count` meets its contract: the name, the digits after it, and a store. Assumes nothing.
use mathlib.Core.Path.{◌∙◌}
use native.Mathlib.Omega.{arith}
use lib.ListN.{length-set}
use Rattle.printer.proofs.Counts.{digits_end, after_inside, count_ends, count_wrote}
use Rattle.printer.proofs.put_count.Goals as goal

pub overflow_add-end : goal.overflow_add-end
overflow_add-end c =
    let a = c.args in
    omega (arith, digits_end a.name.now a.out.now a.n a.after a.at c.requires c.size.ensures)

pub bounds-out-end : goal.bounds-out-end
bounds-out-end c = after_inside _ _ _ _ _ c.requires c.size.ensures c.put_bytes.ensures.out_after c.put.ensures.out_after

pub overflow_add-result : goal.overflow_add-result
overflow_add-result c =
    let a = c.args in
    omega (arith, digits_end a.name.now a.out.now a.n a.after a.at c.requires c.size.ensures)

pub shape_of-out : goal.shape_of-out
shape_of-out c = simp length-set (c.put.auto.out ∙ c.put_bytes.auto.out)

pub returns : goal.returns
returns c =
    let room = c.requires in
    record {
      value = count_ends _ _ _ _ _ room c.size.ensures c.put_bytes.ensures.out_after c.put.ensures.out_after;
      out_after = count_wrote _ _ _ _ _ room c.size.ensures c.put_bytes.ensures.out_after c.put.ensures.out_after;
    }
