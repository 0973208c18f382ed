-- `table::route` meets its contract. Assumes nothing.
use mathlib.Core.Path.{ap, ◌∙◌}
use Rattle.table.proofs.TableWays.{route_dotted, start_dotted}
use Rattle.shapes.specs.Picture.{starts_at}
use Rattle.table.proofs.route.Goals as goal

pub returns : goal.returns
returns c =
    let k = c.kinds_of-all.ensures in
    record {
      result_value = c.route.ensures.result_value ∙ rw k (route_dotted _ _ _);
      ref_ptr_value = c.route.ensures.ref_ptr_value ∙ ap (starts_at _) (rw k (start_dotted _ _ _));
    }
