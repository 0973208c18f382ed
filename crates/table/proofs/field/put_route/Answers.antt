-- `table::field::put_route` meets its contract. Assumes nothing.
use mathlib.Core.Path.{◌≡◌, sym, ◌∙◌}
use mathlib.Core.Bool.{false, ◌&&◌, and-false}
use borrow.Author.Tests.{ne_eqb}
use lib.Dec.{eqb}
use Rattle.rules.specs.Form.{is_route}
use Rattle.text.proofs.Laws.{no_text}
use Rattle.table.specs.Field.{is_one}
use Rattle.table.proofs.field.put_route.Goals.{then-not-is_route-via-then-not-is_route, then-not-is_route-via-else-not-is_route+then-v-ne0, then-not-is_route-via-else-not-is_route+else-v-ne0+then-not-is_one}
use Rattle.table.proofs.field.put_route.Goals as goal

-- one of the three tests fails
fails : (c : goal.Joined-then-not-is_route) → (is_route c.args.route.now && eqb c.args.v.a 0 && is_one c.args.v) ≡ false
fails c = elim c.then-not-is_route.branch [
  | then-not-is_route-via-then-not-is_route w ↦ rw (sym c.is_route.ensures ∙ w.if-not-is_route.true)
  | then-not-is_route-via-else-not-is_route+then-v-ne0 w ↦ rw (ne_eqb _ _ w.if-v-ne0.true, and-false)
  | then-not-is_route-via-else-not-is_route+else-v-ne0+then-not-is_one w ↦ rw (sym w.is_one.ensures ∙ w.if-not-is_one.true, and-false)
]

pub returns-then-not-is_route : goal.returns-then-not-is_route
returns-then-not-is_route c =
    let both = no_text _ _ _ (fails c) in
    record { value = both.0; out_after = both.1 }
