-- `writer::sizes::size_route` meets its contract. Assumes nothing.
use mathlib.Core.Path.{◌∙◌}
use Rattle.writer.proofs.FieldSizes.{route_not, route_is}
use Rattle.writer.proofs.sizes.size_route.Goals as goal
use Rattle.writer.proofs.sizes.size_route.Goals.{then-not-is_route-via-then-not-is_route, then-not-is_route-via-else-not-is_route+then-not-is_none}

pub returns-then-not-is_route : goal.returns-then-not-is_route
returns-then-not-is_route c =
    route_not _ _ _ _ _ c.requires
    (elim c.then-not-is_route.branch [
      | then-not-is_route-via-then-not-is_route w ↦ rw (← c.is_route.ensures, w.if-not-is_route.true)
      | then-not-is_route-via-else-not-is_route+then-not-is_none w ↦ rw (← c.is_route.ensures, ← w.is_none.ensures, w.if-not-is_route.false, w.if-not-is_none.true)
    ])

pub returns : goal.returns
returns c = c.size_text.ensures ∙ route_is _ _ _ _ _ c.requires (rw (← c.is_route.ensures, ← c.is_none.ensures, c.if-not-is_route.false, c.if-not-is_none.false))
