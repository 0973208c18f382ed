-- `table::walk::route` meets its contract: the route of what is left is the route of the whole. Assumes nothing.
use mathlib.Core.Path.{◌≡◌}
use mathlib.Core.List.{List}
use Prim.Native.Nat.{ℕ}
use lib.ListN.{length, drop}
use Rattle.table.specs.Read.{route_in, route_of, route_from, route_at}
use Rattle.table.proofs.WalkWays.{fields_on, At}
use Rattle.table.proofs.walk.route.Given as goal

pub record Inv (ks body : List ℕ) (n at k p : ℕ) : Type 0 where
  pub walk : At body at k
  pub count : n ≡ length (fields_on body)
  pub told : route_in (drop k ks) p (drop k (fields_on body)) ≡ route_of ks body
  pub stands : route_from at (drop k ks) p (drop k (fields_on body)) ≡ route_at ks body

abbrev pub invariant-loop-kind : goal.invariant-loop-kind
invariant-loop-kind l = Inv l.kinds l.body l.n l.at l.kind-index l.trace
