-- `table::walk::read` meets its contract: the answer on what is left is the answer on the whole, and the values of what is left, put
-- from the place that is reached, make what all the values make. Assumes nothing.
use mathlib.Core.Path.{◌≡◌}
use mathlib.Core.Bool.{Bool}
use mathlib.Core.List.{List}
use Prim.Native.Nat.{ℕ, ◌+◌, ◌≤◌}
use lib.ListN.{length, drop}
use lib.Seq.{sets}
use Rattle.table.specs.declared.kinds.Value.{Value}
use Rattle.table.specs.Read.{padded, values_from, answer_from, answer_of, values_of}
use Rattle.table.proofs.WalkWays.{fields_on, At}
use Rattle.table.proofs.walk.read.Given as goal

pub record Inv (ks body : List ℕ) (t : Bool) (values : List Value) (at k p m : ℕ) : Type 0 where
  pub walk : At body at k
  pub count : length (fields_on body) ≡ length ks
  pub few : length ks ≤ 19
  pub told : answer_from (k + 1) t (drop k ks) p m (drop k (fields_on body)) ≡ answer_of ks body
  pub made : sets values k (values_from (drop k ks) p m (drop k (fields_on body))) ≡ padded (values_of ks body)

abbrev pub invariant-loop-k : goal.invariant-loop-k
invariant-loop-k l = Inv l.kinds l.body l.trailing l.values l.at l.k l.trace l.marks
