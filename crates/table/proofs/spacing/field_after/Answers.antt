-- `table::spacing::field_after` meets its contract: the first space of what is left ends the field. Assumes nothing.
use mathlib.Core.Path.{◌≡◌, sym}
use mathlib.Core.List.{List}
use Prim.Native.Nat.{ℕ, ◌+◌, ◌-◌}
use native.Mathlib.Omega.{arith}
use lib.ListN.{length, take, drop}
use lib.Seq.{length-take-le}
use Rattle.shapes.specs.Cut.{up_to}
use Rattle.shapes.proofs.Laws.{rest_all, up_to_le}
use Rattle.table.specs.Spacing.{space, end_of}
use Rattle.table.proofs.SpacingLaws.{end_le}
use Rattle.table.proofs.spacing.field_after.Goals as goal

module _ (s : List ℕ) (j m : ℕ) (first : m ≡ up_to space (take (length s - j) (drop j s))) where
  found : m ≡ up_to space (drop j s)
  found = rw rest_all at first

  long : length (take m (take (length s - j) (drop j s))) ≡ m
  long = length-take-le m (take (length s - j) (drop j s)) (omega (arith, first, up_to_le space (take (length s - j) (drop j s))))

  value : take m (take (length s - j) (drop j s)) ≡ take (end_of s j - j) (drop j s)
  unfolding end_of
  value = let n : end_of s j - j ≡ m = omega (arith, found) in rw (rest_all, n)

  size : j + length (take m (take (length s - j) (drop j s))) ≡ end_of s j
  unfolding end_of
  size = omega (arith, found, long)

pub slice_bounds-result-end : goal.slice_bounds-result-end
slice_bounds-result-end c = sym (long c.args.body.now (c.args.at + 1) c.find.result c.find.ensures)

pub returns-clause-value : goal.returns-clause-value
returns-clause-value c = value c.args.body.now (c.args.at + 1) c.find.result c.find.ensures

pub returns-clause-size : goal.returns-clause-size
returns-clause-size c = size c.args.body.now (c.args.at + 1) c.find.result c.find.ensures

pub returns-clause-inside : goal.returns-clause-inside
returns-clause-inside c = omega (arith, returns-clause-size c, end_le c.args.body.now c.args.at c.requires)
