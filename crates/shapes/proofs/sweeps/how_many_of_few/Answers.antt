-- `shapes::sweeps::how_many_of_few` meets its contract: those that are counted and those that are left make all. Assumes nothing.
use mathlib.Core.Path.{◌≡◌, ap}
use mathlib.Core.List.{List}
use Prim.Native.Nat.{ℕ, ◌+◌, ◌≤◌, ◌<◌}
use native.Mathlib.Omega.{arith}
use mir.Val.{bool_byte}
use lib.Dec.{eqb}
use lib.ListN.{length, get_or, drop, drop_of_length-le}
use Rattle.shapes.proofs.Laws.{next_byte}
use Rattle.shapes.specs.Many.{how_many}
use Rattle.shapes.proofs.Passes.{Counting, many_le, many_more}
use Rattle.shapes.proofs.sweeps.how_many_of_few.Goals as goal

module _ {b : ℕ} {s : List ℕ} {n i : ℕ} (v : Counting b s n i) where
  done : length s ≤ i → n ≡ how_many b s
  unfolding how_many
  done h = omega (arith, v.rest, ap (how_many b) (drop_of_length-le s h))

  again : i < length s → Counting b s (n + bool_byte (eqb (get_or s i 0) b)) (i + 1)
  again h =
      record { at = omega arith; rest = omega (arith, v.rest, ap (how_many b) (next_byte s i h), many_more b (get_or s i 0) (drop (i + 1) s)) }

pub loop-x-init : goal.loop-x-init
loop-x-init c = record { at = omega arith; rest = omega arith }

pub overflow_add-n : goal.overflow_add-n
overflow_add-n c = omega (arith, (again c.loop-x.invariant c.loop-x-test.true).rest, many_le c.args.b c.args.s.now, c.requires)

pub loop-x-preserved : goal.loop-x-preserved
loop-x-preserved c = again c.loop-x.invariant c.loop-x-test.true

pub returns : goal.returns
returns c = done c.loop-x.invariant c.loop-x-test.false
