-- `shapes::sweeps::how_many` meets its contract: those that are counted and those that are left make all. Assumes nothing.
use mathlib.Core.Path.{◌≡◌}
use mathlib.Core.List.{List}
use Prim.Native.Nat.{ℕ, ◌+◌}
use Rattle.std.specs.Slice.Iter.{chunks_rest, chunks_size}
use Rattle.shapes.specs.Many.{how_many}
use Rattle.shapes.proofs.sweeps.how_many.Given as goal

pub record Inv (b : ℕ) (s : List ℕ) (n : ℕ) (left : List ℕ) (size : ℕ) : Type 0 where
  pub few : size ≡ 224
  pub rest : n + how_many b left ≡ how_many b s

abbrev pub invariant-loop-part : goal.invariant-loop-part
invariant-loop-part l = Inv l.b l.s l.n (chunks_rest l.part-iterator) (chunks_size l.part-iterator)
