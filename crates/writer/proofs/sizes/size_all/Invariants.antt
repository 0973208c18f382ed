-- `writer::sizes::size_all` meets its contract: the size so far and what is left of the fields make the size of all. Assumes
-- nothing.
use mathlib.Core.Path.{◌≡◌}
use mathlib.Core.List.{List}
use Prim.Native.Nat.{ℕ, ◌*◌, ◌≤◌}
use lib.ListN.{length, take, drop}
use Rattle.table.specs.declared.kinds.Value.{Value}
use Rattle.writer.specs.Size.{AllAsks, sized_all}
use Rattle.writer.proofs.FieldSizes.{sized_from}
use Rattle.writer.proofs.sizes.size_all.Given as goal

pub record Inv (ks r : List ℕ) (ws : List Value) (n k p m : ℕ) : Type 0 where
  pub asks : AllAsks ks r
  pub whole : length ws ≡ 19
  pub place : k ≤ length ks
  pub few : n ≤ k * 2049
  pub rest : sized_from n (drop k ks) p m r (drop k (take (length ks) ws)) ≡ sized_all ks r (take (length ks) ws)

abbrev pub invariant-loop-k : goal.invariant-loop-k
invariant-loop-k l = Inv l.kinds l.route l.values l.size l.k l.trace l.marks
