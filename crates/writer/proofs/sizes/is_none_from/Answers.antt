-- `writer::sizes::is_none_from` meets its contract: what is found of the values that are left is found of all from n on. Assumes
-- nothing.
use mathlib.Core.Path.{◌≡◌, ◌∙◌}
use mathlib.Core.Bool.{Bool, ◌&&◌}
use mathlib.Core.List.{List}
use Prim.Native.Nat.{ℕ, ◌+◌, ◌<◌}
use native.Mathlib.Omega.{arith}
use lib.Dec.{eqb}
use lib.ListN.{length, drop, get_or}
use Rattle.table.specs.Field.{is_one}
use Rattle.table.specs.declared.kinds.Value.{Value}
use Rattle.table.specs.Read.{none}
use Rattle.messages.specs.Allowed.{all_none}
use Rattle.writer.proofs.FieldSizes.{next_value}
use Rattle.writer.proofs.sizes.is_none_from.Goals as goal

next : (vs : List Value) (k : ℕ) {r b : Bool} → k < 19 → length vs ≡ 19 → r ≡ (eqb (get_or vs k none).a 0 && is_one (get_or vs k none)) → r ≡ b
    → (b && all_none (drop (k + 1) vs)) ≡ all_none (drop k vs)
next vs k h all e f = rw (next_value vs k (omega arith), ← e, f)

pub loop-k-preserved : goal.loop-k-preserved
loop-k-preserved c = next _ _ c.loop-k-test.true c.well_formed.0.1.0.1 c.is_none.ensures c.if-not-is_none.false ∙ c.loop-k.invariant

pub returns-then-not-is_none : goal.returns-then-not-is_none
returns-then-not-is_none c = next _ _ c.loop-k-test.true c.well_formed.0.1.0.1 c.is_none.ensures c.if-not-is_none.true ∙ c.loop-k.invariant
