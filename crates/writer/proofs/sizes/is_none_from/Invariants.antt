-- `writer::sizes::is_none_from` meets its contract: what is found of the values that are left is found of all from n on. Assumes
-- nothing.
use mathlib.Core.Path.{◌≡◌}
use lib.ListN.{drop}
use Rattle.messages.specs.Allowed.{all_none}
use Rattle.writer.proofs.sizes.is_none_from.Given as goal

abbrev pub invariant-loop-k : goal.invariant-loop-k
invariant-loop-k l = all_none (drop l.k l.values) ≡ all_none (drop l.n l.values)
