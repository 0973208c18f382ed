-- `work::keep_feed` meets its contract. Assumes nothing.
use Prim.Native.Nat.{ℕ}
use native.Mathlib.Omega.{arith}
use borrow.Author.Rules.{rules}
use lib.ListN.{length-replicate}
use Rattle.keeper.proofs.Closings.{done}
use Rattle.keeper.proofs.work.keep_feed.Goals as goal

pub keep_all-work-requires : goal.keep_all-work-requires
keep_all-work-requires c =
    record {
      held_len = search rules;
      block_in_bounds = omega (arith, c.large_buffer-block.ensures, length-replicate {A = ℕ} 67584 0);
      offsets_len = search rules;
      total_value = c.requires;
    }

pub returns : goal.returns
returns c =
    done _ _ c.keep_all-work.result c.keep_all-work.ensures c.close-shelf.result c.close-shelf.ensures _ c.is_torn-torn.ensures
