-- `checking::check_feed` meets its contract. Assumes nothing.
use Prim.Native.Nat.{ℕ}
use native.Mathlib.Omega.{arith}
use borrow.Author.Rules.{rules}
use lib.ListN.{length-replicate}
use Rattle.intake.proofs.checking.check_feed.Goals as goal

pub check_all-work-requires : goal.check_all-work-requires
check_all-work-requires c =
    record {
      held_len = search rules;
      block_in_bounds = omega (arith, c.buffer-block.ensures, length-replicate {A = ℕ} 368640 0);
    }

pub finish-requires : goal.finish-requires
finish-requires c =
    record {
      whole = c.check_all-work.ensures;
      longest_saying_in_bounds = omega (arith, c.check_all-work.auto.out, length-replicate {A = ℕ} 368640 0);
    }
