-- `walking::walk_beside` meets its contract: its loop keeps `Walking`. Assumes nothing.
use Prim.Native.Nat.{◌<◌}
use native.Mathlib.Omega.{arith}
use lib.ListN.{length}
use Rattle.dayfile.proofs.Walks.{begin, line_inside, turn}
use Rattle.dayfile.proofs.walking.walk_beside.Goals as goal

pub loop-lines-init : goal.loop-lines-init
loop-lines-init g c = record { inside = omega arith; walks = λ os all told. begin _ _ _ }

pub loop-lines-preserved : goal.loop-lines-preserved
loop-lines-preserved g c =
    let v = c.loop-lines.invariant in
    record {
      inside = line_inside _ _ _ v.inside c.line_size-n.ensures c.if-n-eq0.false;
      walks = λ os all told.
          let h : c.loop-lines.lines < length os = omega (arith, all, c.loop-lines-test.true) in
          turn (v.walks os all told) _ c.line_size-n.ensures c.if-n-eq0.false h (omega (arith, told _ _ h c.offset_at.ensures, c.if-offset_at-from.false));
    }

pub overflow_add-used : goal.overflow_add-used
overflow_add-used g c = omega (arith, (loop-lines-preserved g c).inside)
