-- `walking::walk_beside` meets its contract: its loop keeps `Walking`. Assumes nothing.
use mathlib.Core.Path.{◌≡◌}
use mathlib.Core.List.{List}
use Prim.Native.Nat.{ℕ, ◌≤◌}
use lib.ListN.{length}
use Rattle.dayfile.specs.Walk.{Tells}
use Rattle.dayfile.proofs.Walks.{Walking}
use Rattle.dayfile.proofs.walking.walk_beside.Given as goal

abbrev pub invariant-loop-lines : goal.invariant-loop-lines
invariant-loop-lines g l =
    record {
      inside : l.used ≤ length l.s;
      walks : (offsets : List ℕ) → length offsets ≡ l.many → Tells (goal.F-post g l.offset_at) offsets → Walking l.from l.s offsets l.used l.lines;
    }
