-- `is_allowed` meets its contract. Assumes nothing.
use mathlib.Core.Path.{sym}
use native.Mathlib.Omega.{arith}
use lib.Seq.{length-take-le}
use Rattle.cutter.proofs.Ways.{wrong_size, too_many, mark_allowed, held_allowed}
use Rattle.cutter.proofs.is_allowed.Goals as goal

pub returns-then-held-ne-LONGEST_LINE : goal.returns-then-held-ne-LONGEST_LINE
returns-then-held-ne-LONGEST_LINE c = wrong_size _ _ c.if-held-ne-LONGEST_LINE.true

pub returns-then-n-gt-LONGEST_LINE : goal.returns-then-n-gt-LONGEST_LINE
returns-then-n-gt-LONGEST_LINE c = too_many _ _ c.if-held-ne-LONGEST_LINE.false _ c.in-Held.is c.if-n-gt-LONGEST_LINE.true

pub slice_bounds-find-end : goal.slice_bounds-find-end
slice_bounds-find-end c = sym (length-take-le _ _ (omega (arith, c.if-n-gt-LONGEST_LINE.false, c.if-held-ne-LONGEST_LINE.false)))

pub returns-in-Overlong : goal.returns-in-Overlong
returns-in-Overlong c = mark_allowed _ _ c.if-held-ne-LONGEST_LINE.false c.in-Overlong.is

pub returns-else-n-gt-LONGEST_LINE : goal.returns-else-n-gt-LONGEST_LINE
returns-else-n-gt-LONGEST_LINE c =
    held_allowed _ _ c.if-held-ne-LONGEST_LINE.false _ _ c.in-Held.is c.if-n-gt-LONGEST_LINE.false c.find-found.ensures
