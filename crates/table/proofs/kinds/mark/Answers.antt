-- `table::kinds::mark` meets its contract: each way out is a case of the definition, by the two bytes. Assumes nothing.
use mathlib.Core.Path.{refl}
use Rattle.table.proofs.KindWays.{not_two, two_bytes, marks, is_no_10, is_no_0, is_none}
use Rattle.table.proofs.kinds.mark.Goals as goal

pub returns-then-s-ne2 : goal.returns-then-s-ne2
returns-then-s-ne2 c = not_two _ c.if-s-ne2.true

pub returns-then-s-eq48 : goal.returns-then-s-eq48
returns-then-s-eq48 c = two_bytes _ marks.7 c.if-s-ne2.false c.if-s-eq49.true c.if-s-eq48.true

pub returns-then-s-eq49 : goal.returns-then-s-eq49
returns-then-s-eq49 c = two_bytes _ (is_no_10 c.if-s-eq48.false) c.if-s-ne2.false c.if-s-eq49.true refl

pub returns-then-s-ne48 : goal.returns-then-s-ne48
returns-then-s-ne48 c = two_bytes _ (is_none _ c.if-s-ne48.true c.if-s-eq49.false) c.if-s-ne2.false refl refl

pub returns-in-50 : goal.returns-in-50
returns-in-50 c = two_bytes _ marks.0 c.if-s-ne2.false c.if-s-ne48.false c.in-50.is

pub returns-in-51 : goal.returns-in-51
returns-in-51 c = two_bytes _ marks.1 c.if-s-ne2.false c.if-s-ne48.false c.in-51.is

pub returns-in-53 : goal.returns-in-53
returns-in-53 c = two_bytes _ marks.2 c.if-s-ne2.false c.if-s-ne48.false c.in-53.is

pub returns-in-54 : goal.returns-in-54
returns-in-54 c = two_bytes _ marks.3 c.if-s-ne2.false c.if-s-ne48.false c.in-54.is

pub returns-in-55 : goal.returns-in-55
returns-in-55 c = two_bytes _ marks.4 c.if-s-ne2.false c.if-s-ne48.false c.in-55.is

pub returns-in-56 : goal.returns-in-56
returns-in-56 c = two_bytes _ marks.5 c.if-s-ne2.false c.if-s-ne48.false c.in-56.is

pub returns-in-57 : goal.returns-in-57
returns-in-57 c = two_bytes _ marks.6 c.if-s-ne2.false c.if-s-ne48.false c.in-57.is

pub returns-in_default : goal.returns-in_default
returns-in_default c =
    let n = c.in_default.in_default-own.rest in
    two_bytes _ (is_no_0 n.0.0.0.0.0.0.1 n.0.0.0.0.0.1 n.0.0.0.0.1 n.0.0.0.1 n.0.0.1 n.0.1 n.1) c.if-s-ne2.false c.if-s-ne48.false refl
