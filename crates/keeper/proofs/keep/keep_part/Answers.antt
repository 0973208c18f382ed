-- `keep::keep_part` meets its contract: what was kept so far is what the bytes used so far bring, until a line does not fit. Assumes nothing.
use native.Mathlib.Omega.{arith}
use mathlib.Core.Path.{◌∙◌}
use Rattle.keeper.proofs.Parts.{begins, rest_roomy, whole, within, again, cut_short}
use Rattle.keeper.proofs.keep.keep_part.Goals as goal

pub loop-used-init : goal.loop-used-init
loop-used-init c = begins _ _ _ _ c.args.keep _ c.requires

pub slice_bounds-step-count : goal.slice_bounds-step-count
slice_bounds-step-count c = c.loop-used.invariant.inside

pub slice_bounds-step-start : goal.slice_bounds-step-start
slice_bounds-step-start c = omega (arith, c.loop-used.invariant.inside)

pub step-turn-requires : goal.step-turn-requires
step-turn-requires c =
    let both = rest_roomy c.loop-used.invariant c.loop-used-test.true in
    record { roomy = both.0; rest_nonzero = both.1 }

pub shape_of-held-then-now : goal.shape_of-held-then-now
shape_of-held-then-now c = c.step-turn.auto.held ∙ c.loop-used.invariant.same_held

pub shape_of-out-then-now : goal.shape_of-out-then-now
shape_of-out-then-now c = c.step-turn.auto.out ∙ c.loop-used.invariant.same_out

pub shape_of-offsets-then-now : goal.shape_of-offsets-then-now
shape_of-offsets-then-now c = c.step-turn.auto.offsets ∙ c.loop-used.invariant.same_run

pub returns-then-now : goal.returns-then-now
returns-then-now c =
    let both = cut_short c.loop-used.invariant c.step-turn.ensures c.if-now.true in
    record { goes_on = both.0; at_le_at = both.1 }

pub overflow_add-used : goal.overflow_add-used
overflow_add-used c = omega (arith, within c.loop-used.invariant c.step-turn.ensures)

pub loop-used-smaller : goal.loop-used-smaller
loop-used-smaller c = omega (arith, within c.loop-used.invariant c.step-turn.ensures, c.step-turn.ensures.some)

pub loop-used-preserved : goal.loop-used-preserved
loop-used-preserved c =
    again c.loop-used.invariant c.step-turn.ensures c.if-now.false c.step-turn.auto.held c.step-turn.auto.out c.step-turn.auto.offsets

pub shape_of-held : goal.shape_of-held
shape_of-held c = c.loop-used.invariant.same_held

pub shape_of-out : goal.shape_of-out
shape_of-out c = c.loop-used.invariant.same_out

pub shape_of-offsets : goal.shape_of-offsets
shape_of-offsets c = c.loop-used.invariant.same_run

pub returns : goal.returns
returns c =
    let both = whole c.loop-used.invariant c.loop-used-test.false in
    record { goes_on = both.0; at_le_at = both.1 }
