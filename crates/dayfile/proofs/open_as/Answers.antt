-- `open_as` meets its contract. Assumes nothing.
use mathlib.Core.Path.{refl, sym}
use native.Mathlib.Omega.{arith}
use lib.Seq.{length-take-le}
use Rattle.std.proofs.lemmas.Result.{err_from_is_err_and}
use Rattle.dayfile.proofs.Opening.{by_tail, no_day, day_inside, other_lines, other_used, same_lines}
use Rattle.dayfile.proofs.open_as.Goals as goal
use Rattle.dayfile.proofs.open_as.Goals.{then-walked-day-via-then-walked-day, then-walked-day-via-else-walked-day+then-walked-day-2}

pub returns-in_err-day : goal.returns-in_err-day
returns-in_err-day c =
    let told = by_tail _ _ _ _ c.trailer_size-width.ensures.value c.last.ensures c.in_err-day.ensures in
    let p = err_from_is_err_and c.from_residual.result c.from_residual.ensures.1 in
    rw (p.1, p.2) (no_day told refl)

pub overflow_mul-end : goal.overflow_mul-end
overflow_mul-end c =
    let told = by_tail _ _ _ _ c.trailer_size-width.ensures.value c.last.ensures c.in_ok-day.ensures in
    omega (arith, day_inside told _ refl)

pub overflow_add-end : goal.overflow_add-end
overflow_add-end c =
    let told = by_tail _ _ _ _ c.trailer_size-width.ensures.value c.last.ensures c.in_ok-day.ensures in
    omega (arith, day_inside told _ refl)

pub slice_bounds-walk-end : goal.slice_bounds-walk-end
slice_bounds-walk-end c =
    let told = by_tail _ _ _ _ c.trailer_size-width.ensures.value c.last.ensures c.in_ok-day.ensures in
    sym (length-take-le _ _ (omega (arith, day_inside told _ refl)))

pub slice_bounds-walk-end-2 : goal.slice_bounds-walk-end-2
slice_bounds-walk-end-2 c =
    let told = by_tail _ _ _ _ c.trailer_size-width.ensures.value c.last.ensures c.in_ok-day.ensures in
    omega (arith, day_inside told _ refl)

pub returns-then-walked-day : goal.returns-then-walked-day
returns-then-walked-day c =
    let told = by_tail _ _ _ _ c.trailer_size-width.ensures.value c.last.ensures c.in_ok-day.ensures in
    elim c.then-walked-day.branch [
      | then-walked-day-via-then-walked-day w ↦ other_lines told _ refl c.walk-walked.ensures w.if-walked-day.true
      | then-walked-day-via-else-walked-day+then-walked-day-2 w ↦ other_used told _ refl c.walk-walked.ensures w.if-walked-day-2.true
    ]

pub returns : goal.returns
returns c =
    let told = by_tail _ _ _ _ c.trailer_size-width.ensures.value c.last.ensures c.in_ok-day.ensures in
    same_lines told _ refl c.walk-walked.ensures c.if-walked-day.false c.if-walked-day-2.false
