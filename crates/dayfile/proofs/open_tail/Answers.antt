-- `open_tail` meets its contract. Assumes nothing.
use mathlib.Core.Path.{sym, ap, ◌∙◌}
use native.Mathlib.Omega.{arith}
use Prim.Native.Nat.{◌<◌}
use Rattle.dayfile.specs.DayFile.{trailer_size}
use Rattle.dayfile.proofs.Opening.{below_four, too_short, long_enough, version_few, count_few, start_four, unknown_version, wrong_length, day_told}
use Rattle.dayfile.proofs.open_tail.Goals as goal

pub returns-then-size-width : goal.returns-then-size-width
returns-then-size-width c = too_short _ _ _ _ c.trailer_size-width.ensures.value c.if-size-width.true

pub slice_bounds-read_number-count : goal.slice_bounds-read_number-count
slice_bounds-read_number-count c =
    let known = long_enough c.trailer.view_is c.trailer.invariant c.requires.tail_len c.trailer_size-width.ensures.value c.if-size-width.false in
    omega (arith, known.long)

pub slice_bounds-read_number-start : goal.slice_bounds-read_number-start
slice_bounds-read_number-start c =
    let known = long_enough c.trailer.view_is c.trailer.invariant c.requires.tail_len c.trailer_size-width.ensures.value c.if-size-width.false in
    omega (arith, known.long)

pub read_number-requires : goal.read_number-requires
read_number-requires c =
    let known = long_enough c.trailer.view_is c.trailer.invariant c.requires.tail_len c.trailer_size-width.ensures.value c.if-size-width.false in
    version_few known

pub returns-then-read_number-trailer : goal.returns-then-read_number-trailer
returns-then-read_number-trailer c =
    let known = long_enough c.trailer.view_is c.trailer.invariant c.requires.tail_len c.trailer_size-width.ensures.value c.if-size-width.false in
    rw (← c.trailer.view_is) (unknown_version known _ c.read_number.ensures.value c.if-read_number-trailer.true)

pub slice_bounds-read_number-end-2 : goal.slice_bounds-read_number-end-2
slice_bounds-read_number-end-2 c =
    let known = long_enough c.trailer.view_is c.trailer.invariant c.requires.tail_len c.trailer_size-width.ensures.value c.if-size-width.false in
    sym (start_four known)

pub read_number-start-requires : goal.read_number-start-requires
read_number-start-requires c =
    let known = long_enough c.trailer.view_is c.trailer.invariant c.requires.tail_len c.trailer_size-width.ensures.value c.if-size-width.false in
    omega (arith, start_four known)

pub slice_bounds-read_number-end-3 : goal.slice_bounds-read_number-end-3
slice_bounds-read_number-end-3 c =
    let known = long_enough c.trailer.view_is c.trailer.invariant c.requires.tail_len c.trailer_size-width.ensures.value c.if-size-width.false in
    omega (arith, known.long)

pub read_number-lines-requires : goal.read_number-lines-requires
read_number-lines-requires c =
    let known = long_enough c.trailer.view_is c.trailer.invariant c.requires.tail_len c.trailer_size-width.ensures.value c.if-size-width.false in
    count_few known

pub overflow_mul-lines : goal.overflow_mul-lines
overflow_mul-lines c =
    let known = long_enough c.trailer.view_is c.trailer.invariant c.requires.tail_len c.trailer_size-width.ensures.value c.if-size-width.false in
    let below : (c.read_number-start.result < 4294967296) × (c.read_number-lines.result < 4294967296) = (below_four _ _ (omega (arith, start_four known)) c.read_number-start.ensures.upper_bound, below_four _ _ (count_few known) c.read_number-lines.ensures.upper_bound) in
    omega (arith, below)

pub overflow_add-start : goal.overflow_add-start
overflow_add-start c =
    let known = long_enough c.trailer.view_is c.trailer.invariant c.requires.tail_len c.trailer_size-width.ensures.value c.if-size-width.false in
    let below : (c.read_number-start.result < 4294967296) × (c.read_number-lines.result < 4294967296) = (below_four _ _ (omega (arith, start_four known)) c.read_number-start.ensures.upper_bound, below_four _ _ (count_few known) c.read_number-lines.ensures.upper_bound) in
    omega (arith, below)

pub overflow_add-start-2 : goal.overflow_add-start-2
overflow_add-start-2 c =
    let known = long_enough c.trailer.view_is c.trailer.invariant c.requires.tail_len c.trailer_size-width.ensures.value c.if-size-width.false in
    let below : (c.read_number-start.result < 4294967296) × (c.read_number-lines.result < 4294967296) = (below_four _ _ (omega (arith, start_four known)) c.read_number-start.ensures.upper_bound, below_four _ _ (count_few known) c.read_number-lines.ensures.upper_bound) in
    omega (arith, below, c.trailer_size-width.ensures.upper_bound)

pub returns-then-start-lines : goal.returns-then-start-lines
returns-then-start-lines c =
    let known = long_enough c.trailer.view_is c.trailer.invariant c.requires.tail_len c.trailer_size-width.ensures.value c.if-size-width.false in
    rw (← c.trailer.view_is)
    (wrong_length known _ c.read_number.ensures.value c.if-read_number-trailer.false _ _ _ c.read_number-start.ensures.value c.read_number-lines.ensures.value
    (c.trailer_size-width.ensures.value ∙ ap trailer_size (sym c.trailer.view_is)) c.if-start-lines.true)

pub returns : goal.returns
returns c =
    let known = long_enough c.trailer.view_is c.trailer.invariant c.requires.tail_len c.trailer_size-width.ensures.value c.if-size-width.false in
    rw (← c.trailer.view_is)
    (day_told known _ c.read_number.ensures.value c.if-read_number-trailer.false _ _ _ c.read_number-start.ensures.value c.read_number-lines.ensures.value
    (c.trailer_size-width.ensures.value ∙ ap trailer_size (sym c.trailer.view_is)) c.if-start-lines.false)
