-- `keep_from` meets its contract. Assumes nothing.
use Prim.Native.Nat.{◌+◌, ◌-◌}
use native.Mathlib.Omega.{arith}
use lib.ListN.{length}
use borrow.Author.Tests.{leb-true}
use Rattle.text.proofs.Logic.{so}
use Rattle.dayfile.proofs.Keeps.{not_far, kept_long, kept_feed, kept_many, no_run, no_place, kept_next}
use Rattle.dayfile.proofs.keep_from.Goals as goal

pub returns-then-line-gt-LONGEST_LINE : goal.returns-then-line-gt-LONGEST_LINE
returns-then-line-gt-LONGEST_LINE c =
    let both = kept_long _ _ _ _ _ _ c.if-line-gt-LONGEST_LINE.true in
    record { value = both.0; out_after = both.1.0; offsets_after = both.1.1 }

pub returns-then-find_far-line : goal.returns-then-find_far-line
returns-then-find_far-line c =
    let both = kept_feed _ _ _ _ _ _ c.if-line-gt-LONGEST_LINE.false c.find_far.ensures c.if-find_far-line.true in
    record { value = both.0; out_after = both.1.0; offsets_after = both.1.1 }

pub returns-then-is_full : goal.returns-then-is_full
returns-then-is_full c =
    let both = kept_many _ _ _ _ _ _ c.if-line-gt-LONGEST_LINE.false c.find_far.ensures c.if-find_far-line.false c.is_full.ensures c.if-is_full.true in
    record { value = both.0; out_after = both.1.0; offsets_after = both.1.1 }

pub returns-then-not-has_room : goal.returns-then-not-has_room
returns-then-not-has_room c =
    let both = no_place _ _ _ _ _ _ c.if-line-gt-LONGEST_LINE.false c.find_far.ensures c.if-find_far-line.false c.is_full.ensures c.if-is_full.false c.has_room.ensures c.if-not-has_room.true-raw in
    record { value = both.0; out_after = both.1.0; offsets_after = both.1.1 }

pub returns-then-place-offsets : goal.returns-then-place-offsets
returns-then-place-offsets c =
    let both = no_run _ _ _ _ _ _ c.if-line-gt-LONGEST_LINE.false c.find_far.ensures c.if-find_far-line.false c.is_full.ensures c.if-is_full.false c.if-place-offsets.true in
    record { value = both.0; out_after = both.1.0; offsets_after = both.1.1 }

pub overflow_add-out : goal.overflow_add-out
overflow_add-out c = omega (arith, not_far _ _ _ c.is_full.ensures c.if-is_full.false)

pub bounds-out-at : goal.bounds-out-at
bounds-out-at c =
    let a = c.args in
    omega (arith, c.put_bytes.auto.out, leb-true (a.place.at - a.base + (length a.line.now + 1)) (length a.out.now) (so c.has_room.ensures c.if-not-has_room.false-raw))

pub overflow_cast-offsets : goal.overflow_cast-offsets
overflow_cast-offsets c = omega (arith, not_far _ _ _ c.is_full.ensures c.if-is_full.false)

pub overflow_add-result : goal.overflow_add-result
overflow_add-result c = omega (arith, not_far _ _ _ c.is_full.ensures c.if-is_full.false)

pub overflow_add-result-2 : goal.overflow_add-result-2
overflow_add-result-2 c = omega (arith, not_far _ _ _ c.is_full.ensures c.if-is_full.false)

pub returns : goal.returns
returns c =
    let both = kept_next _ _ _ _ _ _ c.if-line-gt-LONGEST_LINE.false c.find_far.ensures c.if-find_far-line.false c.is_full.ensures c.if-is_full.false c.has_room.ensures c.if-not-has_room.false-raw c.if-place-offsets.false c.put_bytes.ensures.out_after in
    record { value = both.0; out_after = both.1.0; offsets_after = both.1.1 }
