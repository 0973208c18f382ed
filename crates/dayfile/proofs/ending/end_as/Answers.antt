-- `ending::end_as` meets its contract. Assumes nothing.
use mathlib.Core.Path.{sym, ◌∙◌}
use native.Mathlib.Omega.{arith}
use lib.ListN.{length-take}
use lib.Seq.{length-take-le}
use Rattle.dayfile.specs.DayFile.{trailer_size}
use Rattle.dayfile.proofs.Keeps.{not_over, agreed_within, not_agreed, ended_over, ended_full, ended_whole}
use Rattle.dayfile.proofs.ending.end_as.Goals as goal

pub returns-then-not-is_agreed : goal.returns-then-not-is_agreed
returns-then-not-is_agreed c =
    let both = not_agreed _ _ _ _ c.is_agreed.ensures c.if-not-is_agreed.true-raw in
    record { value = both.0; out_after = both.1 }

pub returns-then-is_over : goal.returns-then-is_over
returns-then-is_over c =
    let both = ended_over _ _ _ _ c.is_agreed.ensures c.if-not-is_agreed.false-raw c.is_over.ensures c.if-is_over.true in
    record { value = both.0; out_after = both.1 }

pub overflow_mul-after : goal.overflow_mul-after
overflow_mul-after c = omega (arith, (agreed_within _ _ _ c.is_agreed.ensures c.if-not-is_agreed.false-raw).1)

pub overflow_add-after : goal.overflow_add-after
overflow_add-after c = let w = agreed_within _ _ _ c.is_agreed.ensures c.if-not-is_agreed.false-raw in omega (arith, w.0, w.1)

pub overflow_add-size : goal.overflow_add-size
unfolding trailer_size
overflow_add-size c =
    omega (arith, c.trailer_size.ensures.value, c.trailer_size.ensures.upper_bound, (not_over _ _ (sym c.is_over.ensures ∙ c.if-is_over.false)).1, (agreed_within _ _ _ c.is_agreed.ensures c.if-not-is_agreed.false-raw).1)

pub returns-then-size-out : goal.returns-then-size-out
returns-then-size-out c =
    let both = ended_full _ _ _ _ c.is_agreed.ensures c.if-not-is_agreed.false-raw c.is_over.ensures c.if-is_over.false c.trailer_size.ensures.value c.if-size-out.true in
    record { value = both.0; out_after = both.1 }

pub slice_bounds-put_index-end : goal.slice_bounds-put_index-end
slice_bounds-put_index-end c = sym (length-take-le _ _ (agreed_within _ _ _ c.is_agreed.ensures c.if-not-is_agreed.false-raw).1)

pub put_index-requires : goal.put_index-requires
put_index-requires c = simp length-take (omega (arith, c.if-size-out.false))

pub put_trailer-requires : goal.put_trailer-requires
put_trailer-requires c =
    record {
      place_value = sym c.is_over.ensures ∙ c.if-is_over.false;
      trailer_in_bounds = omega (arith, c.if-size-out.false, c.trailer_size.ensures.value, c.put_index.auto.out);
    }

pub returns : goal.returns
returns c =
    let both = ended_whole _ _ _ _ c.is_agreed.ensures c.if-not-is_agreed.false-raw c.is_over.ensures c.if-is_over.false c.trailer_size.ensures.value c.if-size-out.false c.put_index.ensures c.put_trailer.ensures in
    record { value = both.0; out_after = both.1 }
