-- `checks::put` meets its contract: the five parts, one after the other. Assumes nothing.
use Rattle.checks.proofs.Puts.{fits₁, kind_packed, key_packed, room₂, room₃, room₄, room₅, put_whole}
use Rattle.checks.proofs.put.Goals as goal

pub put_count-j-requires : goal.put_count-j-requires
put_count-j-requires c = let a = c.args in fits₁ a.n a.verdict a.out.now a.at c.requires.verdict_value c.requires.longest_saying_in_bounds

pub put_count-j-requires-2 : goal.put_count-j-requires-2
put_count-j-requires-2 c =
    let a = c.args in
    room₂ a.n a.verdict _ _ c.requires.verdict_value c.requires.longest_saying_in_bounds (c.put_count-j.ensures.value, c.put_count-j.ensures.out_after)

pub put_count-j-requires-3 : goal.put_count-j-requires-3
put_count-j-requires-3 c =
    let a = c.args in
    room₃ a.n a.verdict _ _ c.requires.verdict_value c.requires.longest_saying_in_bounds (c.put_count-j.ensures.value, c.put_count-j.ensures.out_after) (c.put_count-j-2.ensures.value, c.put_count-j-2.ensures.out_after)

pub put_part-j-requires : goal.put_part-j-requires
put_part-j-requires c =
    let a = c.args in
    (kind_packed a.n a.verdict a.out.now a.at c.requires.verdict_value c.requires.longest_saying_in_bounds, room₄ a.n a.verdict _ _ c.requires.verdict_value c.requires.longest_saying_in_bounds (c.put_count-j.ensures.value, c.put_count-j.ensures.out_after) (c.put_count-j-2.ensures.value, c.put_count-j-2.ensures.out_after) (c.put_count-j-3.ensures.value, c.put_count-j-3.ensures.out_after))

pub put_part-requires : goal.put_part-requires
put_part-requires c =
    let a = c.args in
    (key_packed a.n a.verdict a.out.now a.at c.requires.verdict_value c.requires.longest_saying_in_bounds, room₅ a.n a.verdict _ _ c.requires.verdict_value c.requires.longest_saying_in_bounds (c.put_count-j.ensures.value, c.put_count-j.ensures.out_after) (c.put_count-j-2.ensures.value, c.put_count-j-2.ensures.out_after) (c.put_count-j-3.ensures.value, c.put_count-j-3.ensures.out_after) (c.put_part-j.ensures.value, c.put_part-j.ensures.out_after))

pub returns : goal.returns
returns c =
    let a = c.args in
    let both = put_whole a.n a.verdict _ _ c.requires.verdict_value c.requires.longest_saying_in_bounds (c.put_count-j.ensures.value, c.put_count-j.ensures.out_after) (c.put_count-j-2.ensures.value, c.put_count-j-2.ensures.out_after) (c.put_count-j-3.ensures.value, c.put_count-j-3.ensures.out_after) (c.put_part-j.ensures.value, c.put_part-j.ensures.out_after) (c.put_part.ensures.value, c.put_part.ensures.out_after) in
    record { value = both.0; out_after = both.1 }
