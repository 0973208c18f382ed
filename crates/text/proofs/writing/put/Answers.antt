-- `text::writing::put` meets its contract: what `size` found says which case holds, and `write` does the writing. Assumes nothing.
use Rattle.std.specs.Prelude.{Ok}
use mathlib.Core.Path.{sym, ap, ◌∙◌}
use Rattle.text.specs.Text.{text_of}
use Rattle.text.proofs.Laws.{size_known, size_none, no_text, has_room_lem, no_room_told, room_told}
use Rattle.text.proofs.writing.put.Goals as goal

pub returns-then-not-has_room : goal.returns-then-not-has_room
returns-then-not-has_room c =
    let k = size_known _ (sym c.size.ensures ∙ c.in-Some.is) in
    let both = no_room_told _ _ _ k.1 c.has_room.ensures k.0 c.if-not-has_room.true-raw in
    record { value = both.0; out_after = both.1 }

pub write-requires : goal.write-requires
write-requires c =
    let a = c.args in
    let k = size_known a.t (sym c.size.ensures ∙ c.in-Some.is) in
    record { t_value = k.0; t_in_bounds = room_told (text_of a.t) a.out.now a.at k.1 c.has_room.ensures c.if-not-has_room.false-raw }

pub returns-in_default : goal.returns-in_default
returns-in_default c =
    let both = no_text _ _ _ (size_none _ (sym c.size.ensures ∙ c.in_default.is)) in
    record { value = both.0; out_after = both.1 }

pub returns : goal.returns
returns c =
    let w = c.write.ensures in
    let a = c.args in
    let k = size_known a.t (sym c.size.ensures ∙ c.in-Some.is) in
    let r = has_room_lem (text_of a.t) a.out.now a.at k.0 (room_told (text_of a.t) a.out.now a.at k.1 c.has_room.ensures c.if-not-has_room.false-raw) in
    record { value = ap Ok w.value ∙ r.0; out_after = w.out_after ∙ r.1 }
