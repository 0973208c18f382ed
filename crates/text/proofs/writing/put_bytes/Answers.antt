-- `text::writing::put_bytes` meets its contract: the part of the buffer that the bytes take is they. Assumes nothing.
use mathlib.Core.Path.{refl, ◌∙◌}
use Rattle.text.proofs.Laws.{has_room_lem, no_room_told, room_told}
use Rattle.text.proofs.Splice.{put_mid-spliced}
use Rattle.text.proofs.writing.put_bytes.Goals as goal

pub returns-then-not-has_room : goal.returns-then-not-has_room
returns-then-not-has_room c =
    let both = no_room_told _ _ _ refl c.has_room.ensures refl c.if-not-has_room.true-raw in
    record { value = both.0; out_after = both.1 }

pub returns : goal.returns
returns c =
    let a = c.args in
    let room = room_told a.s.now a.out.now a.at refl c.has_room.ensures c.if-not-has_room.false-raw in
    let r = has_room_lem a.s.now a.out.now a.at refl room in
    record { value = r.0; out_after = put_mid-spliced a.out.now a.s.now c.copy_from_slice.new.self a.at c.copy_from_slice.ensures.after ∙ r.1 }
