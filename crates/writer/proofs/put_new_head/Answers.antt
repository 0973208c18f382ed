-- `writer::put_new_head` meets its contract: four parts, each at the start of the rest after those before it. Assumes nothing.
use Rattle.writer.proofs.HeadPuts.{sequence_first, stamp_after, facility_after, type_after}
use Rattle.writer.proofs.put_new_head.Goals as goal

pub returns : goal.returns
returns c =
    let k = c.requires in
    (type_after k c.args.kind (facility_after k (stamp_after k (sequence_first k c.put.ensures.out_after) c.put-2.ensures.out_after) c.put-3.ensures.out_after) c.put-4.ensures.out_after).bytes
