-- `writer::put_old_head` meets its contract: three parts, each at the start of the rest after those before it. Assumes nothing.
use Rattle.writer.proofs.HeadPuts.{stamp_first, facility_after, type_after}
use Rattle.writer.proofs.put_old_head.Goals as goal

pub returns : goal.returns
returns c =
    let k = c.requires in
    (type_after k c.args.kind (facility_after k (stamp_first k c.put.ensures.out_after) c.put-2.ensures.out_after) c.put-3.ensures.out_after).bytes
