-- `ending::end_file` meets its contract. Assumes nothing.
use Rattle.dayfile.proofs.ending.end_file.Goals as goal

pub returns : goal.returns
returns c = record { value = rw c.version_1.ensures at c.end_as.ensures.value; out_after = rw c.version_1.ensures at c.end_as.ensures.out_after }
