-- `writer::sizes::is_none` meets its contract. Assumes nothing.
use Rattle.std.proofs.Common.{rules}
use Rattle.table.specs.Field.{is_one}
use Rattle.writer.proofs.sizes.is_none.Goals as goal

pub returns-then-v-eq0-2 : goal.returns-then-v-eq0-2
unfolding is_one
returns-then-v-eq0-2 c = search rules

pub returns-else-v-eq0-2 : goal.returns-else-v-eq0-2
unfolding is_one
returns-else-v-eq0-2 c = search rules
