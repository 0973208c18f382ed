-- `numbers::put_number` meets its contract. Assumes nothing.
use Rattle.dayfile.proofs.Puts.{number_put, number_next}
use Rattle.dayfile.proofs.numbers.put_number.Goals as goal

pub loop-k-preserved : goal.loop-k-preserved
loop-k-preserved c = number_next c.loop-k.invariant c.loop-k-test.true

pub returns : goal.returns
returns c = number_put c.loop-k.invariant c.loop-k-test.false
