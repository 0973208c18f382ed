-- `answer` meets its contract. Assumes nothing.
use Rattle.keeper.proofs.lists.answer.Goals as goal

pub list-requires : goal.list-requires
list-requires c = rw c.in-Ok.is at c.in-Some.ensures
