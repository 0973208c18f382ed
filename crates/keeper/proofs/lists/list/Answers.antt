-- `list` meets its contract. Assumes nothing.
use Rattle.keeper.proofs.Looks.{judged_told}
use Rattle.keeper.proofs.lists.list.Goals as goal

pub go_over-pass-requires : goal.go_over-pass-requires
go_over-pass-requires c = judged_told c.requires
