-- `put` meets its contract. Assumes nothing.
use mathlib.Core.Path.{refl}
use Rattle.text.proofs.Logic.{true_false}
use Rattle.keeper.proofs.shelf.Shelf.put.Goals as goal

pub returns-then-text-self : goal.returns-then-text-self
returns-then-text-self c = λ e. true_false e refl

pub returns-in-Err : goal.returns-in-Err
returns-in-Err c = λ e. true_false e refl
