-- `fields::frame::body_at` meets its contract. Assumes nothing.
use mathlib.Core.Path.{sym, ap}
use Rattle.fields.specs.Head.{head_length}
use Rattle.fields.proofs.frame.body_at.Goals as goal

pub returns-in-New : goal.returns-in-New
returns-in-New c = ap head_length (sym c.in-New.is)

pub returns-in-Old : goal.returns-in-Old
returns-in-Old c = ap head_length (sym c.in-Old.is)
