-- `open` meets its contract. Assumes nothing.
use mathlib.Core.Path.{ap, ◌∙◌}
use Rattle.dayfile.specs.Opening.{open_of}
use Rattle.dayfile.specs.declared.Trailer.{Trailer}
use Rattle.dayfile.proofs.open.Goals as goal

pub returns : goal.returns
returns c = c.open_as.ensures ∙ ap (λ (t : Trailer). open_of t c.args.file.now) c.version_1.ensures
