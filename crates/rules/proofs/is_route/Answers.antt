-- `rules::is_route` meets its contract: each way out is a case of the definition. Assumes nothing.
use mathlib.Core.Path.{◌≡◌, ◌∙◌}
use mathlib.Core.List.{List}
use Prim.Native.Char.{code}
use Prim.Native.Nat.{ℕ}
use native.Mathlib.Nat.{le_refl}
use mathlib.Core.Bool.{and-true}
use lib.ListN.{length}
use borrow.Author.Tests.{le-leb}
use Rattle.shapes.specs.Picture.{run as running}
use Rattle.rules.specs.Form.{is_route}
use Rattle.rules.proofs.is_route.Goals as goal

-- a run that may be as long as the whole has no upper limit
no_most : (s : List ℕ) → running (code "v") 1 (length s) s ≡ is_route s
unfolding running is_route
no_most s = rw (le-leb (length s) (length s) (le_refl (length s)), and-true)

pub returns : goal.returns
returns c = c.run.ensures ∙ no_most _
