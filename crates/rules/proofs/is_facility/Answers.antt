-- `rules::is_facility` meets its contract: four alnum are the first of its pictures. Assumes nothing.
use mathlib.Core.Path.{◌≡◌, sym, ◌∙◌}
use mathlib.Core.Bool.{◌||◌}
use mathlib.Core.List.{List}
use Prim.Native.Char.{code}
use Prim.Native.Nat.{ℕ}
use Rattle.text.specs.Bytes.{bytes}
use Rattle.shapes.specs.Pieces.{pieces}
use Rattle.shapes.specs.Picture.{fits_any, one_of, run}
use Rattle.shapes.proofs.Same.{fits_same}
use Rattle.rules.specs.Form.{is_facility}
use Rattle.rules.proofs.is_facility.Goals as goal

first : (s : List ℕ) → is_facility s ≡ (run (code "a") 4 4 s || one_of (bytes " aaa|  aa|   a") s)
unfolding one_of pieces fits_any
first s = rw (fits_same (code "a") 4 s)

pub returns-then-run : goal.returns-then-run
returns-then-run c = c.if-run.true ∙ rw (first _, sym c.run.ensures ∙ c.if-run.true)

pub returns-else-run : goal.returns-else-run
returns-else-run c = c.one_of.ensures ∙ rw (first _, sym c.run.ensures ∙ c.if-run.false)
