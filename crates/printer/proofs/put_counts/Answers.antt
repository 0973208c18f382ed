-- `printer::put_counts` meets its contract: the two counts, one after the other, are the line. Assumes nothing.
use mathlib.Core.Path.{◌≡◌, refl, sym, ap, ◌∙◌}
use mathlib.Core.List.{List, ◌++◌}
use Prim.Native.Nat.{ℕ, ◌+◌, ◌≤◌}
use lib.ListN.{length}
use Rattle.text.specs.Bytes.{bytes}
use Rattle.text.specs.Text.{spliced}
use Rattle.rules.specs.Frame.{line_feed}
use Rattle.printer.specs.RowText.{space}
use Rattle.printer.specs.Text.{counts_text}
use Rattle.printer.specs.Asks.{counted}
use Rattle.printer.proofs.Counts.{counts_line, first_fits, next_fits, next_wrote}
use Rattle.printer.proofs.put_counts.Goals as goal

module _ (lines taken : ℕ) (out : List ℕ) (at : ℕ) (room : at + length (counts_text lines taken) ≤ length out) where
  abbrev first : List ℕ
  first = counted (bytes "LINES ") lines space

  abbrev second : List ℕ
  second = counted (bytes "TAKEN ") taken line_feed

  fits : at + length (first ++ second) ≤ length out
  fits = rw counts_line at room

  first_room : at + length first ≤ length out
  first_room = first_fits out first second at fits refl refl

  module _ {j : ℕ} {o : List ℕ} (ends : j ≡ at + length first) (is : o ≡ spliced out at first) where
    second_room : j + length second ≤ length o
    second_room = next_fits out first second at fits ends is

    whole : {o' : List ℕ} → o' ≡ spliced o j second → o' ≡ spliced out at (counts_text lines taken)
    whole w = next_wrote out first second at fits ends is w ∙ ap (spliced out at) (sym (counts_line lines taken))

pub put_count-j-requires : goal.put_count-j-requires
put_count-j-requires c = let a = c.args in first_room a.lines a.taken a.out.now a.at c.requires

pub put_count-requires : goal.put_count-requires
put_count-requires c = second_room _ _ _ _ c.requires c.put_count-j.ensures.value c.put_count-j.ensures.out_after

pub returns : goal.returns
returns c =
    whole _ _ _ _ c.requires c.put_count-j.ensures.value c.put_count-j.ensures.out_after c.put_count.ensures.out_after
