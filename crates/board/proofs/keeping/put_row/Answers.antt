-- `board::keeping::put_row` meets its contract: eleven words, the row's, are one writing. Assumes nothing.
use mathlib.Core.Path.{ap, ◌∙◌}
use mathlib.Core.List.{List}
use Prim.Native.Nat.{ℕ}
use Rattle.text.specs.Text.{spliced}
use Rattle.text.proofs.Splice.{put_mid-spliced}
use Rattle.board.proofs.Stores.{eleven_words}
use Rattle.board.proofs.keeping.put_row.Goals as goal

pub returns : goal.returns
returns c = let l : List ℕ = c.args.words.now in
    put_mid-spliced l _ c.copy_from_slice.new.self c.args.p c.copy_from_slice.ensures.after
    ∙ ap (spliced l c.args.p) (rw (c.arrival_words-a.ensures, c.track_words-t.ensures) (eleven_words c.args.row))
