-- `type_word` meets its contract: the two letters are a text. Assumes nothing.
use mathlib.Core.Path.{ap, ◌∙◌}
use Rattle.text.specs.Text.{is_text, packed}
use Rattle.checks.proofs.Lines.{letters_written}
use Rattle.checks.proofs.type_word.Goals as goal

pub pack_known-requires : goal.pack_known-requires
pack_known-requires c =
    let l = letters_written c.args.kind in
    ap is_text (c.put.ensures.out_after ∙ l.0) ∙ l.1

pub returns : goal.returns
returns c = c.pack_known.ensures ∙ ap packed (c.put.ensures.out_after ∙ (letters_written c.args.kind).0)
