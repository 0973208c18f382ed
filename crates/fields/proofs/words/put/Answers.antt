-- `fields::words::put` meets its contract. Assumes nothing.
use mathlib.Core.Path.{sym, ◌∙◌}
use Rattle.text.proofs.Laws.{no_text}
use Rattle.fields.proofs.WordLaws.{writes_word}
use Rattle.fields.proofs.words.put.Goals as goal

pub returns-then-holds : goal.returns-then-holds
returns-then-holds c = rw (← (writes_word _ _ (sym c.holds.ensures ∙ c.if-holds.true))) (record { value = c.put.ensures.value; out_after = c.put.ensures.out_after })

pub returns-else-holds : goal.returns-else-holds
returns-else-holds c =
    let both = no_text _ _ _ (sym c.holds.ensures ∙ c.if-holds.false) in
    record { value = both.0; out_after = both.1 }
