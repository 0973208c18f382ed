-- `table::field::put_word` meets its contract. Assumes nothing.
use mathlib.Core.Bool.{and-false}
use Rattle.text.proofs.Laws.{no_text}
use Rattle.table.proofs.field.put_word.Goals as goal

pub returns-then-not-is_one : goal.returns-then-not-is_one
returns-then-not-is_one c =
    let both = no_text _ _ _ (rw (← c.if-not-is_one.ensures, and-false)) in
    record { value = both.0; out_after = both.1 }
