-- `fields::pairs::put_pair` meets its contract. Assumes nothing.
use Rattle.std.specs.Prelude.{Err}
use Rattle.std.specs.Option.{ok_or}
use Rattle.std.proofs.Common.{rules}
use mathlib.Core.Path.{◌≡◌, sym, ap, ◌∙◌}
use Rattle.text.specs.declared.NotWritten.TheVariants.{NoText}
use Rattle.text.proofs.Logic.{so, not_so}
use Rattle.text.proofs.Laws.{no_text}
use Rattle.fields.specs.Pair.{is_pair_text}
use Rattle.fields.proofs.PairLaws.{pair_writes, pair_too_long}
use Rattle.fields.proofs.pairs.put_pair.Goals as goal

pub returns-then-not-holds_pair : goal.returns-then-not-holds_pair
unfolding is_pair_text
returns-then-not-holds_pair c =
    let both = no_text _ _ _ (rw (not_so c.holds_pair.ensures c.if-not-holds_pair.true-raw)) in
    record { value = both.0; out_after = both.1 }

pub returns-in_err-word : goal.returns-in_err-word
returns-in_err-word c =
    let none = c.in_err-word.ensures.ok_part in
    let both = no_text _ _ _ (pair_too_long _ _ _ _ (so c.holds_pair.ensures c.if-not-holds_pair.false-raw) (sym c.pair_word.ensures ∙ none)) in
    let said = c.in_err-word.ensures.value ∙ ap (λ q. ok_or q NoText) none in
    let handed_on : c.from_residual.result ≡ Err NoText = search (rules, said) in
    record { value = handed_on ∙ both.0; out_after = both.1 }

pub returns : goal.returns
returns c =
    let w = pair_writes _ _ _ _ (so c.holds_pair.ensures c.if-not-holds_pair.false-raw) (sym c.pair_word.ensures ∙ c.in_ok-word.ensures.ok_part) in rw (← w.0, ← w.1) (record { value = c.put.ensures.value; out_after = c.put.ensures.out_after })
