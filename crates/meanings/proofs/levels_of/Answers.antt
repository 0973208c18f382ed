-- `meanings::levels_of` meets its contract. Assumes nothing.
use Rattle.std.specs.Prelude.{Some}
use mathlib.Core.Path.{sym, ap, ap₂, ◌∙◌}
use native.Mathlib.Nat.{le_of_lt}
use lib.Seq.{length-take-le}
use Rattle.text.proofs.Logic.{so, not_so}
use Rattle.rules.specs.Kind.{is_form}
use Rattle.meanings.specs.Meaning.{levels_of}
use Rattle.meanings.specs.declared.Levels.TheVariants.{One, Block}
use Rattle.meanings.proofs.Laws.{one_level, two_levels}
use Rattle.meanings.proofs.levels_of.Goals as goal

pub returns-then-not-is_form : goal.returns-then-not-is_form
unfolding levels_of is_form
returns-then-not-is_form c = rw (not_so c.is_form.ensures c.if-not-is_form.true-raw)

pub returns-then-i-s : goal.returns-then-i-s
unfolding is_form
returns-then-i-s c =
    ap (λ n. Some (One n)) c.decimal.ensures ∙ one_level _ _ c.find-i.ensures (so c.is_form.ensures c.if-not-is_form.false-raw) c.if-i-s.true

pub slice_bounds-decimal-end : goal.slice_bounds-decimal-end
unfolding levels_of is_form
slice_bounds-decimal-end c = sym (length-take-le _ _ (le_of_lt c.if-i-s.false))

pub returns : goal.returns
unfolding is_form
returns c =
    ap₂ (λ n m. Some (Block n m)) c.decimal-low.ensures c.decimal-high.ensures ∙ two_levels _ _ c.find-i.ensures (so c.is_form.ensures c.if-not-is_form.false-raw) c.if-i-s.false
