-- `fields::pairs::read_pair` meets its contract: each way out is a case of the definition. Assumes nothing.
use mathlib.Core.Path.{sym, ◌∙◌}
use native.Mathlib.Nat.{le_of_lt}
use lib.Seq.{length-take-le}
use Rattle.fields.proofs.PairLaws.{alone_none, alone, first_none, second_none, both}
use Rattle.fields.proofs.pairs.read_pair.Goals as goal

pub returns-in_err-a : goal.returns-in_err-a
returns-in_err-a c = c.from_residual.ensures ∙ alone_none _ _ _ _ c.find-i.ensures c.if-i-s.true (sym c.in_err-a.ensures)

pub returns-then-i-s : goal.returns-then-i-s
returns-then-i-s c = alone _ _ _ _ c.find-i.ensures c.if-i-s.true (sym c.in_ok-a.ensures)

pub slice_bounds-read-end : goal.slice_bounds-read-end
slice_bounds-read-end c = sym (length-take-le _ _ (le_of_lt c.if-i-s.false))

pub returns-in_err-a-2 : goal.returns-in_err-a-2
returns-in_err-a-2 c = c.from_residual-in_err-a-2.ensures ∙ first_none _ _ _ _ c.find-i.ensures c.if-i-s.false (sym c.in_err-a-2.ensures)

pub returns-in_err-b : goal.returns-in_err-b
returns-in_err-b c =
    c.from_residual-in_err-b.ensures ∙ second_none _ _ _ _ c.find-i.ensures c.if-i-s.false (sym c.in_ok-a-2.ensures) (sym c.in_err-b.ensures)

pub returns : goal.returns
returns c =
    both _ _ _ _ c.find-i.ensures c.if-i-s.false (sym c.in_ok-a-2.ensures) (sym c.in_ok-b.ensures)
