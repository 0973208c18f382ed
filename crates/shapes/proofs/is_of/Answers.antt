-- `shapes::is_of` meets its contract: each arm is a case of the definition. Assumes nothing.
use mathlib.Core.Path.{sym, ◌∙◌}
use borrow.Author.Tests.{eq-eqb, ne_eqb}
use Rattle.text.specs.Class.{is_digit, is_letter}
use Rattle.shapes.specs.Picture.{is_of}
use Rattle.shapes.proofs.is_of.Goals as goal

pub returns-in-100 : goal.returns-in-100
unfolding is_of is_digit is_letter
returns-in-100 c = c.between.ensures ∙ rw c.in-100.is

pub returns-in-108 : goal.returns-in-108
unfolding is_of is_digit is_letter
returns-in-108 c = c.between-in-108.ensures ∙ rw c.in-108.is

pub returns-in-97 : goal.returns-in-97
unfolding is_of is_digit is_letter
returns-in-97 c = c.is_alnum.ensures ∙ rw c.in-97.is

pub returns-then-between : goal.returns-then-between
unfolding is_of is_digit is_letter
returns-then-between c = c.if-between.true ∙ rw (c.in-104.is, sym c.between-in-104.ensures ∙ c.if-between.true)

pub returns-else-between : goal.returns-else-between
unfolding is_of is_digit
returns-else-between c = c.between-else-between.ensures ∙ rw (c.in-104.is, sym c.between-in-104.ensures ∙ c.if-between.false)

pub returns-in-110 : goal.returns-in-110
unfolding is_of is_digit is_letter
returns-in-110 c = c.one_of_two.ensures ∙ rw c.in-110.is

pub returns-in-101 : goal.returns-in-101
unfolding is_of is_digit is_letter
returns-in-101 c = c.one_of_two-in-101.ensures ∙ rw c.in-101.is

pub returns-then-b-eq68 : goal.returns-then-b-eq68
unfolding is_of is_digit is_letter
returns-then-b-eq68 c = rw (c.in-116.is, eq-eqb _ _ c.if-b-eq68.true)

pub returns-else-b-eq68 : goal.returns-else-b-eq68
unfolding is_of is_digit is_letter
returns-else-b-eq68 c = c.one_of_two-else-b-eq68.ensures ∙ rw (c.in-116.is, ne_eqb _ _ c.if-b-eq68.false)

pub returns-in-109 : goal.returns-in-109
unfolding is_of is_digit is_letter
returns-in-109 c = c.one_of_two-in-109.ensures ∙ rw c.in-109.is

pub returns-in-118 : goal.returns-in-118
unfolding is_of is_digit is_letter
returns-in-118 c = c.between-in-118.ensures ∙ rw c.in-118.is

pub returns-in_default : goal.returns-in_default
unfolding is_of
returns-in_default c =
    let n = c.in_default.in_default-own.rest in
    rw (ne_eqb _ _ n.0.0.0.0.0.0.0.0.1, ne_eqb _ _ n.0.0.0.0.0.0.0.1, ne_eqb _ _ n.0.0.0.0.0.0.1, ne_eqb _ _ n.0.0.0.0.0.1, ne_eqb _ _ n.0.0.0.0.1, ne_eqb _ _ n.0.0.0.1, ne_eqb _ _ n.0.0.1, ne_eqb _ _ n.0.1, ne_eqb _ _ n.1)
