-- `fields::heads::MessageType::read` meets its contract. Assumes nothing.
use mathlib.Core.Path.{◌∙◌}
use native.Mathlib.Omega.{arith}
use borrow.Author.Tests.{ne_eqb}
use Rattle.text.specs.Place.{value}
use Rattle.fields.proofs.TypeLaws.{type_at, type_apart}
use Rattle.fields.proofs.heads.MessageType.read.Goals as goal

pub returns-then-s-ne2 : goal.returns-then-s-ne2
unfolding value
returns-then-s-ne2 c = type_apart _ c.if-s-ne2.true

pub returns-in-16710 : goal.returns-in-16710
unfolding value
returns-in-16710 c = (rw c.in-16710.is) ∙ (type_at _ c.if-s-ne2.false (omega (arith, c.shared_slice_known-3-1.given 1)) c.from_be_bytes-letters.result (omega (arith, c.from_be_bytes-letters.ensures)))

pub returns-in-16730 : goal.returns-in-16730
unfolding value
returns-in-16730 c = (rw c.in-16730.is) ∙ (type_at _ c.if-s-ne2.false (omega (arith, c.shared_slice_known-3-1.given 1)) c.from_be_bytes-letters.result (omega (arith, c.from_be_bytes-letters.ensures)))

pub returns-in-17498 : goal.returns-in-17498
unfolding value
returns-in-17498 c = (rw c.in-17498.is) ∙ (type_at _ c.if-s-ne2.false (omega (arith, c.shared_slice_known-3-1.given 1)) c.from_be_bytes-letters.result (omega (arith, c.from_be_bytes-letters.ensures)))

pub returns-in-18010 : goal.returns-in-18010
unfolding value
returns-in-18010 c = (rw c.in-18010.is) ∙ (type_at _ c.if-s-ne2.false (omega (arith, c.shared_slice_known-3-1.given 1)) c.from_be_bytes-letters.result (omega (arith, c.from_be_bytes-letters.ensures)))

pub returns-in-21082 : goal.returns-in-21082
unfolding value
returns-in-21082 c = (rw c.in-21082.is) ∙ (type_at _ c.if-s-ne2.false (omega (arith, c.shared_slice_known-3-1.given 1)) c.from_be_bytes-letters.result (omega (arith, c.from_be_bytes-letters.ensures)))

pub returns-in-21594 : goal.returns-in-21594
unfolding value
returns-in-21594 c = (rw c.in-21594.is) ∙ (type_at _ c.if-s-ne2.false (omega (arith, c.shared_slice_known-3-1.given 1)) c.from_be_bytes-letters.result (omega (arith, c.from_be_bytes-letters.ensures)))

pub returns-in-21850 : goal.returns-in-21850
unfolding value
returns-in-21850 c = (rw c.in-21850.is) ∙ (type_at _ c.if-s-ne2.false (omega (arith, c.shared_slice_known-3-1.given 1)) c.from_be_bytes-letters.result (omega (arith, c.from_be_bytes-letters.ensures)))

pub returns-in-21076 : goal.returns-in-21076
unfolding value
returns-in-21076 c = (rw c.in-21076.is) ∙ (type_at _ c.if-s-ne2.false (omega (arith, c.shared_slice_known-3-1.given 1)) c.from_be_bytes-letters.result (omega (arith, c.from_be_bytes-letters.ensures)))

pub returns-in-21583 : goal.returns-in-21583
unfolding value
returns-in-21583 c = (rw c.in-21583.is) ∙ (type_at _ c.if-s-ne2.false (omega (arith, c.shared_slice_known-3-1.given 1)) c.from_be_bytes-letters.result (omega (arith, c.from_be_bytes-letters.ensures)))

pub returns-in-18498 : goal.returns-in-18498
unfolding value
returns-in-18498 c = (rw c.in-18498.is) ∙ (type_at _ c.if-s-ne2.false (omega (arith, c.shared_slice_known-3-1.given 1)) c.from_be_bytes-letters.result (omega (arith, c.from_be_bytes-letters.ensures)))

pub returns-in_default : goal.returns-in_default
unfolding value
returns-in_default c = let n = c.in_default.in_default-own.rest in
    (rw (ne_eqb _ _ n.0.0.0.0.0.0.0.0.0.1, ne_eqb _ _ n.0.0.0.0.0.0.0.0.1, ne_eqb _ _ n.0.0.0.0.0.0.0.1, ne_eqb _ _ n.0.0.0.0.0.0.1, ne_eqb _ _ n.0.0.0.0.0.1, ne_eqb _ _ n.0.0.0.0.1, ne_eqb _ _ n.0.0.0.1, ne_eqb _ _ n.0.0.1, ne_eqb _ _ n.0.1, ne_eqb _ _ n.1)) ∙ (type_at _ c.if-s-ne2.false (omega (arith, c.shared_slice_known-3-1.given 1)) c.from_be_bytes-letters.result (omega (arith, c.from_be_bytes-letters.ensures)))
