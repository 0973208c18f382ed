-- `rules::is_position` meets its contract: each test is a part of what a position is, said of its numbers. Assumes nothing.
use mathlib.Core.Path.{◌≡◌, ◌∙◌}
use mathlib.Core.Bool.{◌&&◌}
use Prim.Native.Char.{code}
use lib.Dec.{eqb}
use lib.ListN.{length, get_or}
use borrow.Author.Tests.{eq-eqb, ne_eqb}
use Rattle.shapes.specs.Picture.{is_of, part}
use Rattle.rules.proofs.Minutes.{with_minutes, position_tests}
use Rattle.rules.proofs.is_position.Goals.{then-s-eq12, else-s-eq12, then-is_of, else-is_of, then-s-eq47, else-s-eq47, then-is_of-2, else-is_of-2}
use Rattle.rules.proofs.is_position.Goals as goal

pub returns-then-is_minutes : goal.returns-then-is_minutes
returns-then-is_minutes c =
    let s = c.args.s.now in
    let one : c.if-s-eq12.value ≡ (eqb (length s) 12 && is_of (code "n") (get_or s 4 0)) = elim c.if-s-eq12.branch [
      | then-s-eq12 w ↦ w.value-is ∙ w.is_of.ensures ∙ rw (eq-eqb _ _ w.if-s-eq12.true)
      | else-s-eq12 w ↦ w.value-is ∙ rw (ne_eqb _ _ w.if-s-eq12.false)
    ] in
    let two : c.if-is_of.value ≡ (c.if-s-eq12.value && eqb (get_or s 5 0) (code "/")) = elim c.if-is_of.branch [
      | then-is_of w ↦ w.value-is ∙ rw w.if-is_of.true
      | else-is_of w ↦ w.value-is ∙ rw w.if-is_of.false
    ] in
    let three : c.if-s-eq47.value ≡ (c.if-is_of.value && is_of (code "e") (get_or s 11 0)) = elim c.if-s-eq47.branch [
      | then-s-eq47 w ↦ w.value-is ∙ w.is_of-then-s-eq47.ensures ∙ rw w.if-s-eq47.true
      | else-s-eq47 w ↦ w.value-is ∙ rw w.if-s-eq47.false
    ] in
    let four : c.if-is_of-2.value ≡ (c.if-s-eq47.value && with_minutes 9000 (part 0 4 s)) = elim c.if-is_of-2.branch [
      | then-is_of-2 w ↦ w.value-is ∙ w.is_minutes.ensures ∙ rw w.if-is_of-2.true
      | else-is_of-2 w ↦ w.value-is ∙ rw w.if-is_of-2.false
    ] in
    c.is_minutes-then-is_minutes.ensures ∙ rw (← (position_tests s), ← one, ← two, ← three, ← four, c.if-is_minutes.true)

pub returns-else-is_minutes : goal.returns-else-is_minutes
returns-else-is_minutes c =
    let s = c.args.s.now in
    let one : c.if-s-eq12.value ≡ (eqb (length s) 12 && is_of (code "n") (get_or s 4 0)) = elim c.if-s-eq12.branch [
      | then-s-eq12 w ↦ w.value-is ∙ w.is_of.ensures ∙ rw (eq-eqb _ _ w.if-s-eq12.true)
      | else-s-eq12 w ↦ w.value-is ∙ rw (ne_eqb _ _ w.if-s-eq12.false)
    ] in
    let two : c.if-is_of.value ≡ (c.if-s-eq12.value && eqb (get_or s 5 0) (code "/")) = elim c.if-is_of.branch [
      | then-is_of w ↦ w.value-is ∙ rw w.if-is_of.true
      | else-is_of w ↦ w.value-is ∙ rw w.if-is_of.false
    ] in
    let three : c.if-s-eq47.value ≡ (c.if-is_of.value && is_of (code "e") (get_or s 11 0)) = elim c.if-s-eq47.branch [
      | then-s-eq47 w ↦ w.value-is ∙ w.is_of-then-s-eq47.ensures ∙ rw w.if-s-eq47.true
      | else-s-eq47 w ↦ w.value-is ∙ rw w.if-s-eq47.false
    ] in
    let four : c.if-is_of-2.value ≡ (c.if-s-eq47.value && with_minutes 9000 (part 0 4 s)) = elim c.if-is_of-2.branch [
      | then-is_of-2 w ↦ w.value-is ∙ w.is_minutes.ensures ∙ rw w.if-is_of-2.true
      | else-is_of-2 w ↦ w.value-is ∙ rw w.if-is_of-2.false
    ] in
    rw (← (position_tests s), ← one, ← two, ← three, ← four, c.if-is_minutes.false)
