-- `writer::write_by` meets its contract: a line that some reading has, and that has room, is written in the rest from its place.
-- Assumes nothing.
use Rattle.std.specs.Prelude.{Ok}
use mathlib.Core.Path.{◌≡◌, sym, ap, ◌∙◌}
use mathlib.Core.Bool.{true}
use mathlib.Core.List.{List}
use Prim.Native.Nat.{ℕ, ◌+◌, ◌≤◌}
use native.Mathlib.Omega.{arith}
use lib.ListN.{length, length-drop}
use borrow.Author.Tests.{leb-true}
use Rattle.text.proofs.Splice.{lend_on}
use Rattle.text.specs.Text.{spliced, written_next, written_bytes}
use Rattle.text.proofs.Logic.{so}
use Rattle.text.proofs.Laws.{no_text, has_room_lem, no_room_told}
use Rattle.shapes.proofs.Laws.{rest_all}
use Rattle.rules.specs.declared.Rule.{Rule}
use Rattle.messages.specs.declared.Reading.{Reading}
use Rattle.line.specs.Line.{line_by, is_allowed_by}
use Rattle.writer.proofs.LineSizes.{line_known, line_unknown}
use Rattle.writer.specs.Asks.{LineAsks}
use Rattle.writer.proofs.Cases.{in_write_case}
use Rattle.writer.proofs.Puts.{rest_from, given}
use Rattle.writer.proofs.write_by.Goals as goal

-- n is the size of the line, which has room
module _ (ρ : Rule) (x : Reading) (r out : List ℕ) (at n : ℕ) (ok : is_allowed_by ρ x r ≡ true) (size : n ≡ length (line_by ρ x r)) (fits : at + n ≤ length out) where
  asks : LineAsks ρ x r (rest_from at out)
  asks = record { good = ok; room = rw (rest_all out at) (omega (arith, length-drop at out)) }

  puts : {ys : List ℕ} → ys ≡ spliced (rest_from at out) 0 (line_by ρ x r) → (Ok (at + n) ≡ written_next (is_allowed_by ρ x r) (line_by ρ x r) out at) × (given at out ys ≡ written_bytes (is_allowed_by ρ x r) (line_by ρ x r) out at)
  puts w =
      let h = has_room_lem (line_by ρ x r) out at ok (omega arith) in
      (ap (λ (i : ℕ). Ok (at + i)) size ∙ h.0, lend_on out (line_by ρ x r) at w ∙ h.1)

pub returns-in_default : goal.returns-in_default
returns-in_default c =
    let both = in_write_case _ _ _ _ _ (no_text _ _ _ (line_unknown _ _ _ (sym c.size_line.ensures ∙ c.in_default.is))) in
    record { value = both.0; out_after = both.1.0; write_case = both.1.1 }

pub returns-then-not-has_room : goal.returns-then-not-has_room
returns-then-not-has_room c =
    let known : let s = c.args in (is_allowed_by s.rule s.x s.free.now ≡ true) × (c.in-Some.n ≡ length (line_by s.rule s.x s.free.now)) = line_known _ _ _ (sym c.size_line.ensures ∙ c.in-Some.is) in
    let both = in_write_case _ _ _ _ _ (no_room_told _ _ _ known.1 c.has_room.ensures known.0 c.if-not-has_room.true-raw) in
    record { value = both.0; out_after = both.1.0; write_case = both.1.1 }

pub slice_bounds-put_line-count : goal.slice_bounds-put_line-count
slice_bounds-put_line-count c =
    let roomy : c.args.at + c.in-Some.n ≤ length c.args.out.now = leb-true _ _ (so c.has_room.ensures c.if-not-has_room.false-raw) in
    omega (arith, roomy)

pub slice_bounds-put_line-start : goal.slice_bounds-put_line-start
slice_bounds-put_line-start c =
    let roomy : c.args.at + c.in-Some.n ≤ length c.args.out.now = leb-true _ _ (so c.has_room.ensures c.if-not-has_room.false-raw) in
    omega (arith, roomy)

pub put_line-requires : goal.put_line-requires
put_line-requires c =
    let known : let s = c.args in (is_allowed_by s.rule s.x s.free.now ≡ true) × (c.in-Some.n ≡ length (line_by s.rule s.x s.free.now)) = line_known _ _ _ (sym c.size_line.ensures ∙ c.in-Some.is) in
    let roomy : c.args.at + c.in-Some.n ≤ length c.args.out.now = leb-true _ _ (so c.has_room.ensures c.if-not-has_room.false-raw) in
    asks _ _ _ c.args.out.now _ _ known.0 known.1 roomy

pub overflow_add-result : goal.overflow_add-result
overflow_add-result c =
    let roomy : c.args.at + c.in-Some.n ≤ length c.args.out.now = leb-true _ _ (so c.has_room.ensures c.if-not-has_room.false-raw) in
    omega (arith, roomy)

pub returns : goal.returns
returns c =
    let known : let s = c.args in (is_allowed_by s.rule s.x s.free.now ≡ true) × (c.in-Some.n ≡ length (line_by s.rule s.x s.free.now)) = line_known _ _ _ (sym c.size_line.ensures ∙ c.in-Some.is) in
    let roomy : c.args.at + c.in-Some.n ≤ length c.args.out.now = leb-true _ _ (so c.has_room.ensures c.if-not-has_room.false-raw) in
    let both = in_write_case _ _ _ _ _ (puts _ _ _ _ _ _ known.0 known.1 roomy c.put_line.ensures) in
    record { value = both.0; out_after = both.1.0; write_case = both.1.1 }
