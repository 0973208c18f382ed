-- `line::free` meets its contract. Assumes nothing.
use mathlib.Core.Path.{◌≡◌, sym, ap, ◌∙◌}
use Prim.Native.Nat.{◌+◌, ◌≤◌}
use native.Mathlib.Omega.{arith}
use lib.ListN.{length}
use Rattle.text.proofs.Logic.{so, not_so}
use Rattle.shapes.proofs.Laws.{rest_all, at_front}
use Rattle.fields.specs.Head.{head_length, type_part}
use Rattle.table.specs.Table.{route_by, route_at_by}
use Rattle.shapes.specs.Picture.{starts_at}
use Rattle.line.specs.Read.{type_by}
use Rattle.line.proofs.Ways.{letters_are, free_short, free_none, free_whole, free_route, part_of_part}
use Rattle.line.proofs.free.Goals as goal

pub returns-then-line-at : goal.returns-then-line-at
returns-then-line-at c =
    let f = free_short c.args.rule c.args.line.now (omega (arith, c.if-line-at.true, c.body_at-at.ensures)) in
    record { result_value = f.0; ref_ptr_value = at_front _ f.1 }

pub returns-in_default : goal.returns-in_default
returns-in_default c =
    let enough : head_length c.args.rule ≤ length c.args.line.now = omega (arith, c.if-line-at.false, c.body_at-at.ensures) in
    let letters : c.kind_of.result ≡ type_by c.args.rule (type_part c.args.rule c.args.line.now) = c.kind_of.ensures ∙ ap (type_by _) (letters_are c.args.rule c.args.line.now c.body_at-at.ensures) in
    let f = free_none _ _ enough (sym letters ∙ c.in_default.is) in
    record { result_value = f.0; ref_ptr_value = at_front _ f.1 }

pub returns-then-not-has_fields : goal.returns-then-not-has_fields
returns-then-not-has_fields c =
    let enough : head_length c.args.rule ≤ length c.args.line.now = omega (arith, c.if-line-at.false, c.body_at-at.ensures) in
    let letters : c.kind_of.result ≡ type_by c.args.rule (type_part c.args.rule c.args.line.now) = c.kind_of.ensures ∙ ap (type_by _) (letters_are c.args.rule c.args.line.now c.body_at-at.ensures) in
    let f = free_whole c.args.rule c.args.line.now enough _ (sym letters ∙ c.in-Some.is) (not_so c.has_fields.ensures c.if-not-has_fields.true-raw) in rw c.body_at-at.ensures (record { result_value = rest_all c.args.line.now (head_length c.args.rule) ∙ f.0; ref_ptr_value = ap (starts_at _) f.1 })

pub returns : goal.returns
returns c =
    let enough : head_length c.args.rule ≤ length c.args.line.now = omega (arith, c.if-line-at.false, c.body_at-at.ensures) in
    let letters : c.kind_of.result ≡ type_by c.args.rule (type_part c.args.rule c.args.line.now) = c.kind_of.ensures ∙ ap (type_by _) (letters_are c.args.rule c.args.line.now c.body_at-at.ensures) in
    let l = rest_all c.args.line.now (head_length c.args.rule) in
    let e0 = rw c.body_at-at.ensures at c.route.ensures.result_value in
    let e1 = rw c.body_at-at.ensures at c.route.ensures.ref_ptr_value in
    let f = free_route c.args.rule c.args.line.now enough _ (sym letters ∙ c.in-Some.is) (so c.has_fields.ensures c.if-not-has_fields.false-raw) in
    record {
      result_value = e0 ∙ ap (route_by _ _) l ∙ f.0;
      ref_ptr_value = e1 ∙ part_of_part _ (head_length c.args.rule) _ (ap (λ n. head_length c.args.rule + n) (ap (route_at_by _ _) l) ∙ f.1);
    }
