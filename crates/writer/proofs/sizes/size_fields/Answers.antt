-- `writer::sizes::size_fields` meets its contract: its tests are those of a body that a line can have, in another order.
-- Assumes nothing.
use mathlib.Core.Path.{◌≡◌, sym, ◌∙◌}
use mathlib.Core.Bool.{true, ◌||◌, or-true}
use lib.Dec.{eqb}
use lib.ListN.{length}
use borrow.Author.Tests.{eq-eqb, ne_eqb}
use Rattle.text.proofs.Logic.{so, not_so}
use Rattle.table.specs.Table.{is_count}
use Rattle.messages.specs.Body.{type_in, field_count, spare, marks_in}
use Rattle.messages.specs.Allowed.{has_route, all_none}
use Rattle.writer.proofs.LineSizes.{count_of, route_of_lem, Has, has_few, has_length, has_asks, has_sized, not_count, not_free, not_none, not_allowed, not_marks, fields_are}
use Rattle.writer.proofs.sizes.size_fields.Goals as goal
use Rattle.writer.proofs.sizes.size_fields.Goals.{else-not-has_route-via-then-not-has_route+else-free-ne0, else-not-has_route-via-else-not-has_route}

pub returns-then-not-is_count : goal.returns-then-not-is_count
returns-then-not-is_count c =
    let found : c.field_count-n.result ≡ field_count c.args.b = count_of _ c.type_in-kind.ensures c.marks_in-marks.ensures c.field_count-n.ensures in
    let counted : let b = c.args.b in c.is_count.result ≡ is_count (type_in b) (field_count b) = c.is_count.ensures ∙ rw (found, c.type_in-kind.ensures) in
    not_count _ _ _ (not_so counted c.if-not-is_count.true-raw)

pub returns-then-free-ne0 : goal.returns-then-free-ne0
returns-then-free-ne0 c =
    let routed : c.has_route.result ≡ has_route c.args.b = route_of_lem _ c.type_in-kind.ensures c.marks_in-marks.ensures c.has_route.ensures in
    not_free _ _ _ (rw (not_so routed c.if-not-has_route.true-raw, ne_eqb _ _ c.if-free-ne0.true))

pub returns-then-not-is_none_from : goal.returns-then-not-is_none_from
unfolding spare
returns-then-not-is_none_from c =
    let found : c.field_count-n.result ≡ field_count c.args.b = count_of _ c.type_in-kind.ensures c.marks_in-marks.ensures c.field_count-n.ensures in
    let spared : c.is_none_from.result ≡ all_none (spare c.args.b) = c.is_none_from.ensures ∙ rw (c.values_in-values.ensures, found) in
    not_none _ _ _ (not_so spared c.if-not-is_none_from.true-raw)

pub slice_bounds-kinds-end : goal.slice_bounds-kinds-end
slice_bounds-kinds-end c =
    let found : c.field_count-n.result ≡ field_count c.args.b = count_of _ c.type_in-kind.ensures c.marks_in-marks.ensures c.field_count-n.ensures in
    let has : Has c.args.rule c.args.b c.type_in-kind.result c.field_count-n.result c.kinds_of-kinds.result c.values_in-values.result = record { type = c.type_in-kind.ensures; count = found; kinds = c.kinds_of-kinds.ensures; values = c.values_in-values.ensures; right = so c.is_count.ensures c.if-not-is_count.false-raw } in
    has_few has

pub slice_bounds-size_all-end : goal.slice_bounds-size_all-end
slice_bounds-size_all-end c =
    let found : c.field_count-n.result ≡ field_count c.args.b = count_of _ c.type_in-kind.ensures c.marks_in-marks.ensures c.field_count-n.ensures in
    let has : Has c.args.rule c.args.b c.type_in-kind.result c.field_count-n.result c.kinds_of-kinds.result c.values_in-values.result = record { type = c.type_in-kind.ensures; count = found; kinds = c.kinds_of-kinds.ensures; values = c.values_in-values.ensures; right = so c.is_count.ensures c.if-not-is_count.false-raw } in
    sym (has_length has)

pub size_all-requires : goal.size_all-requires
size_all-requires c =
    let found : c.field_count-n.result ≡ field_count c.args.b = count_of _ c.type_in-kind.ensures c.marks_in-marks.ensures c.field_count-n.ensures in
    let has : Has c.args.rule c.args.b c.type_in-kind.result c.field_count-n.result c.kinds_of-kinds.result c.values_in-values.result = record { type = c.type_in-kind.ensures; count = found; kinds = c.kinds_of-kinds.ensures; values = c.values_in-values.ensures; right = so c.is_count.ensures c.if-not-is_count.false-raw } in
    has_asks has _ c.requires

pub returns-in_err-size : goal.returns-in_err-size
returns-in_err-size c =
    let found : c.field_count-n.result ≡ field_count c.args.b = count_of _ c.type_in-kind.ensures c.marks_in-marks.ensures c.field_count-n.ensures in
    let has : Has c.args.rule c.args.b c.type_in-kind.result c.field_count-n.result c.kinds_of-kinds.result c.values_in-values.result = record { type = c.type_in-kind.ensures; count = found; kinds = c.kinds_of-kinds.ensures; values = c.values_in-values.ensures; right = so c.is_count.ensures c.if-not-is_count.false-raw } in
    c.from_residual.ensures ∙ not_allowed _ _ _ (sym (c.in_err-size.ensures ∙ has_sized has _))

pub returns-then-set-marks : goal.returns-then-set-marks
returns-then-set-marks c =
    let found : c.field_count-n.result ≡ field_count c.args.b = count_of _ c.type_in-kind.ensures c.marks_in-marks.ensures c.field_count-n.ensures in
    let has : Has c.args.rule c.args.b c.type_in-kind.result c.field_count-n.result c.kinds_of-kinds.result c.values_in-values.result = record { type = c.type_in-kind.ensures; count = found; kinds = c.kinds_of-kinds.ensures; values = c.values_in-values.ensures; right = so c.is_count.ensures c.if-not-is_count.false-raw } in
    let kept : c.marks_in-marks.result ≡ marks_in c.args.b = c.marks_in-marks.ensures in
    not_marks _ _ _ (sym (c.in_ok-size.ensures ∙ has_sized has _)) (λ e. c.if-set-marks.true (e ∙ sym kept))

pub returns : goal.returns
unfolding spare
returns c =
    let found : c.field_count-n.result ≡ field_count c.args.b = count_of _ c.type_in-kind.ensures c.marks_in-marks.ensures c.field_count-n.ensures in
    let routed : c.has_route.result ≡ has_route c.args.b = route_of_lem _ c.type_in-kind.ensures c.marks_in-marks.ensures c.has_route.ensures in
    let counted : let b = c.args.b in c.is_count.result ≡ is_count (type_in b) (field_count b) = c.is_count.ensures ∙ rw (found, c.type_in-kind.ensures) in
    let free : let a = c.args in (has_route a.b || eqb (length a.free.now) 0) ≡ true = elim c.else-not-has_route.branch [ else-not-has_route-via-then-not-has_route+else-free-ne0 w ↦ rw (eq-eqb _ _ w.if-free-ne0.false, or-true) | else-not-has_route-via-else-not-has_route w ↦ rw (so routed w.if-not-has_route.false-raw) ] in
    let spared : c.is_none_from.result ≡ all_none (spare c.args.b) = c.is_none_from.ensures ∙ rw (c.values_in-values.ensures, found) in
    let has : Has c.args.rule c.args.b c.type_in-kind.result c.field_count-n.result c.kinds_of-kinds.result c.values_in-values.result = record { type = c.type_in-kind.ensures; count = found; kinds = c.kinds_of-kinds.ensures; values = c.values_in-values.ensures; right = so c.is_count.ensures c.if-not-is_count.false-raw } in
    let kept : c.marks_in-marks.result ≡ marks_in c.args.b = c.marks_in-marks.ensures in
    fields_are _ _ _ (sym (c.in_ok-size.ensures ∙ has_sized has _)) (so counted c.if-not-is_count.false-raw) free (so spared c.if-not-is_none_from.false-raw) (c.if-set-marks.false ∙ kept)
