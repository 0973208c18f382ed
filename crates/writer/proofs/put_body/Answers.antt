-- `writer::put_body` meets its contract: a free text as it is, the fields and their last space. Assumes nothing.
use mathlib.Core.Path.{◌≡◌, sym}
use mathlib.Core.Bool.{false}
use lib.Seq.{length-take-le}
use Rattle.messages.specs.Allowed.{is_whole}
use Rattle.writer.proofs.LineSizes.{whole_of, parted_of, count_of, Has, has_few}
use Rattle.writer.proofs.Puts.{whole_wrote, right_count, all_asks, plain_wrote, space_inside, spaced_wrote}
use Rattle.writer.proofs.put_body.Goals as goal

pub returns-then-not-has_fields : goal.returns-then-not-has_fields
returns-then-not-has_fields c =
    whole_wrote _ _ _ _ _ c.requires (whole_of _ c.type_in-kind.ensures c.has_fields.ensures c.if-not-has_fields.true-raw) c.put_bytes.ensures.out_after

pub slice_bounds-kinds-end : goal.slice_bounds-kinds-end
slice_bounds-kinds-end c =
    let parted : is_whole c.args.b ≡ false = parted_of _ c.type_in-kind.ensures c.has_fields.ensures c.if-not-has_fields.false-raw in
    let has : Has c.args.rule c.args.b c.type_in-kind.result c.field_count-n.result c.kinds_of-kinds.result c.values_in-values.result = let n = count_of _ c.type_in-kind.ensures c.marks_in.ensures c.field_count-n.ensures in record { type = c.type_in-kind.ensures; count = n; kinds = c.kinds_of-kinds.ensures; values = c.values_in-values.ensures; right = rw (c.type_in-kind.ensures, n) (right_count _ _ _ _ _ c.requires parted) } in
    has_few has

pub slice_bounds-put_all-end : goal.slice_bounds-put_all-end
slice_bounds-put_all-end c =
    let parted : is_whole c.args.b ≡ false = parted_of _ c.type_in-kind.ensures c.has_fields.ensures c.if-not-has_fields.false-raw in
    let has : Has c.args.rule c.args.b c.type_in-kind.result c.field_count-n.result c.kinds_of-kinds.result c.values_in-values.result = let n = count_of _ c.type_in-kind.ensures c.marks_in.ensures c.field_count-n.ensures in record { type = c.type_in-kind.ensures; count = n; kinds = c.kinds_of-kinds.ensures; values = c.values_in-values.ensures; right = rw (c.type_in-kind.ensures, n) (right_count _ _ _ _ _ c.requires parted) } in
    sym (length-take-le _ _ (has_few has))

pub put_all-end-requires : goal.put_all-end-requires
put_all-end-requires c =
    let parted : is_whole c.args.b ≡ false = parted_of _ c.type_in-kind.ensures c.has_fields.ensures c.if-not-has_fields.false-raw in
    let has : Has c.args.rule c.args.b c.type_in-kind.result c.field_count-n.result c.kinds_of-kinds.result c.values_in-values.result = let n = count_of _ c.type_in-kind.ensures c.marks_in.ensures c.field_count-n.ensures in record { type = c.type_in-kind.ensures; count = n; kinds = c.kinds_of-kinds.ensures; values = c.values_in-values.ensures; right = rw (c.type_in-kind.ensures, n) (right_count _ _ _ _ _ c.requires parted) } in
    all_asks _ _ _ _ _ c.requires parted has

pub bounds-out-end : goal.bounds-out-end
bounds-out-end c =
    let parted : is_whole c.args.b ≡ false = parted_of _ c.type_in-kind.ensures c.has_fields.ensures c.if-not-has_fields.false-raw in
    let has : Has c.args.rule c.args.b c.type_in-kind.result c.field_count-n.result c.kinds_of-kinds.result c.values_in-values.result = let n = count_of _ c.type_in-kind.ensures c.marks_in.ensures c.field_count-n.ensures in record { type = c.type_in-kind.ensures; count = n; kinds = c.kinds_of-kinds.ensures; values = c.values_in-values.ensures; right = rw (c.type_in-kind.ensures, n) (right_count _ _ _ _ _ c.requires parted) } in
    space_inside _ _ _ _ _ c.requires parted has c.if-trailing.true c.put_all-end.ensures.value c.put_all-end.ensures.out_after

pub returns-then-trailing : goal.returns-then-trailing
returns-then-trailing c =
    let parted : is_whole c.args.b ≡ false = parted_of _ c.type_in-kind.ensures c.has_fields.ensures c.if-not-has_fields.false-raw in
    let has : Has c.args.rule c.args.b c.type_in-kind.result c.field_count-n.result c.kinds_of-kinds.result c.values_in-values.result = let n = count_of _ c.type_in-kind.ensures c.marks_in.ensures c.field_count-n.ensures in record { type = c.type_in-kind.ensures; count = n; kinds = c.kinds_of-kinds.ensures; values = c.values_in-values.ensures; right = rw (c.type_in-kind.ensures, n) (right_count _ _ _ _ _ c.requires parted) } in
    spaced_wrote _ _ _ _ _ c.requires parted has c.if-trailing.true c.put_all-end.ensures.value c.put_all-end.ensures.out_after

pub returns-else-trailing : goal.returns-else-trailing
returns-else-trailing c =
    let parted : is_whole c.args.b ≡ false = parted_of _ c.type_in-kind.ensures c.has_fields.ensures c.if-not-has_fields.false-raw in
    let has : Has c.args.rule c.args.b c.type_in-kind.result c.field_count-n.result c.kinds_of-kinds.result c.values_in-values.result = let n = count_of _ c.type_in-kind.ensures c.marks_in.ensures c.field_count-n.ensures in record { type = c.type_in-kind.ensures; count = n; kinds = c.kinds_of-kinds.ensures; values = c.values_in-values.ensures; right = rw (c.type_in-kind.ensures, n) (right_count _ _ _ _ _ c.requires parted) } in
    plain_wrote _ _ _ _ _ c.requires parted has c.if-trailing.false c.put_all-end.ensures.out_after
