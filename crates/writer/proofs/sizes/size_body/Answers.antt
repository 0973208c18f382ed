-- `writer::sizes::size_body` meets its contract. Assumes nothing.
use mathlib.Core.Path.{◌≡◌, sym, ◌∙◌}
use mathlib.Core.Bool.{true, false}
use native.Mathlib.Omega.{arith}
use Rattle.text.proofs.Logic.{so, not_so}
use Rattle.messages.specs.Allowed.{is_whole}
use Rattle.writer.proofs.LineSizes.{whole_of, parted_of, whole_trailing, whole_unprintable, whole_is, unfielded, spaced_is, plain_is, fields_known, fields_short}
use Rattle.writer.proofs.sizes.size_body.Goals as goal

pub returns-then-trailing : goal.returns-then-trailing
returns-then-trailing c =
    let whole : is_whole c.args.b ≡ true = whole_of _ c.type_in.ensures c.has_fields.ensures c.if-not-has_fields.true-raw in
    whole_trailing _ _ _ _ whole c.if-trailing.true

pub returns-then-not-each_within : goal.returns-then-not-each_within
returns-then-not-each_within c =
    let whole : is_whole c.args.b ≡ true = whole_of _ c.type_in.ensures c.has_fields.ensures c.if-not-has_fields.true-raw in
    whole_unprintable _ _ _ _ whole (not_so c.each_within.ensures c.if-not-each_within.true-raw)

pub returns-then-not-has_fields : goal.returns-then-not-has_fields
returns-then-not-has_fields c =
    let whole : is_whole c.args.b ≡ true = whole_of _ c.type_in.ensures c.has_fields.ensures c.if-not-has_fields.true-raw in
    whole_is _ _ _ _ whole c.if-trailing.false (so c.each_within.ensures c.if-not-each_within.false-raw)

pub returns-in_err-n : goal.returns-in_err-n
returns-in_err-n c =
    let parted : is_whole c.args.b ≡ false = parted_of _ c.type_in.ensures c.has_fields.ensures c.if-not-has_fields.false-raw in
    c.from_residual.ensures ∙ unfielded _ _ _ _ parted (sym c.in_err-n.ensures)

pub overflow_add-result : goal.overflow_add-result
overflow_add-result c =
    let k = fields_known _ _ _ (sym c.in_ok-n.ensures) in
    omega (arith, k.1, fields_short _ _ _ k.0 c.requires)

pub returns-then-trailing-2 : goal.returns-then-trailing-2
returns-then-trailing-2 c =
    let parted : is_whole c.args.b ≡ false = parted_of _ c.type_in.ensures c.has_fields.ensures c.if-not-has_fields.false-raw in
    spaced_is _ _ _ _ parted (sym c.in_ok-n.ensures) c.if-trailing-2.true

pub returns : goal.returns
returns c =
    let parted : is_whole c.args.b ≡ false = parted_of _ c.type_in.ensures c.has_fields.ensures c.if-not-has_fields.false-raw in
    plain_is _ _ _ _ parted (sym c.in_ok-n.ensures) c.if-trailing-2.false
