-- `line::front::read_new_head` meets its contract. Assumes nothing.
use mathlib.Core.Path.{sym, ◌∙◌}
use Rattle.rules.specs.declared.Rule.TheVariants.{New}
use Rattle.line.proofs.Handed.{none_err}
use Rattle.line.proofs.Ways.{sequence_is, sequence_none, stamp_is, stamp_none, facility_is, facility_none, no_sequence, no_stamp, no_facility, no_type, all_read}
use Rattle.line.proofs.front.read_new_head.Goals as goal

pub returns-in_err-sequence : goal.returns-in_err-sequence
returns-in_err-sequence c =
    none_err _ _ _ _ c.in_err-sequence.ensures.ok_part c.in_err-sequence.ensures.value c.from_residual.ensures.1
    ∙ no_sequence New _ (sequence_none _ (sym c.read.ensures ∙ c.in_err-sequence.ensures.ok_part))

pub returns-in_err-stamp : goal.returns-in_err-stamp
returns-in_err-stamp c =
    let x = sequence_is _ _ (sym c.read.ensures ∙ c.in_ok-sequence.ensures.ok_part) in
    none_err _ _ _ _ c.in_err-stamp.ensures.ok_part c.in_err-stamp.ensures.value c.from_residual-in_err-stamp.ensures.1
    ∙ no_stamp New _ x.0 (stamp_none _ (sym c.read-2.ensures ∙ c.in_err-stamp.ensures.ok_part))

pub returns-in_err-facility : goal.returns-in_err-facility
returns-in_err-facility c =
    let x = sequence_is _ _ (sym c.read.ensures ∙ c.in_ok-sequence.ensures.ok_part) in
    let y = stamp_is _ _ (sym c.read-2.ensures ∙ c.in_ok-stamp.ensures.ok_part) in
    none_err _ _ _ _ c.in_err-facility.ensures.ok_part c.in_err-facility.ensures.value c.from_residual-in_err-facility.ensures.1
    ∙ no_facility New _ x.0 y.0 (facility_none _ (sym c.read-3.ensures ∙ c.in_err-facility.ensures.ok_part))

pub returns-in_err-kind : goal.returns-in_err-kind
returns-in_err-kind c =
    let x = sequence_is _ _ (sym c.read.ensures ∙ c.in_ok-sequence.ensures.ok_part) in
    let y = stamp_is _ _ (sym c.read-2.ensures ∙ c.in_ok-stamp.ensures.ok_part) in
    let z = facility_is _ _ (sym c.read-3.ensures ∙ c.in_ok-facility.ensures.ok_part) in
    none_err _ _ _ _ c.in_err-kind.ensures.ok_part c.in_err-kind.ensures.value c.from_residual-in_err-kind.ensures.1
    ∙ no_type New _ x.0 y.0 z.0 (sym c.kind_of.ensures ∙ c.in_err-kind.ensures.ok_part)

pub returns : goal.returns
returns c =
    let x = sequence_is _ _ (sym c.read.ensures ∙ c.in_ok-sequence.ensures.ok_part) in
    let y = stamp_is _ _ (sym c.read-2.ensures ∙ c.in_ok-stamp.ensures.ok_part) in
    let z = facility_is _ _ (sym c.read-3.ensures ∙ c.in_ok-facility.ensures.ok_part) in
    all_read New _ x.0 y.0 z.0 x.1 y.1 z.1 _ (sym c.kind_of.ensures ∙ c.in_ok-kind.ensures.ok_part)
