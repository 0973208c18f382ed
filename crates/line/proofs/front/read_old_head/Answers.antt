-- `line::front::read_old_head` meets its contract. Assumes nothing.
use mathlib.Core.Path.{refl, sym, ◌∙◌}
use Rattle.rules.specs.Kind.{OLD_STAMP, LETTER}
use Rattle.rules.specs.declared.Rule.TheVariants.{Old}
use Rattle.fields.proofs.WordLaws.{word_known, read_refused}
use Rattle.line.proofs.Handed.{none_err}
use Rattle.line.proofs.Ways.{no_stamp, no_facility, no_type, all_read}
use Rattle.line.proofs.front.read_old_head.Goals as goal

pub returns-in_err-stamp : goal.returns-in_err-stamp
returns-in_err-stamp c =
    none_err _ _ _ _ c.in_err-stamp.ensures.ok_part c.in_err-stamp.ensures.value c.from_residual.ensures.1
    ∙ no_stamp Old _ refl (read_refused OLD_STAMP _ (sym c.read.ensures ∙ c.in_err-stamp.ensures.ok_part))

pub returns-in_err-facility : goal.returns-in_err-facility
returns-in_err-facility c =
    let x = word_known OLD_STAMP _ (sym c.read.ensures ∙ c.in_ok-stamp.ensures.ok_part) in
    none_err _ _ _ _ c.in_err-facility.ensures.ok_part c.in_err-facility.ensures.value c.from_residual-in_err-facility.ensures.1
    ∙ no_facility Old _ refl x.0 (read_refused LETTER _ (sym c.read-2.ensures ∙ c.in_err-facility.ensures.ok_part))

pub returns-in_err-kind : goal.returns-in_err-kind
returns-in_err-kind c =
    let x = word_known OLD_STAMP _ (sym c.read.ensures ∙ c.in_ok-stamp.ensures.ok_part) in
    let y = word_known LETTER _ (sym c.read-2.ensures ∙ c.in_ok-facility.ensures.ok_part) in
    none_err _ _ _ _ c.in_err-kind.ensures.ok_part c.in_err-kind.ensures.value c.from_residual-in_err-kind.ensures.1
    ∙ no_type Old _ refl x.0 y.0 (sym c.kind_of.ensures ∙ c.in_err-kind.ensures.ok_part)

pub returns : goal.returns
returns c =
    let x = word_known OLD_STAMP _ (sym c.read.ensures ∙ c.in_ok-stamp.ensures.ok_part) in
    let y = word_known LETTER _ (sym c.read-2.ensures ∙ c.in_ok-facility.ensures.ok_part) in
    all_read Old _ refl x.0 y.0 refl x.1 y.1 _ (sym c.kind_of.ensures ∙ c.in_ok-kind.ensures.ok_part)
