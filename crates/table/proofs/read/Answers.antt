-- `table::read` meets its contract. Assumes nothing.
use Rattle.std.specs.Prelude.{Some}
use mathlib.Core.Path.{◌≡◌, sym, ◌∙◌}
use mathlib.Core.Bool.{true}
use lib.Seq.{length-take-le}
use Rattle.text.proofs.Logic.{so, not_so}
use Rattle.table.specs.Spacing.{count_of}
use Rattle.table.proofs.WalkWays.{through}
use Rattle.table.specs.Table.{is_count}
use Rattle.table.proofs.TableWays.{by_wrong, by_not, by_ready, by_count, count_dotted}
use Rattle.table.proofs.read.Goals as goal

pub returns-in_default : goal.returns-in_default
returns-in_default c =
    let both = through (c.refused.ensures.answer_value, c.refused.ensures.values_value) (by_wrong _ _ _ (sym c.count.ensures ∙ c.in_default.is)) in
    record { answer_value = both.0; values_value = both.1 }

pub returns-then-not-is_count : goal.returns-then-not-is_count
returns-then-not-is_count c =
    let told : count_of c.args.body.now ≡ Some (c.in-Some.n, c.in-Some.trailing) = sym c.count.ensures ∙ c.in-Some.is in
    let both = through (c.refused-then-not-is_count.ensures.answer_value, c.refused-then-not-is_count.ensures.values_value) (by_not _ _ _ told (not_so c.is_count.ensures c.if-not-is_count.true-raw)) in
    record { answer_value = both.0; values_value = both.1 }

pub slice_bounds-kinds-end : goal.slice_bounds-kinds-end
slice_bounds-kinds-end c =
    let right : is_count c.args.t c.in-Some.n ≡ true = so c.is_count.ensures c.if-not-is_count.false-raw in
    rw c.kinds_of-kinds.ensures (count_dotted _ _ _ right)

pub slice_bounds-read-end : goal.slice_bounds-read-end
slice_bounds-read-end c =
    let right : is_count c.args.t c.in-Some.n ≡ true = so c.is_count.ensures c.if-not-is_count.false-raw in
    sym (length-take-le _ _ (rw c.kinds_of-kinds.ensures (count_dotted _ _ _ right)))

pub read-requires : goal.read-requires
read-requires c =
    let told : count_of c.args.body.now ≡ Some (c.in-Some.n, c.in-Some.trailing) = sym c.count.ensures ∙ c.in-Some.is in
    let right : is_count c.args.t c.in-Some.n ≡ true = so c.is_count.ensures c.if-not-is_count.false-raw in
    rw c.kinds_of-kinds.ensures (by_ready _ _ _ told right)

pub returns : goal.returns
returns c =
    let told : count_of c.args.body.now ≡ Some (c.in-Some.n, c.in-Some.trailing) = sym c.count.ensures ∙ c.in-Some.is in
    let right : is_count c.args.t c.in-Some.n ≡ true = so c.is_count.ensures c.if-not-is_count.false-raw in
    let both = through (c.read.ensures.answer_value, c.read.ensures.values_value) (rw c.kinds_of-kinds.ensures (by_count _ _ _ told right)) in
    record { answer_value = both.0; values_value = both.1 }
