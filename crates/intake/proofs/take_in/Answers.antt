-- `take_in` meets its contract. Assumes nothing.
use mathlib.Core.Path.{refl}
use native.Mathlib.Omega.{arith}
use Rattle.intake.proofs.Days.{kept_lines, kept_allowed, reads_on, lines_within, taken_within}
use Rattle.intake.proofs.take_in.Goals as goal

pub overflow_sub-day : goal.overflow_sub-day
overflow_sub-day c = kept_lines _ _ c.args.day c.requires

pub feed_allowed-fed-requires : goal.feed_allowed-fed-requires
feed_allowed-fed-requires c =
    let both = kept_allowed _ _ c.args.day c.requires in
    record { board_value = both.0; begun_value = both.1 }

pub overflow_add-result : goal.overflow_add-result
overflow_add-result c =
    omega (arith, lines_within _ _ c.args.day _ _ _ _ (c.feed_allowed-fed.ensures.value, (c.feed_allowed-fed.ensures.board_after, c.feed_allowed-fed.ensures.held_after)) c.requires)

pub overflow_add-result-2 : goal.overflow_add-result-2
overflow_add-result-2 c =
    omega (arith, taken_within _ _ c.args.day _ _ _ _ (c.feed_allowed-fed.ensures.value, (c.feed_allowed-fed.ensures.board_after, c.feed_allowed-fed.ensures.held_after)) c.requires)

pub returns : goal.returns
returns c =
    (refl, reads_on _ _ c.args.day _ _ _ _ (c.feed_allowed-fed.ensures.value, (c.feed_allowed-fed.ensures.board_after, c.feed_allowed-fed.ensures.held_after)))
