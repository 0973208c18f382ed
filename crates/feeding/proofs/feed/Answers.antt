-- `feed` meets its contract. Assumes nothing.
use Rattle.text.proofs.Logic.{so, not_so}
use Rattle.feeding.proofs.Cases.{in_feed_case}
use Rattle.feeding.proofs.Ways.{no_board, no_state}
use Rattle.feeding.proofs.feed.Goals as goal

pub returns-then-not-is_allowed : goal.returns-then-not-is_allowed
returns-then-not-is_allowed c =
    let both = in_feed_case _ _ _ _ _ (no_board _ _ _ _ _ _ c.refused.ensures (not_so c.is_allowed.ensures c.if-not-is_allowed.true-raw)) in
    record { value = both.0; board_after = both.1.0; held_after = both.1.1.0; feed_case = both.1.1.1 }

pub returns-then-not-is_allowed-2 : goal.returns-then-not-is_allowed-2
returns-then-not-is_allowed-2 c =
    let both = in_feed_case _ _ _ _ _ (no_state _ _ _ _ _ _ c.refused-then-not-is_allowed-2.ensures (so c.is_allowed.ensures c.if-not-is_allowed.false-raw) (not_so c.is_allowed-2.ensures c.if-not-is_allowed-2.true-raw)) in
    record { value = both.0; board_after = both.1.0; held_after = both.1.1.0; feed_case = both.1.1.1 }

pub feed_allowed-requires : goal.feed_allowed-requires
feed_allowed-requires c =
    record {
      board_value = so c.is_allowed.ensures c.if-not-is_allowed.false-raw;
      begun_value = so c.is_allowed-2.ensures c.if-not-is_allowed-2.false-raw;
    }

pub returns : goal.returns
returns c =
    let both = in_feed_case _ _ _ _ _ (c.feed_allowed.ensures.value, (c.feed_allowed.ensures.board_after, c.feed_allowed.ensures.held_after)) in
    record { value = both.0; board_after = both.1.0; held_after = both.1.1.0; feed_case = both.1.1.1 }
