-- `close` meets its contract. Assumes nothing.
use mathlib.Core.Path.{sym, ◌∙◌}
use Rattle.cutter.proofs.Ways.{close_long, close_within, close_full, close_held}
use Rattle.cutter.proofs.close.Goals as goal

pub returns-then-bytes-held : goal.returns-then-bytes-held
returns-then-bytes-held c =
    let both = close_long _ _ _ (sym c.at_start.ensures ∙ c.if-at_start.true) c.if-bytes-held.true in
    record { value = both.0; held_after = both.1 }

pub returns-then-at_start : goal.returns-then-at_start
returns-then-at_start c =
    let both = close_within _ _ _ (sym c.at_start.ensures ∙ c.if-at_start.true) c.if-bytes-held.false in
    record { value = both.0; held_after = both.1 }

pub returns-in-Held : goal.returns-in-Held
returns-in-Held c =
    let both = close_held _ _ _ (sym c.at_start.ensures ∙ c.if-at_start.false) _ c.hold-whole.ensures.value _ c.hold-whole.ensures.held_after _ c.in-Held.is in
    record { value = both.0; held_after = both.1 }

pub returns-in-Overlong : goal.returns-in-Overlong
returns-in-Overlong c =
    let both = close_full _ _ _ (sym c.at_start.ensures ∙ c.if-at_start.false) _ c.hold-whole.ensures.value _ c.hold-whole.ensures.held_after c.in-Overlong.is in
    record { value = both.0; held_after = both.1 }
