-- `hold` meets its contract. Assumes nothing.
use mathlib.Core.Path.{sym, ◌∙◌}
use Rattle.cutter.proofs.Ways.{mark_more, more_full, more_held}
use Rattle.cutter.proofs.hold.Goals as goal

pub returns-in_default : goal.returns-in_default
returns-in_default c =
    let both = mark_more _ _ _ c.in_default.is in
    record { value = both.0; held_after = both.1 }

pub returns-in-Ok : goal.returns-in-Ok
returns-in-Ok c =
    let both = more_held _ _ _ _ c.in-Held.is _ c.put_bytes-written.ensures.out_after _ (sym c.in-Ok.is ∙ c.put_bytes-written.ensures.value) in
    record { value = both.0; held_after = both.1 }

pub returns-in-Err : goal.returns-in-Err
returns-in-Err c =
    let both = more_full _ _ _ _ c.in-Held.is _ c.put_bytes-written.ensures.out_after (sym c.in-Err.is ∙ c.put_bytes-written.ensures.value) in
    record { value = both.0; held_after = both.1 }
