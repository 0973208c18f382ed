-- `enter` meets its contract. Assumes nothing.
use Rattle.std.specs.Prelude.{Ok}
use mathlib.Core.Path.{ap}
use Rattle.planner.proofs.Ways.{dz_needs, az_needs, tz_needs, entered_as, other_entered}
use Rattle.planner.proofs.enter.Goals as goal

pub put_dz-requires : goal.put_dz-requires
put_dz-requires c =
    let both = dz_needs _ c.requires.asked_value _ _ c.in-Dz.is in
    record { board_value = c.requires.board_value; key_value = both.0; value = both.1 }

pub put_az-requires : goal.put_az-requires
put_az-requires c =
    let both = az_needs _ c.requires.asked_value _ _ c.in-Az.is in
    record { board_value = c.requires.board_value; key_value = both.0; value = both.1 }

pub put_tz-requires : goal.put_tz-requires
put_tz-requires c =
    let both = tz_needs _ c.requires.asked_value _ _ c.in-Tz.is in
    record { board_value = c.requires.board_value; key_value = both.0; value = both.1 }

pub returns-in-Dz : goal.returns-in-Dz
returns-in-Dz c = entered_as _ _ _ _ _ (ap Ok c.in-Dz.is) c.put_dz.ensures

pub returns-in-Az : goal.returns-in-Az
returns-in-Az c = entered_as _ _ _ _ _ (ap Ok c.in-Az.is) c.put_az.ensures

pub returns-in-Tz : goal.returns-in-Tz
returns-in-Tz c = entered_as _ _ _ _ _ (ap Ok c.in-Tz.is) c.put_tz.ensures

pub returns-in-Other : goal.returns-in-Other
returns-in-Other c = entered_as _ _ _ _ _ (ap Ok c.in-Other.is) (other_entered _ c.requires.board_value)
