-- `line` meets its contract. Assumes nothing.
use mathlib.Core.Path.{sym}
use native.Mathlib.Omega.{arith}
use Rattle.dayfile.specs.DayFile.{version1}
use Rattle.dayfile.specs.Opening.{lines_in}
use Rattle.dayfile.proofs.Numbered.{AtFront, IsOpen, not_opened, number_0, past_last}
use Rattle.dayfile.proofs.line.Goals as goal
use Rattle.dayfile.proofs.line.Goals.{in_default-via-in-Ok+then-number-gt0+else-number-day, in_default-via-in-Ok+else-number-gt0, in_default-via-in_default}

pub returns-in_default : goal.returns-in_default
returns-in_default c =
    let both : AtFront c.args.file.ref_ptr (lines_in version1 c.args.file.now) c.args.number =
    elim c.in_default.branch [
      | in_default-via-in-Ok+then-number-gt0+else-number-day w ↦
          let is_open : IsOpen version1 c.args.file.now w.in-Ok.day = record { told = sym w.in-Ok.ensures } in
          past_last is_open _ w.if-number-day.false
      | in_default-via-in-Ok+else-number-gt0 w ↦ number_0 _ _ (omega (arith, w.if-number-gt0.false))
      | in_default-via-in_default w ↦ not_opened _ _ _ w.in_default.ensures
    ] in
    record { result_value = both.0; ref_ptr_value = both.1 }
