-- `report` meets its contract. Assumes nothing.
use mathlib.Core.Path.{sym}
use lib.Seq.{length-take-le}
use Rattle.intake.proofs.Whole.{reports, others_stay}
use Rattle.intake.proofs.report.Goals as goal

pub returns : goal.returns
returns c =
    let w = c.read_all-day.ensures in
    let k = c.fill-size.ensures in
    record {
      prefix_len = (k.upper_bound, sym (length-take-le _ _ k.upper_bound));
      reports = reports _ _ c.read_all-day.result w _ _ _ k.fills _ c.is_torn-torn.ensures;
      out_after = others_stay _ _ c.read_all-day.result w _ _ _ k.fills;
    }
