-- THE REPORT OF WHAT CAME IN: a feed that was read whole, its report in a buffer, and how it ended. Assumes nothing.
use mathlib.Core.Path.{◌≡◌, sym, ap, ◌∙◌}
use mathlib.Core.Bool.{Bool}
use mathlib.Core.List.{List}
use Prim.Native.Nat.{ℕ}
use lib.ListN.{take}
use Rattle.text.specs.Text.{spliced}
use Rattle.text.proofs.Splice.{take-spliced}
use Rattle.reports.specs.Report.{most_lines, report_of}
use Rattle.intake.specs.Day.{ReadWhole, Fills, is_torn, Reports}
use Rattle.intake.specs.declared.Day.{Day}
use Rattle.intake.proofs.Torn.{torn_rest}

module _ (board held : List ℕ) (d : Day) (w : ReadWhole board held d) (size : ℕ) (out out' : List ℕ) (f : Fills board d out size out') where
  -- the report stands at the start of the buffer
  there : take size out' ≡ report_of most_lines w.0.0
  there = let k = f w.0.0 held w.0.1 in rw k.1 (take-spliced out (report_of most_lines w.0.0) size k.0)

  -- and every other byte is as it was
  pub others_stay : out' ≡ spliced out 0 (take size out')
  others_stay = (f w.0.0 held w.0.1).1 ∙ ap (spliced out 0) (sym there)

  pub reports : (t : Bool) → t ≡ is_torn held d.begun → Reports (record { day = d; size = size; torn = t }) (take size out')
  reports t e = record { feed = w.0.0; handed = w.0.2; whole = w.1; report = there; torn = e ∙ torn_rest w.0.0 board held d w.0.1 }
