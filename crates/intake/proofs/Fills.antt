-- The report in a buffer: written where it has room, and nothing else counts as one. Assumes nothing.
use Rattle.std.specs.Prelude.{Ok, Result}
use mathlib.Core.Path.{◌≡◌, sym, ◌∙◌}
use mathlib.Core.Bool.{true}
use mathlib.Core.List.{List}
use Prim.Native.Nat.{ℕ, ◌+◌, ◌≤◌}
use native.Mathlib.Omega.{arith}
use lib.ListN.{length}
use Rattle.text.specs.Text.{spliced}
use Rattle.text.proofs.Wrote.{next_inside}
use Rattle.printer.specs.Text.{counts_text}
use Rattle.printer.specs.Print.{text_in}
use Rattle.reports.specs.Report.{most_lines, report_of}
use Rattle.reports.specs.Run.{Prints, Counts}
use Rattle.reports.proofs.Theorems.{report_printed}
use Rattle.reports.proofs.Sizes.{report_size}
use Rattle.intake.specs.Day.{ReadTo, longest_report, Fills}
use Rattle.intake.specs.declared.Day.{Day}
use Rattle.printer.specs.declared.NotPrinted.{NotPrinted}
use Rattle.text.specs.declared.NotWritten.{NotWritten}

module _ (board : List ℕ) (d : Day) (out : List ℕ) (big : longest_report ≤ length out) (r : Result ℕ NotPrinted) (out₁ : List ℕ) (p : Prints board out 0 r out₁) where
  room : (feed : List ℕ) → 0 + length (report_of most_lines feed) ≤ length out
  room feed = omega (arith, report_size most_lines feed)

  pub fills_nothing : ((n : ℕ) → r ≡ Ok n → ⊥) → Fills board d out 0 out₁
  fills_nothing h feed held q = absurd (h _ (report_printed most_lines q out 0 (room feed) r out₁ p).0)

  module _ (n : ℕ) (e : r ≡ Ok n) (w : Result ℕ NotWritten) (out₂ : List ℕ) (k : Counts d.lines d.taken out₁ n w out₂) where
    whole : (feed held : List ℕ) → ReadTo feed board held d
        → (w ≡ Ok (0 + length (report_of most_lines feed))) × (out₂ ≡ spliced out 0 (report_of most_lines feed))
    whole feed held q =
        let f = report_printed most_lines q out 0 (room feed) r out₁ p in
        let z : Ok n ≡ Ok (0 + length (text_in board)) = sym e ∙ f.0 in
        let y : n ≡ 0 + length (text_in board) = cc in
        f.1 w out₂ (rw y at k)

    pub fills_none : ((n : ℕ) → w ≡ Ok n → ⊥) → Fills board d out 0 out₂
    fills_none h feed held q = absurd (h _ (whole feed held q).0)

    pub fills_all : (m : ℕ) → w ≡ Ok m → Fills board d out m out₂
    fills_all m g feed held q =
        let f = whole feed held q in
        let z : Ok m ≡ Ok (0 + length (report_of most_lines feed)) = sym g ∙ f.0 in
        let y : m ≡ 0 + length (report_of most_lines feed) = cc in
        (omega arith, f.1)

    pub inside : (m : ℕ) → w ≡ Ok m → m ≤ length out₂
    inside m g = next_inside true (counts_text d.lines d.taken) out₁ n (sym k.0 ∙ g) k.1
