-- `printer::slips::put_line` meets its contract: what is left, written from the place that is reached, makes what the whole line makes.
-- Assumes nothing.
use mathlib.Core.Path.{◌≡◌}
use mathlib.Core.List.{List}
use Prim.Native.Nat.{ℕ, ◌+◌, ◌≤◌}
use lib.ListN.{length, drop}
use Rattle.text.specs.Text.{spliced}
use Rattle.printer.specs.Parts.{slip_text, SlipWords}
use Rattle.printer.proofs.slips.put_line.Given as goal

pub record Inv (ws out₀ out : List ℕ) (at k : ℕ) : Type 0 where
  pub eight : SlipWords ws
  pub few : k ≤ 7
  pub room : length (slip_text ws) ≤ length out₀
  pub same : length out ≡ length out₀
  pub size : at + length (slip_text (drop k ws)) ≡ length (slip_text ws)
  pub text : spliced out at (slip_text (drop k ws)) ≡ spliced out₀ 0 (slip_text ws)

abbrev pub invariant-loop-word : goal.invariant-loop-word
invariant-loop-word l = Inv l.words l.initial.out l.out l.at l.word-index
