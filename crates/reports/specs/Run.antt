-- Calls of `feed` or `feed_allowed`, one for each part of a feed, from an empty board and at a line's start, the counts added up; then
-- `print` and `print_counts`. Assumes nothing.
use Rattle.std.specs.Prelude.{ℕ, ◌+◌, ◌-◌, ◌≡◌, true, List, [], ◌++◌, length, replicate, Result}
use Rattle.text.specs.Text.{written_next, written_bytes}
use Rattle.rules.specs.Frame.{longest_line}
use Rattle.cutter.specs.Calls.{start}
use Rattle.cutter.specs.declared.Begun.{Begun}
use Rattle.printer.specs.Text.{counts_text}
use Rattle.printer.specs.Print.{print_of, out_after}
use Rattle.feeding.specs.Fed.{Feeds}
use Rattle.feeding.specs.declared.AfterFeed.{AfterFeed}
use Rattle.printer.specs.declared.NotPrinted.{NotPrinted}
use Rattle.text.specs.declared.NotWritten.{NotWritten}

-- what `print` and `print_counts` promise of a call; `Feeds` is what `feed` and `feed_allowed` promise. `proofs/Theorems` shows that these are the promises in
-- the source.
abbrev pub Prints : List ℕ → List ℕ → ℕ → Result ℕ NotPrinted → List ℕ → Type 0
Prints board out at r out' = (r ≡ print_of board out at) × (out' ≡ out_after board out at)

abbrev pub Counts : ℕ → ℕ → List ℕ → ℕ → Result ℕ NotWritten → List ℕ → Type 0
Counts lines taken out at r out' = (r ≡ written_next true (counts_text lines taken) out at) × (out' ≡ written_bytes true (counts_text lines taken) out at)

-- the board, the buffer and the cutter's state after the parts, and the counts so far; each call may read what the limit still allows
pub data Read (limit : ℕ) : List ℕ → List ℕ → List ℕ → Begun → ℕ → ℕ → Type 0 where
  begin : (n : ℕ) (held : List ℕ) → n ≡ 2817 → length held ≡ longest_line → Read limit [] (replicate n 0) held start 0 0
  go_on : {feed board held : List ℕ} {begun : Begun} {lines taken : ℕ} {r : AfterFeed} {board' held' : List ℕ} (part : List ℕ)
      → Read limit feed board held begun lines taken
      → Feeds board held begun (limit - lines) part r board' held'
      → Read limit (feed ++ part) board' held' r.begun (lines + r.lines) (taken + r.taken)
