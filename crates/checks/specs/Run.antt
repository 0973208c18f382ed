-- Calls of `check`, one for each part of a feed, from a line's start; and then `end`. Assumes nothing.
use Rattle.std.specs.Prelude.{ℕ, suc, ◌≡◌, List, [], ◌++◌, length, take}
use Rattle.text.specs.Text.{spliced}
use Rattle.rules.specs.Frame.{longest_line}
use Rattle.cutter.specs.State.{state_in}
use Rattle.cutter.specs.Calls.{start}
use Rattle.checks.specs.Part.{Adds, torn_in}
use Rattle.checks.specs.declared.Asked.{Asked}
use Rattle.checks.specs.declared.Sums.{Sums}
use Rattle.checks.specs.declared.Said.{Said}

-- what `check` and `end` promise of a call. `proofs/Theorems` shows that these are the promises in the source.
abbrev pub Checks : Asked → List ℕ → Sums → List ℕ → List ℕ → List ℕ → Said → List ℕ → Type 0
Checks asked held s part out held' r out' = Adds asked held s part out 0 held' r.sums out' r.size

abbrev pub Ends : List ℕ → Sums → List ℕ → ℕ → List ℕ → Type 0
Ends held s out r out' = (r ≡ length (torn_in (suc s.lines) (state_in held s.begun))) × (out' ≡ spliced out 0 (torn_in (suc s.lines) (state_in held s.begun)))

-- nothing has come yet
abbrev pub at_first : Sums
at_first = record { begun = start; lines = 0; read = 0 }

-- the feed, the cutter's buffer, the state and the counts after its parts, and what was said of them, one after the other
pub data Run (asked : Asked) : List ℕ → List ℕ → Sums → List ℕ → Type 0 where
  begin : (held : List ℕ) → length held ≡ longest_line → Run asked [] held at_first []
  go_on : {feed held : List ℕ} {s : Sums} {said : List ℕ} {r : Said} {held' out' : List ℕ} (part out : List ℕ)
      → Run asked feed held s said
      → Checks asked held s part out held' r out'
      → Run asked (feed ++ part) held' r.sums (said ++ take r.size out')
