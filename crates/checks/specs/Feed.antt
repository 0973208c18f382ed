-- WHAT IS SAID OF A FEED: a line for each of its lines, one after the other, numbered from 1; and then, if it ends inside a line, one for that rest.
-- Assumes nothing.
use Rattle.std.specs.Prelude.{ℕ, suc, ◌≡◌, true, cond, List, [], ◌∷◌, ◌++◌, length}
use Rattle.shapes.specs.Pieces.{pieces}
use Rattle.rules.specs.Frame.{line_feed}
use Rattle.rules.specs.declared.Rule.{Rule}
use Rattle.cutter.specs.Feed.{Line, lines_of, rest_of}
use Rattle.cutter.specs.State.{Bytes, state_in, is_allowed}
use Rattle.cutter.specs.Told.{state_after}
use Rattle.checks.specs.Check.{is_taken, said_of, torn_of}
use Rattle.checks.specs.declared.Asked.{Asked}
use Rattle.checks.specs.declared.Sums.{Sums}

-- the lines from number n on
unfoldable pub checks_from : Asked → ℕ → List Line → List ℕ
checks_from asked n [] = []
checks_from asked n (l ∷ ls) = said_of asked n l ++ checks_from asked (suc n) ls

unfoldable pub checks_of : Asked → List ℕ → List ℕ
checks_of asked feed = checks_from asked 1 (lines_of feed)

-- and the unended rest, with the number after the last line's
unfoldable pub checked_of : Asked → List ℕ → List ℕ
checked_of asked feed = checks_of asked feed ++ torn_of (suc (length (lines_of feed))) (rest_of feed)

-- how many of the lines read under the rule
unfoldable pub reads_in : Rule → List Line → ℕ
reads_in ρ [] = 0
reads_in ρ (l ∷ ls) = cond (is_taken ρ l) (suc (reads_in ρ ls)) (reads_in ρ ls)

-- THE BYTES OF FEED HAVE COME: the cutter's state is the one that they lead to, their lines and those of them that read are counted, and this was said
pub record Checked (asked : Asked) (feed held : List ℕ) (s : Sums) (said : List ℕ) : Type 0 where
  pub allowed : is_allowed held s.begun ≡ true
  pub state : state_in held s.begun ≡ state_after (Bytes []) (pieces line_feed feed)
  pub lines : s.lines ≡ length (lines_of feed)
  pub read : s.read ≡ reads_in asked.rule (lines_of feed)
  pub text : said ≡ checks_of asked feed
