-- A feed in parts cut anywhere: what the parts add, one after the other, is what is said of the whole; and its end. Assumes nothing.
use mathlib.Core.Path.{◌≡◌, refl, sym, ap, ◌∙◌}
use mathlib.Core.List.{List, [], ◌++◌}
use Prim.Native.Nat.{ℕ, suc, ◌+◌}
use native.Mathlib.Omega.{arith}
use lib.ListN.{length, take, length-append}
use Rattle.text.proofs.Splice.{take-spliced}
use Rattle.shapes.specs.Pieces.{pieces}
use Rattle.rules.specs.Frame.{longest_line}
use Rattle.cutter.specs.Feed.{lines_of}
use Rattle.cutter.specs.State.{Bytes, state_in, more}
use Rattle.cutter.specs.Told.{told, state_after}
use Rattle.cutter.proofs.States.{start_allowed}
use Rattle.cutter.proofs.Feeds.{start_lines, feed_then}
use Rattle.checks.specs.Feed.{checks_from, checks_of, reads_in, Checked}
use Rattle.checks.specs.Part.{lines_in, text_in, Adds, Continues}
use Rattle.checks.specs.Run.{at_first}
use Rattle.checks.specs.declared.Asked.{Asked}
use Rattle.checks.specs.declared.Sums.{Sums}
use Rattle.checks.proofs.Joins.{reads_then, checks_then}

-- ---- the start

no_lines : lines_of [] ≡ []
unfolding told pieces
no_lines = sym (start_lines [])

pub first_checked : (asked : Asked) (held : List ℕ) → length held ≡ longest_line → Checked asked [] held at_first []
unfolding state_in state_after pieces more reads_in checks_from checks_of
first_checked asked held e = record { allowed = start_allowed held e; state = refl; lines = rw no_lines; read = rw no_lines; text = rw no_lines }

-- ---- a part more

module _ {asked : Asked} {held : List ℕ} {s : Sums} {part out held' : List ℕ} {s' : Sums} {out' : List ℕ} {size : ℕ} (x : Adds asked held s part out 0 held' s' out' size) where
  pub the_text : take size out' ≡ text_in asked held s part
  the_text = rw x.bytes (take-spliced out (text_in asked held s part) size (omega (arith, x.place)))

  pub continues : Continues asked held s part held' s' (take size out')
  unfolding checks_of
  continues feed said c =
      let f = feed_then (Bytes []) feed part in
      let l : lines_of (feed ++ part) ≡ lines_of feed ++ lines_in held s part = sym (start_lines (feed ++ part)) ∙ f.0 ∙ rw (start_lines feed, c.state) in
      let z : 1 + length (lines_of feed) ≡ suc s.lines = omega (arith, c.lines) in
      record {
        allowed = x.allowed;
        state = x.state ∙ rw c.state (sym f.1);
        lines = omega (arith, x.lines, c.lines, ap length l, length-append (lines_of feed) (lines_in held s part));
        read = omega (arith, x.read, c.read, ap (reads_in asked.rule) l, reads_then asked.rule (lines_of feed) (lines_in held s part));
        text = rw (l, checks_then asked 1 (lines_of feed) (lines_in held s part), z, c.text, the_text);
      }
