-- "It stops reading after 4,294,967,295 lines": that many are the most that `print_counts` can print, a feed with no more of them is reported whole,
-- and of any other the report is on its first so many lines. Assumes nothing.
use mathlib.Core.Logic.{◌↔◌}
use mathlib.Core.Path.{◌≡◌, refl, sym, ap, ◌∙◌}
use mathlib.Core.Bool.{Bool, true, false}
use mathlib.Core.List.{List, [], map}
use Prim.Native.Nat.{ℕ, ◌+◌, ◌≤◌, ◌^◌}
use native.Mathlib.Omega.{arith}
use lib.Dec.{ltb}
use lib.ListN.{length, length-map}
use mir.Syntax.{w32}
use mir.Val.{Fits}
use borrow.Author.Tests.{ltb-true, ltb-false}
use Rattle.shapes.specs.Cut.{up_to, has}
use Rattle.shapes.specs.Pieces.{none_has}
use Rattle.rules.specs.Frame.{line_feed}
use Rattle.cutter.specs.Feed.{feed_of, texts_of, rest_of, line_of, lines_of}
use Rattle.cutter.proofs.Feeds.{feed_text, feed_none, feed_only}
use Rattle.feeding.specs.Tally.{line_feeds}
use Rattle.feeding.specs.Fed.{read_in}
use Rattle.feeding.proofs.Cases.{read_all, read_those}
use Rattle.reports.specs.Report.{most_lines, lines_in, report_on, report_of}
use Rattle.reports.proofs.Joins.{feeds_are}

-- THE LIMIT IS THE GREATEST COUNT: the parameters of `print_counts` are of 32 bits
pub most_is : most_lines + 1 ≡ 2 ^ 32
most_is = refl

pub most_fits : (n : ℕ) → Fits w32 n ↔ (n ≤ most_lines)
most_fits n = (λ f. omega (arith, f.fits), λ h. record { fits = omega arith })

texts_are : (s : List ℕ) → length (texts_of s) ≡ lines_in s
unfolding lines_of
texts_are s = sym (length-map (texts_of s) line_of) ∙ feeds_are s

-- no more lines than may be read: the lines of what is read are those of the whole, and bytes after the last of them are no line
lines_kept : (n : ℕ) (s : List ℕ) → line_feeds s ≤ n → lines_of (read_in n s) ≡ lines_of s
unfolding lines_of has up_to
lines_kept n s h = go (ltb (line_feeds s) n) refl
  where
    go : (b : Bool) → ltb (line_feeds s) n ≡ b → lines_of (read_in n s) ≡ lines_of s
    go true q = rw (read_all n s (ltb-true (line_feeds s) n q))
    go false q =
        let k = ltb-false (line_feeds s) n q in
        let f = feed_none s in
        let r = read_those n s (texts_of s) (rest_of s) f.0 (omega (arith, texts_are s)) (sym (feed_text s)) in
        rw r (ap (map line_of) (feed_only (texts_of s) [] f.0 refl).0)

-- A FEED OF NO MORE LINES IS REPORTED WHOLE
pub report_whole : (limit : ℕ) (feed : List ℕ) → lines_in feed ≤ limit → report_of limit feed ≡ report_on feed
unfolding report_of
report_whole limit feed h =
    let k = lines_kept limit feed h in
    let n : lines_in (read_in limit feed) ≡ lines_in feed = sym (feeds_are (read_in limit feed)) ∙ ap length k ∙ feeds_are feed in
    rw (k, n)

-- OF ANY OTHER the report is on its first lines, so many as may be read
pub report_stops : (limit : ℕ) (ls : List (List ℕ)) (rest : List ℕ) → none_has line_feed ls ≡ true → length ls ≡ limit → report_of limit (feed_of ls rest) ≡ report_on (feed_of ls [])
unfolding report_of
report_stops limit ls rest e c = rw (read_those limit (feed_of ls rest) ls rest e c refl)

-- of the printer's own limit
pub report_of_limit : (feed : List ℕ) → lines_in feed ≤ most_lines → report_of most_lines feed ≡ report_on feed
report_of_limit feed h = report_whole most_lines feed h
