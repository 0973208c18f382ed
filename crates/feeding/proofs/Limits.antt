-- ONE LIMIT for cutter and reader (document 01: 2, "line over 2,048 bytes"): the lines that the cutter calls overlong are those that the reader answers
-- with 2, so that to the board an overlong line is what the reader would have made of it. Assumes nothing.
use Rattle.std.specs.Prelude.{Err}
use mathlib.Core.Logic.{◌↔◌}
use mathlib.Core.Path.{◌≡◌, refl, ap}
use mathlib.Core.Bool.{Bool, true, false}
use mathlib.Core.List.{List}
use Prim.Native.Nat.{ℕ, ◌<◌}
use native.Mathlib.Omega.{arith}
use lib.Dec.{leb}
use lib.ListN.{length}
use borrow.Author.Tests.{leb-true, leb-false}
use Rattle.rules.specs.Frame.{longest_line}
use Rattle.rules.specs.declared.Rule.TheVariants.{New}
use Rattle.cutter.specs.Feed.{Whole, TooLong, line_of}
use Rattle.line.specs.Read.{newly, read_of, line_number}
use Rattle.line.specs.Cases.{Case, Taken, Short, Long, Unprintable, NoSequence, NoStamp, NoFacility, NoType, Spacing, Field, Number, LongPlan}
use Rattle.line.specs.declared.Refusal.TheVariants as refusal
use Rattle.line.proofs.Cases.{answer_case, answer_only}
use Rattle.line.proofs.Ways.{line_long}
use Rattle.planner.specs.Apply.{line_event}
use Rattle.planner.specs.Asked.{asked_of}
use Rattle.feeding.specs.Tally.{event_of}

-- only the case of 2 has that number
two_long : (s : List ℕ) {n p : ℕ} → Case New s n p → n ≡ 2 → 2048 < length s
two_long s (Long h) e = h
two_long s (Taken x r a w) e = absurd (omega arith)
two_long s (Short h) e = absurd (omega arith)
two_long s (Unprintable h k w) e = absurd (omega arith)
two_long s (NoSequence f a) e = absurd (omega arith)
two_long s (NoStamp f a b) e = absurd (omega arith)
two_long s (NoFacility f a b c) e = absurd (omega arith)
two_long s (NoType f d) e = absurd (omega arith)
two_long s (Spacing t k l h d) e = absurd (omega arith)
two_long s (Field t i k l f) e = absurd (omega arith)
two_long s (Number t i k l f) e = absurd (omega arith)
two_long s (LongPlan k h) e = absurd (omega arith)

-- THE CUTTER SAYS "overlong" exactly where the reader says 2
pub overlong_exactly : (s : List ℕ) → (line_of s ≡ TooLong) ↔ (line_number (read_of s) ≡ 2)
unfolding line_of
overlong_exactly s = go (leb (length s) longest_line) refl
  where
    go : (b : Bool) → leb (length s) longest_line ≡ b → (line_of s ≡ TooLong) ↔ (line_number (read_of s) ≡ 2)
    go true q =
        let k = leb-true (length s) longest_line q in
        (λ e. let f : Whole s ≡ TooLong = rw q at e in let z : ◌≡◌ {A = ℕ} 0 1 = cc in absurd (omega arith), λ e. absurd (omega (arith, two_long s (answer_case New s) e)))
    go false q = let k = leb-false (length s) longest_line q in (λ e. (answer_only New s 2 0 (Long k)).0, λ e. rw q)

-- what the reader makes of a line over the limit
reads_long : (s : List ℕ) → longest_line < length s → Err refusal.Long ≡ read_of s
unfolding read_of
reads_long s k = ap newly (line_long New s (omega arith) k)

-- TO THE BOARD every line, overlong or not, is what the reader makes of its bytes
pub line_as_read : (s : List ℕ) → event_of (line_of s) ≡ line_event s
unfolding event_of line_of line_event asked_of
line_as_read s = go (leb (length s) longest_line) refl
  where
    go : (b : Bool) → leb (length s) longest_line ≡ b → event_of (line_of s) ≡ line_event s
    go true q = rw q
    go false q = rw (q, ← (reads_long s (leb-false (length s) longest_line q)))
