-- THE THEOREMS OF THE CUTTER, about the promises (`Post`) of `cut`, `line` and `end` as they stand in the source: a call is in the document's
-- case; a refused one changes nothing; an allowed state stays allowed; the lines are those of the whole feed, whatever the parts.
-- Assumes nothing.
use mathlib.Core.Path.{◌≡◌, sym, ap, ◌∙◌}
use mathlib.Core.Bool.{true}
use mathlib.Core.List.{List}
use Prim.Native.Nat.{ℕ, ◌≤◌, ◌<◌}
use lib.ListN.{length}
use Rattle.rules.specs.Frame.{longest_line}
use Rattle.cutter.specs.Feed.{rest_of, Line, lines_of}
use Rattle.cutter.specs.State.{state_in, is_allowed}
use Rattle.cutter.specs.Calls.{start, cut_number, end_number}
use Rattle.cutter.specs.Cases.{CutIs, EndIs}
use Rattle.cutter.specs.Run.{concat, at_end, Cuts, Hands, Ends, Fed}
use Rattle.cutter.specs.declared.Begun.{Begun}
use Rattle.cutter.specs.declared.AfterEnd.{AfterEnd}
use Rattle.cutter.proofs.cut.Reads as cut
use Rattle.cutter.proofs.line.Reads as line
use Rattle.cutter.proofs.end.Reads as end
use Rattle.cutter.proofs.States.{start_allowed}
use Rattle.cutter.proofs.Cases.{end_case, cut_back, end_back, cut_nothing}
use Rattle.cutter.proofs.Feeds.{start_lines, start_rest}
use Rattle.cutter.proofs.Runs.{cut_still, end_still, run, at_end_lem, cut_used, Runs, runs}

-- ---- the runs of `specs/Run` are made of these promises

pub cut_promise : (κs : _) (a : _) (r : _) (s : _) → cut.Post κs a r s → Cuts a.0.now a.1.0 a.1.1.0.now r s.0.now
cut_promise κs a r s p = (p.0, p.1.0)

pub line_promise : (κs : _) (a : _) (r : _) (s : _) → line.Post κs a r s → Hands a.0 a.1.0.now a.1.1.0.now r.now
line_promise κs a r s p = p

pub end_promise : (κs : _) (a : _) (r : _) (s : _) → end.Post κs a r s → Ends a.0.now a.1.0 r
end_promise κs a r s p = p.0

-- ---- EACH CALL IS IN ITS CASE, with the number, the bytes used, the line and the state that document 01 says

pub cut_in_case : (κs : _) (a : _) (r : _) (s : _) → cut.Post κs a r s → CutIs a.0.now a.1.0 a.1.1.0.now r s.0.now
cut_in_case κs a r s p = p.1.1

pub end_in_case : (κs : _) (a : _) (r : _) (s : _) → end.Post κs a r s → EndIs a.0.now a.1.0 r
end_in_case κs a r s p = p.1

-- ---- AN ALLOWED STATE STAYS ALLOWED

pub cut_leaves_allowed : (κs : _) (a : _) (r : _) (s : _) → cut.Post κs a r s → is_allowed a.0.now a.1.0 ≡ true → is_allowed s.0.now r.begun ≡ true
cut_leaves_allowed κs a r s p h = rw (p.0, p.1.0) (cut_still a.0.now a.1.0 a.1.1.0.now h)

pub end_leaves_allowed : (κs : _) (a : _) (r : _) (s : _) → end.Post κs a r s → is_allowed a.0.now a.1.0 ≡ true → is_allowed a.0.now r.begun ≡ true
end_leaves_allowed κs a r s p h = rw p.0 (end_still a.0.now a.1.0 h)

-- ---- A REFUSED CALL HANDS THE STATE BACK EQUAL, and uses no byte; nothing is written in the buffer but at 0

pub cut_refused : (κs : _) (a : _) (r : _) (s : _) → cut.Post κs a r s → cut_number r.answer ≡ 13 → (r.begun ≡ a.1.0) × (r.used ≡ 0)
cut_refused κs a r s p h = rw p.0 (cut_back a.0.now a.1.0 a.1.1.0.now (rw (← p.0) h))

pub cut_writes : (κs : _) (a : _) (r : _) (s : _) → cut.Post κs a r s → (cut_number r.answer ≡ 0 → ⊥) → s.0.now ≡ a.0.now
cut_writes κs a r s p h = p.1.0 ∙ cut_nothing a.0.now a.1.0 a.1.1.0.now (rw (← p.0) h)

pub end_refused : (κs : _) (a : _) (r : _) (s : _) → end.Post κs a r s → end_number r.answer ≡ 13 → r.begun ≡ a.1.0
end_refused κs a r s p h = rw p.0 (end_back a.0.now a.1.0 (rw (← p.0) h))

-- ---- A CALL GOES ON: it uses a byte of a part that has one, and none that it has not

pub cut_goes_on : (κs : _) (a : _) (r : _) (s : _) → cut.Post κs a r s → is_allowed a.0.now a.1.0 ≡ true → 0 < length a.1.1.0.now
    → (0 < r.used) × (r.used ≤ length a.1.1.0.now)
cut_goes_on κs a r s p h k = rw p.0 (cut_used a.0.now a.1.0 a.1.1.0.now h k)

-- ---- THE LINES ARE THOSE OF THE WHOLE

-- whatever the parts, and whatever stood in the buffer: calling `cut` until each part is used tells the lines of the whole, in order,
-- and `end` then answers by the unended rest
pub whatever_the_parts : (parts : List (List ℕ)) (ls : List Line) (held held' : List ℕ) (begun' : Begun) (e : AfterEnd)
    → length held ≡ longest_line → Fed held start parts ls held' begun' → Ends held' begun' e
    → (ls ≡ lines_of (concat parts)) × (end_number e.answer ≡ at_end (rest_of (concat parts)))
unfolding state_in
whatever_the_parts parts ls held held' begun' e z f q =
    let r = run f (start_allowed held z) in
    (r.lines ∙ start_lines (concat parts), rw q (at_end_lem (rest_of (concat parts)) (end_case held' begun') r.still (r.state ∙ start_rest (concat parts))))

-- so two ways of cutting one feed tell the same
pub cut_anywhere : (parts parts' : List (List ℕ)) (ls ls' : List Line) (held held₁ held' held'₁ : List ℕ) (begun₁ begun'₁ : Begun) (e e' : AfterEnd)
    → concat parts ≡ concat parts' → length held ≡ longest_line → Fed held start parts ls held₁ begun₁ → Ends held₁ begun₁ e
    → length held' ≡ longest_line → Fed held' start parts' ls' held'₁ begun'₁ → Ends held'₁ begun'₁ e'
    → (ls ≡ ls') × (end_number e.answer ≡ end_number e'.answer)
cut_anywhere parts parts' ls ls' held held₁ held' held'₁ begun₁ begun'₁ e e' same z f q z' f' q' =
    let l = whatever_the_parts parts ls held held₁ begun₁ e z f q in
    let r = whatever_the_parts parts' ls' held' held'₁ begun'₁ e' z' f' q' in
    (l.0 ∙ ap lines_of same ∙ sym r.0, l.1 ∙ ap (λ (s : List ℕ). at_end (rest_of s)) same ∙ sym r.1)

-- and the calls come to an end: for every feed, in whatever parts, there is such a run
pub some_run : (parts : List (List ℕ)) (held : List ℕ) → length held ≡ longest_line → Runs held start parts
some_run parts held z = runs held start parts (start_allowed held z)
