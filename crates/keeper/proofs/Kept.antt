-- The lines that are kept of a feed, as its lines come: after some lines, and after more. Assumes nothing.
use mathlib.Core.Path.{◌≡◌, refl, sym, ap, ◌∙◌}
use mathlib.Core.Bool.{Bool, true, false, cond, not, ◌&&◌, ◌||◌}
use mathlib.Core.List.{List, [], ◌∷◌, ◌++◌, append-nil, append_assoc}
use Prim.Native.Nat.{ℕ, suc, ◌+◌, ◌≤◌}
use native.Mathlib.Omega.{arith}
use lib.Dec.{leb, ltb}
use lib.ListN.{length, length-append}
use borrow.Author.Tests.{leb-true, leb-false, le-leb, lt-leb, lt-ltb, le-ltb}
use Rattle.text.proofs.Logic.{true_false}
use Rattle.cutter.specs.Feed.{Line, Whole, TooLong, feed_of, lines_of}
use Rattle.dayfile.specs.DayFile.{version1, lines_text, may_keep, each_may_keep, is_run, too_far}
use Rattle.dayfile.specs.Keeping.{fed, is_full}
use Rattle.dayfile.specs.declared.Place.{Place}
use Rattle.dayfile.proofs.Files.{run_parts}
use Rattle.dayfile.proofs.KeptLines.{text_more, each_more}
use Rattle.keeper.specs.Keep.{kept_after, is_past, looked_at, kept_in}

-- ---- lines and then more lines, where every one of the first fits

pub record GoesOn (kept : List (List ℕ)) (ls ms : List Line) : Type 0 where
  pub kept_then : kept_after kept (ls ++ ms) ≡ kept_after (kept_after kept ls) ms
  pub past_then : is_past kept (ls ++ ms) ≡ is_past (kept_after kept ls) ms
  pub looked_then : looked_at kept (ls ++ ms) ≡ looked_at kept ls + looked_at (kept_after kept ls) ms

pub goes_on : (kept : List (List ℕ)) (ls ms : List Line) → is_past kept ls ≡ false → GoesOn kept ls ms
unfolding kept_after is_past looked_at
goes_on kept [] ms e = record { kept_then = refl; past_then = refl; looked_then = omega arith }
goes_on kept (TooLong ∷ ls) ms e =
    let r = goes_on kept ls ms e in
    record { kept_then = r.kept_then; past_then = r.past_then; looked_then = omega (arith, r.looked_then) }
goes_on kept (Whole l ∷ ls) ms e = go (is_run version1 (kept ++ l ∷ [])) refl (λ q. goes_on (kept ++ l ∷ []) ls ms q)
  where
    go : (b : Bool) → is_run version1 (kept ++ l ∷ []) ≡ b → (is_past (kept ++ l ∷ []) ls ≡ false → GoesOn (kept ++ l ∷ []) ls ms) → GoesOn kept (Whole l ∷ ls) ms
    go true q r =
        let g = r (rw q at e) in
        record { kept_then = rw q g.kept_then; past_then = rw q g.past_then; looked_then = rw q (omega (arith, g.looked_then)) }
    go false q r = true_false refl (rw q at e)

-- ---- after one that does not fit nothing is looked at

pub record Stops (kept : List (List ℕ)) (ls ms : List Line) : Type 0 where
  pub kept_same : kept_after kept (ls ++ ms) ≡ kept_after kept ls
  pub past_same : is_past kept (ls ++ ms) ≡ true
  pub looked_same : looked_at kept (ls ++ ms) ≡ looked_at kept ls

pub stops : (kept : List (List ℕ)) (ls ms : List Line) → is_past kept ls ≡ true → Stops kept ls ms
unfolding kept_after is_past looked_at
stops kept [] ms e = true_false e refl
stops kept (TooLong ∷ ls) ms e =
    let r = stops kept ls ms e in
    record { kept_same = r.kept_same; past_same = r.past_same; looked_same = ap suc r.looked_same }
stops kept (Whole l ∷ ls) ms e = go (is_run version1 (kept ++ l ∷ [])) refl (λ q. stops (kept ++ l ∷ []) ls ms q)
  where
    go : (b : Bool) → is_run version1 (kept ++ l ∷ []) ≡ b → (is_past (kept ++ l ∷ []) ls ≡ true → Stops (kept ++ l ∷ []) ls ms) → Stops kept (Whole l ∷ ls) ms
    go true q r =
        let s = r (rw q at e) in
        record { kept_same = rw q s.kept_same; past_same = rw q s.past_same; looked_same = rw q (ap suc s.looked_same) }
    go false q r = record { kept_same = rw q; past_same = rw q; looked_same = rw q }

-- ---- what is kept is a run, and begins with what was kept before

pub record Grows (kept : List (List ℕ)) (ls : List Line) : Type 0 where
  pub run : is_run version1 kept ≡ true → is_run version1 (kept_after kept ls) ≡ true
  pub more : List (List ℕ)
  pub begins : kept_after kept ls ≡ kept ++ more

pub grows : (kept : List (List ℕ)) (ls : List Line) → Grows kept ls
unfolding kept_after
grows kept [] = record { run = λ e. e; more = []; begins = sym (append-nil kept) }
grows kept (TooLong ∷ ls) = let g = grows kept ls in record { run = g.run; more = g.more; begins = g.begins }
grows kept (Whole l ∷ ls) = go (is_run version1 (kept ++ l ∷ [])) refl (grows (kept ++ l ∷ []) ls)
  where
    go : (b : Bool) → is_run version1 (kept ++ l ∷ []) ≡ b → Grows (kept ++ l ∷ []) ls → Grows kept (Whole l ∷ ls)
    go true q g = record { run = λ e. rw q (g.run q); more = l ∷ g.more; begins = rw q (g.begins ∙ append_assoc kept (l ∷ []) g.more) }
    go false q g = record { run = λ e. rw q e; more = []; begins = rw q (sym (append-nil kept)) }

-- so what is kept of a feed may be kept
pub kept_run : (feed : List ℕ) → is_run version1 (kept_in feed) ≡ true
unfolding is_run each_may_keep feed_of
kept_run feed = (grows [] (lines_of feed)).run refl

-- no more lines are looked at than there are
pub looked_few : (kept : List (List ℕ)) (ls : List Line) → looked_at kept ls ≤ length ls
unfolding looked_at
looked_few kept [] = omega arith
looked_few kept (TooLong ∷ ls) = omega (arith, looked_few kept ls)
looked_few kept (Whole l ∷ ls) = go (is_run version1 (kept ++ l ∷ [])) (looked_few (kept ++ l ∷ []) ls)
  where
    go : (b : Bool) → looked_at (kept ++ l ∷ []) ls ≤ length ls → suc (cond b (looked_at (kept ++ l ∷ []) ls) 0) ≤ suc (length ls)
    go true h = omega arith
    go false h = omega arith

-- and no more are kept than are looked at
pub kept_few : (kept : List (List ℕ)) (ls : List Line) → length (kept_after kept ls) ≤ length kept + looked_at kept ls
unfolding kept_after looked_at
kept_few kept [] = omega arith
kept_few kept (TooLong ∷ ls) = omega (arith, kept_few kept ls)
kept_few kept (Whole l ∷ ls) = go (is_run version1 (kept ++ l ∷ [])) (kept_few (kept ++ l ∷ []) ls)
  where
    go : (b : Bool) → length (kept_after (kept ++ l ∷ []) ls) ≤ length (kept ++ l ∷ []) + looked_at (kept ++ l ∷ []) ls
        → length (cond b (kept_after (kept ++ l ∷ []) ls) kept) ≤ length kept + suc (cond b (looked_at (kept ++ l ∷ []) ls) 0)
    go true h = omega (arith, length-append kept (l ∷ []))
    go false h = omega arith

-- ---- one line more

-- the run with it may be kept exactly if the file is not full
module _ (kept : List (List ℕ)) (l : List ℕ) (run : is_run version1 kept ≡ true) (may : may_keep l ≡ true)
    (p : Place) (many : p.count ≡ length kept) (far : p.at ≡ length (lines_text kept)) where
  each : each_may_keep (kept ++ l ∷ []) ≡ true
  each = each_more kept l (run_parts version1 kept run).0 may

  count : length (kept ++ l ∷ []) ≡ p.count + 1
  count = omega (arith, length-append kept (l ∷ []), many)

  size : length (lines_text (kept ++ l ∷ [])) ≡ p.at + length (fed l)
  size = ap length (text_more kept l) ∙ omega (arith, length-append (lines_text kept) (fed l), far)

  pub fits_not_full : is_run version1 (kept ++ l ∷ []) ≡ not (is_full 65535 p l)
  unfolding is_run is_full
  fits_not_full = rw (each, count, size) (go (leb 65535 p.count) refl (leb too_far (p.at + length (fed l))) refl)
    where
      go : (a : Bool) → leb 65535 p.count ≡ a → (b : Bool) → leb too_far (p.at + length (fed l)) ≡ b
          → (leb (p.count + 1) 65535 && ltb (p.at + length (fed l)) too_far) ≡ not (leb 65535 p.count || leb too_far (p.at + length (fed l)))
      go true e b f = rw (e, lt-leb (p.count + 1) 65535 (omega (arith, leb-true 65535 p.count e)))
      go false e true f =
          rw (e, f, le-leb (p.count + 1) 65535 (omega (arith, leb-false 65535 p.count e)), le-ltb (p.at + length (fed l)) too_far (leb-true too_far (p.at + length (fed l)) f))
      go false e false f =
          rw (e, f, le-leb (p.count + 1) 65535 (omega (arith, leb-false 65535 p.count e)), lt-ltb (p.at + length (fed l)) too_far (leb-false too_far (p.at + length (fed l)) f))
