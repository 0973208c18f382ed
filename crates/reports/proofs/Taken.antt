-- The rows after lines are those after their history, and TAKEN counts what demand 3 calls taken. Assumes nothing.
use mathlib.Core.Path.{◌≡◌, refl, sym, ◌∙◌}
use mathlib.Core.List.{List, [], ◌∷◌}
use Prim.Native.Nat.{ℕ, suc, ◌+◌}
use native.Mathlib.Omega.{arith}
use Rattle.history.specs.Events.{History, start, ◌then◌}
use Rattle.history.specs.Steps.{Answer, Took, Refused, NoRoom, NotListed, rows_after, answer, after}
use Rattle.history.specs.Promise.{Taken}
use Rattle.cutter.specs.Feed.{Line}
use Rattle.feeding.specs.Tally.{event_of, rows_by, one, taken_by}
use Rattle.feeding.specs.Run.{history_from}
use Rattle.reports.specs.Taken.{history_of, CountTaken, none, took, refused}

rows_from : (h : History) (ls : List Line) → rows_by (after h) ls ≡ after (history_from h ls)
unfolding rows_by after history_from
rows_from h [] = refl
rows_from h (l ∷ ls) = rows_from (h then event_of l) ls

-- the rows after lines are those that demand 3 speaks of
pub rows_history : (ls : List Line) → rows_by [] ls ≡ after (history_of ls)
unfolding after
rows_history ls = rows_from start ls

not_took : (a : Answer) → one a ≡ 0 → a ≡ Took → ⊥
not_took Took z e = omega arith
not_took Refused z e = let y : ◌≡◌ {A = ℕ} 0 1 = cc in omega arith
not_took NoRoom z e = let y : ◌≡◌ {A = ℕ} 0 1 = cc in omega arith
not_took NotListed z e = let y : ◌≡◌ {A = ℕ} 0 1 = cc in omega arith

pub counted_from : (h : History) (n : ℕ) (ls : List Line) → CountTaken Taken h n → CountTaken Taken (history_from h ls) (n + taken_by (after h) ls)
unfolding taken_by after history_from
counted_from h n [] c = let z : n + 0 ≡ n = omega arith in rw z c
counted_from h n (l ∷ ls) c = go (answer (after h) (event_of l)) refl (counted_from (h then event_of l) (suc n) ls) (counted_from (h then event_of l) n ls)
  where
    k : ℕ
    k = taken_by (rows_after (after h) (event_of l)) ls

    go : (a : Answer) → answer (after h) (event_of l) ≡ a
        → (CountTaken Taken (h then event_of l) (suc n) → CountTaken Taken (history_from (h then event_of l) ls) (suc n + taken_by (after (h then event_of l)) ls))
        → (CountTaken Taken (h then event_of l) n → CountTaken Taken (history_from (h then event_of l) ls) (n + taken_by (after (h then event_of l)) ls))
        → CountTaken Taken (history_from h (l ∷ ls)) (n + taken_by (after h) (l ∷ ls))
    go Took q f g = let z : n + (1 + k) ≡ suc n + k = omega arith in rw (q, z) (f (took c q))
    go Refused q f g = let z : n + (0 + k) ≡ n + k = omega arith in rw (q, z) (g (refused c (λ e. not_took Refused refl (sym q ∙ e))))
    go NoRoom q f g = let z : n + (0 + k) ≡ n + k = omega arith in rw (q, z) (g (refused c (λ e. not_took NoRoom refl (sym q ∙ e))))
    go NotListed q f g = let z : n + (0 + k) ≡ n + k = omega arith in rw (q, z) (g (refused c (λ e. not_took NotListed refl (sym q ∙ e))))

-- TAKEN
pub taken_counted : (ls : List Line) → CountTaken Taken (history_of ls) (taken_by [] ls)
unfolding after
taken_counted ls = let z : 0 + taken_by [] ls ≡ taken_by [] ls = omega arith in rw z at (counted_from start 0 ls none)
