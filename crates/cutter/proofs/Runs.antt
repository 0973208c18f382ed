-- A run of calls tells the lines that come from the state it began in, and there is such a run for every feed. Assumes nothing.
use mathlib.Core.Path.{◌≡◌, refl, sym, ap, ◌∙◌}
use mathlib.Core.Bool.{Bool, true, false}
use mathlib.Core.List.{List, [], ◌∷◌, ◌++◌, append_assoc}
use Prim.Native.Nat.{ℕ, zero, suc, ◌+◌, ◌≤◌, ◌<◌}
use native.Mathlib.Omega.{arith}
use lib.Dec.{leb, ltb}
use borrow.Author.Tests.{ltb-true}
use lib.ListN.{length, drop, drop_of_length-le, length-append, length-drop}
use Rattle.text.proofs.Logic.{true_false}
use Rattle.shapes.specs.Cut.{up_to, has, before, after}
use Rattle.shapes.specs.Pieces.{pieces}
use Rattle.shapes.proofs.Joins.{cut_whole, whole_has, before_none, no_cut}
use Rattle.rules.specs.Frame.{line_feed, longest_line}
use Rattle.cutter.specs.Feed.{Line, Whole, TooLong}
use Rattle.cutter.specs.State.{State, Bytes, Mark, state_in, is_allowed, state_of, more}
use Rattle.cutter.specs.Calls.{at_start, held_closed, taken_of, cut_of, held_cut, end_of, line_in}
use Rattle.cutter.specs.Cases.{told_by, CutCase, NotAllowed, NoLineFeed, LineEnded, OverlongEnded, CutIs, EndCase, EndNotAllowed, AtLineStart, InsideLine}
use Rattle.cutter.specs.Run.{concat, at_end, Fed, done, used, called}
use Rattle.cutter.specs.declared.Begun.{Begun}
use Rattle.cutter.specs.Told.{ended, told, state_after}
use Rattle.cutter.proofs.States.{allowed_size, start_allowed, grown, more_none}
use Rattle.cutter.proofs.Cases.{cut_case}
use Rattle.cutter.proofs.Feeds.{free_same, cut_same}

-- ---- an allowed state stays allowed

closed_size : (held : List ℕ) (begun : Begun) (s : List ℕ) → is_allowed held begun ≡ true → length (held_closed held begun s) ≡ length held
unfolding held_closed
closed_size held begun s a = go (at_start begun) refl
  where
    go : (b : Bool) → at_start begun ≡ b → length (held_closed held begun s) ≡ length held
    go true q = rw q
    go false q = rw q (grown held begun s a).size

pub cut_still : (held : List ℕ) (begun : Begun) (part : List ℕ) → is_allowed held begun ≡ true → is_allowed (held_cut held begun part) (cut_of held begun part).begun ≡ true
unfolding cut_of taken_of held_cut
cut_still held begun part a = go (has line_feed part) refl
  where
    go : (t : Bool) → has line_feed part ≡ t → is_allowed (held_cut held begun part) (cut_of held begun part).begun ≡ true
    go false q = rw (a, q) ((grown held begun part a).still (no_cut line_feed part q))
    go true q = rw (a, q) (start_allowed (held_closed held begun (before line_feed part)) (closed_size held begun (before line_feed part) a ∙ allowed_size held begun a))

pub end_still : (held : List ℕ) (begun : Begun) → is_allowed held begun ≡ true → is_allowed held (end_of held begun).begun ≡ true
unfolding end_of
end_still held begun a = rw a (start_allowed held (allowed_size held begun a))

-- ---- the calls, and the lines of the whole

-- what the calls told from a state, and the state that they left
pub record Same (held : List ℕ) (begun : Begun) (feed : List ℕ) (ls : List Line) (held' : List ℕ) (begun' : Begun) : Type 0 where
  pub lines : ls ≡ told (state_in held begun) (pieces line_feed feed)
  pub state : state_in held' begun' ≡ state_after (state_in held begun) (pieces line_feed feed)
  pub still : is_allowed held' begun' ≡ true

-- one call, and then the rest of its part and the other parts
module _ (held : List ℕ) (begun : Begun) (part feed held₁ : List ℕ) (begun₁ : Begun) (ls : List Line) (held' : List ℕ) (begun' : Begun) where
  on : has line_feed part ≡ false → state_in held₁ begun₁ ≡ more (state_in held begun) part → Same held₁ begun₁ (drop (length part) part ++ feed) ls held' begun'
      → Same held begun (part ++ feed) ls held' begun'
  on q e s =
      let f = free_same (state_in held begun) part feed q in
      let k : length part ≤ length part = omega arith in
      let d : drop (length part) part ≡ [] = drop_of_length-le part k in
      record { lines = rw (d, e) at s.lines ∙ sym f.0; state = rw (d, e) at s.state ∙ sym f.1; still = s.still }

  over : has line_feed part ≡ true → state_in held₁ begun₁ ≡ Bytes [] → (l : Line) → ended (more (state_in held begun) (before line_feed part)) ≡ l
      → Same held₁ begun₁ (drop (up_to line_feed part + 1) part ++ feed) ls held' begun' → Same held begun (part ++ feed) (l ∷ ls) held' begun'
  unfolding after
  over q e l z s =
      let b = before line_feed part in
      let t = after line_feed part in
      let f = cut_same (state_in held begun) b (t ++ feed) (whole_has line_feed b (before_none line_feed part)) in
      let w : part ++ feed ≡ b ++ line_feed ∷ (t ++ feed) = ap (λ (p : List ℕ). p ++ feed) (sym (cut_whole line_feed part q)) ∙ append_assoc b (line_feed ∷ t) feed in
      let m : ls ≡ told (Bytes []) (pieces line_feed (t ++ feed)) = rw e at s.lines in
      let n : state_in held' begun' ≡ state_after (Bytes []) (pieces line_feed (t ++ feed)) = rw e at s.state in
      record { lines = rw (w, f.0, z, ← m); state = rw (w, f.1) n; still = s.still }

  step : {n u : ℕ} {ts : List Line} {h : State} → CutCase held begun part n u ts h → is_allowed held begun ≡ true → state_in held₁ begun₁ ≡ h
      → Same held₁ begun₁ (drop u part ++ feed) ls held' begun' → Same held begun (part ++ feed) (ts ++ ls) held' begun'
  step (NotAllowed p) a e s = true_false a p
  step (NoLineFeed p q) a e s = on q e s
  step (LineEnded p q l z) a e s = over q e (Whole l) (ap ended z) s
  step (OverlongEnded p q z) a e s = over q e TooLong (ap ended z) s

pub run : {held : List ℕ} {begun : Begun} {parts : List (List ℕ)} {ls : List Line} {held' : List ℕ} {begun' : Begun}
    → Fed held begun parts ls held' begun' → is_allowed held begun ≡ true → Same held begun (concat parts) ls held' begun'
unfolding concat told state_after pieces
run (done {held = held} {begun = begun}) a = record { lines = refl; state = sym (more_none held begun a); still = a }
run (used f) a = run f a
run (called {held = held} {begun = begun} {part = part} {parts = parts} {r = r} {held₁ = held₁} {ls = ls} {held' = held'} {begun' = begun'} c l f) a =
    let k : CutIs held begun part r held₁ = rw (c.0, c.1) (cut_case held begun part) in
    let s : is_allowed held₁ r.begun ≡ true = rw (c.0, c.1) (cut_still held begun part a) in
    rw l (step held begun part (concat parts) held₁ r.begun ls held' begun' k a refl (run f s))

-- ---- at the end

rest_none : (s : List ℕ) → state_of s ≡ Bytes [] → s ≡ []
rest_none s e = go (leb (length s) longest_line) refl
  where
    go : (b : Bool) → leb (length s) longest_line ≡ b → s ≡ []
    go true q = let z : Bytes s ≡ Bytes [] = rw q at e in cc
    go false q = let z : Mark ≡ Bytes [] = rw q at e in cc

pub at_end_lem : {held : List ℕ} {begun : Begun} {n : ℕ} {h : State} (rest : List ℕ) → EndCase held begun n h → is_allowed held begun ≡ true → state_in held begun ≡ state_of rest → n ≡ at_end rest
at_end_lem rest (EndNotAllowed p) a e = true_false a p
at_end_lem [] (AtLineStart p q) a e = refl
at_end_lem (x ∷ s) (AtLineStart p q) a e = let z : x ∷ s ≡ [] = rest_none (x ∷ s) (sym e ∙ q) in cc
at_end_lem [] (InsideLine p q) a e = absurd (q e)
at_end_lem (x ∷ s) (InsideLine p q) a e = refl

-- ---- the calls come to an end

-- a call uses at least one byte of a part that has one
pub cut_used : (held : List ℕ) (begun : Begun) (part : List ℕ) → is_allowed held begun ≡ true → 0 < length part → (0 < (cut_of held begun part).used) × ((cut_of held begun part).used ≤ length part)
unfolding cut_of taken_of has
cut_used held begun part a h = go (ltb (up_to line_feed part) (length part)) refl
  where
    go : (t : Bool) → ltb (up_to line_feed part) (length part) ≡ t → (0 < (cut_of held begun part).used) × ((cut_of held begun part).used ≤ length part)
    go false q = rw (a, q) (h, omega arith)
    go true q = rw (a, q) (omega arith, omega (arith, ltb-true (up_to line_feed part) (length part) q))

pub record Runs (held : List ℕ) (begun : Begun) (parts : List (List ℕ)) : Type 0 where
  pub lines : List Line
  pub held' : List ℕ
  pub begun' : Begun
  pub fed : Fed held begun parts lines held' begun'

-- one call more, before a run
first_call : (held : List ℕ) (begun : Begun) (part : List ℕ) (parts : List (List ℕ))
    → Runs (held_cut held begun part) (cut_of held begun part).begun (drop (cut_of held begun part).used part ∷ parts) → Runs held begun (part ∷ parts)
first_call held begun part parts r =
    let l = line_in (cut_of held begun part).answer (held_cut held begun part) part in
    record { lines = told_by (cut_of held begun part).answer l ++ r.lines; held' = r.held'; begun' = r.begun'; fed = called (refl, refl) refl r.fed }

runs_in : (n : ℕ) (held : List ℕ) (begun : Begun) (parts : List (List ℕ)) → is_allowed held begun ≡ true → length (concat parts) + length parts ≤ n → Runs held begun parts
unfolding concat
runs_in n held begun [] a h = record { lines = []; held' = held; begun' = begun; fed = done }
runs_in zero held begun (p ∷ ps) a h = absurd (omega arith)
runs_in (suc n) held begun ([] ∷ ps) a h = let r = runs_in n held begun ps a (omega arith) in record { lines = r.lines; held' = r.held'; begun' = r.begun'; fed = used r.fed }
runs_in (suc n) held begun ((x ∷ p) ∷ ps) a h =
    let k = (cut_of held begun (x ∷ p)).used in
    let u = cut_used held begun (x ∷ p) a (omega arith) in
    let m : length (drop k (x ∷ p) ++ concat ps) + length (drop k (x ∷ p) ∷ ps) ≤ n =
    omega (arith, h, u.0, u.1, length-append (drop k (x ∷ p)) (concat ps), length-append (x ∷ p) (concat ps), length-drop k (x ∷ p)) in
    first_call held begun (x ∷ p) ps (runs_in n (held_cut held begun (x ∷ p)) (cut_of held begun (x ∷ p)).begun (drop k (x ∷ p) ∷ ps) (cut_still held begun (x ∷ p) a) m)

pub runs : (held : List ℕ) (begun : Begun) (parts : List (List ℕ)) → is_allowed held begun ≡ true → Runs held begun parts
runs held begun parts a = runs_in (length (concat parts) + length parts) held begun parts a (omega arith)
