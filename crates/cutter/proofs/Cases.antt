-- THE CASES of a call: its number, its count of used bytes, its line and its state are those of the document's case. Assumes nothing.
use mathlib.Core.Path.{◌≡◌, refl, sym, ap, ◌∙◌, subst}
use mathlib.Core.Bool.{Bool, true, false, cond}
use mathlib.Core.List.{List, [], ◌∷◌}
use Prim.Native.Nat.{ℕ, ◌+◌}
use native.Mathlib.Omega.{arith}
use lib.Dec.{leb}
use lib.ListN.{length, take}
use lib.Seq.{length-take-le}
use borrow.Author.Tests.{leb-true, leb-false, le-leb, lt-leb, eqb-false}
use Rattle.text.specs.Text.{has_room, spliced}
use Rattle.text.proofs.Logic.{true_false}
use Rattle.shapes.specs.Cut.{up_to, has, before}
use Rattle.shapes.proofs.Laws.{up_to_le}
use Rattle.rules.specs.Frame.{line_feed, longest_line}
use Rattle.cutter.specs.Feed.{Line, Whole, TooLong}
use Rattle.cutter.specs.State.{State, Bytes, Mark, state_in, is_allowed, state_of, more, more_in, held_more}
use Rattle.cutter.specs.Calls.{start, at_start, whole_in, within_of, close_of, held_closed, taken_of, cut_of, held_cut, end_of, line_in, cut_number, end_number}
use Rattle.cutter.specs.Cases.{told_by, CutCase, NotAllowed, NoLineFeed, LineEnded, OverlongEnded, CutIs, EndCase, EndIs, EndNotAllowed, AtLineStart, InsideLine}
use Rattle.cutter.specs.declared.Begun.{Begun}
use Rattle.cutter.specs.declared.Begun.TheVariants.{Held, Overlong}
use Rattle.cutter.specs.declared.CutAnswer.{CutAnswer}
use Rattle.cutter.specs.declared.AfterCut.{AfterCut}
use Rattle.cutter.specs.declared.AfterEnd.{AfterEnd}
use Rattle.cutter.proofs.Ways.{start_is}
use Rattle.cutter.proofs.States.{allowed_size, grown, begins}

-- the bytes before the line feed, counted
take-before : (s : List ℕ) → take (length (before line_feed s)) s ≡ before line_feed s
unfolding before
take-before s = rw (length-take-le (up_to line_feed s) s (up_to_le line_feed s))

-- from a line's start the bytes are the line
from_start : (held : List ℕ) (begun : Begun) (s : List ℕ) → begun ≡ start → more (state_in held begun) s ≡ state_of s
unfolding more state_in
from_start held begun s e = rw e

-- inside a line there is a byte of it, or the mark
inside : (held : List ℕ) (begun : Begun) → is_allowed held begun ≡ true → at_start begun ≡ false → state_in held begun ≡ Bytes [] → ⊥
unfolding state_in at_start
inside held Overlong a q e = absurd (let z : ◌≡◌ {A = ℕ} 0 1 = cc in omega arith)
inside held (Held n) a q e =
    let z : take n held ≡ [] = cc in
    eqb-false n 0 q (omega (arith, (begins held n a).count, ap length z))

-- ---- a line ends

module _ (held : List ℕ) (begun : Begun) (part : List ℕ) (a : is_allowed held begun ≡ true) (f : has line_feed part ≡ true) where
  abbrev Ended : CutAnswer → List ℕ → Type 0
  Ended r held' = CutCase held begun part (cut_number r) (up_to line_feed part + 1) (told_by r (line_in r held' part)) (Bytes [])

  -- in the buffer
  ended_whole : (r : Begun) (held' : List ℕ) → state_in held' r ≡ more (state_in held begun) (before line_feed part) → Ended (whole_in r) held'
  unfolding cut_number told_by line_in state_in
  ended_whole (Held n) held' e = LineEnded a f (take n held') (sym e)
  ended_whole Overlong held' e = OverlongEnded a f (sym e)

  -- whole in the part
  ended_within : begun ≡ start → Ended (within_of held (before line_feed part)) held
  unfolding cut_number told_by line_in
  ended_within s = go (leb (length (before line_feed part)) (length held)) refl
    where
      go : (b : Bool) → leb (length (before line_feed part)) (length held) ≡ b → Ended (within_of held (before line_feed part)) held
      go true q =
          let l = leb-true (length (before line_feed part)) (length held) q in
          let z : Bytes (before line_feed part) ≡ Bytes (take (length (before line_feed part)) part) = ap Bytes (sym (take-before part)) in
          rw q (LineEnded a f (take (length (before line_feed part)) part) (from_start held begun (before line_feed part) s ∙ rw (le-leb (length (before line_feed part)) longest_line (omega (arith, l, allowed_size held begun a))) z))
      go false q =
          let l = leb-false (length (before line_feed part)) (length held) q in
          rw q (OverlongEnded a f (from_start held begun (before line_feed part) s ∙ rw (lt-leb (length (before line_feed part)) longest_line (omega (arith, l, allowed_size held begun a)))))

  pub ended_case : Ended (close_of held begun (before line_feed part)) (held_closed held begun (before line_feed part))
  unfolding close_of held_closed
  ended_case = go (at_start begun) refl
    where
      go : (b : Bool) → at_start begun ≡ b → Ended (close_of held begun (before line_feed part)) (held_closed held begun (before line_feed part))
      go true q = rw q (ended_within (start_is begun q))
      go false q = rw q (ended_whole (more_in held begun (before line_feed part)) (held_more held begun (before line_feed part)) (grown held begun (before line_feed part) a).state)

-- ---- THE CASE OF `cut`

pub cut_case : (held : List ℕ) (begun : Begun) (part : List ℕ) → CutIs held begun part (cut_of held begun part) (held_cut held begun part)
unfolding cut_of taken_of held_cut cut_number told_by state_in
cut_case held begun part = go (is_allowed held begun) refl (has line_feed part) refl
  where
    go : (b : Bool) → is_allowed held begun ≡ b → (t : Bool) → has line_feed part ≡ t → CutIs held begun part (cut_of held begun part) (held_cut held begun part)
    go false p t q = rw p (NotAllowed p)
    go true p false q = rw (p, q) (subst (CutCase held begun part 0 (length part) []) (sym (grown held begun part p).state) (NoLineFeed p q))
    go true p true q = rw (p, q) (ended_case held begun part p q)

-- so a call that gives this is in its case
pub in_cut_case : (held : List ℕ) (begun : Begun) (part : List ℕ) {r : AfterCut} {held' : List ℕ} → (r ≡ cut_of held begun part) × (held' ≡ held_cut held begun part)
    → (r ≡ cut_of held begun part) × ((held' ≡ held_cut held begun part) × CutIs held begun part r held')
in_cut_case held begun part e = (e.0, (e.1, rw (e.0, e.1) (cut_case held begun part)))

-- ---- THE CASE OF `end`

pub end_case : (held : List ℕ) (begun : Begun) → EndIs held begun (end_of held begun)
unfolding end_of end_number state_in
end_case held begun = go (is_allowed held begun) refl (at_start begun) refl
  where
    go : (b : Bool) → is_allowed held begun ≡ b → (t : Bool) → at_start begun ≡ t → EndIs held begun (end_of held begun)
    go false p t q = rw p (EndNotAllowed p)
    go true p true q = rw (p, q) (AtLineStart p (rw (start_is begun q)))
    go true p false q = rw (p, q) (InsideLine p (inside held begun p q))

pub in_end_case : (held : List ℕ) (begun : Begun) {r : AfterEnd} → r ≡ end_of held begun → (r ≡ end_of held begun) × EndIs held begun r
in_end_case held begun e = (e, rw e (end_case held begun))

-- ---- NO CALL IS IN TWO CASES

-- what a case says, as one
record Said : Type 0 where
  pub number : ℕ
  pub used : ℕ
  pub lines : List Line
  pub state : State

module _ (held : List ℕ) (begun : Begun) (part : List ℕ) where
  abbrev at_feed : State → Said
  at_feed (Bytes l) = record { number = 0; used = up_to line_feed part + 1; lines = Whole l ∷ []; state = Bytes [] }
  at_feed Mark = record { number = 2; used = up_to line_feed part + 1; lines = TooLong ∷ []; state = Bytes [] }

  abbrev said_of : Bool → Bool → Said
  said_of false f = record { number = 13; used = 0; lines = []; state = state_in held begun }
  said_of true false = record { number = 0; used = length part; lines = []; state = more (state_in held begun) part }
  said_of true true = at_feed (more (state_in held begun) (before line_feed part))

  said : {n u : ℕ} {ls : List Line} {h : State} → CutCase held begun part n u ls h
      → record { number = n; used = u; lines = ls; state = h } ≡ said_of (is_allowed held begun) (has line_feed part)
  said (NotAllowed p) = rw p
  said (NoLineFeed p q) = rw (p, q)
  said (LineEnded p q l z) = rw (p, q, z)
  said (OverlongEnded p q z) = rw (p, q, z)

  pub cut_one_case : {n u n' u' : ℕ} {ls ls' : List Line} {h h' : State} → CutCase held begun part n u ls h → CutCase held begun part n' u' ls' h'
      → (n ≡ n') × (u ≡ u') × (ls ≡ ls') × (h ≡ h')
  cut_one_case c d =
      let e = said c ∙ sym (said d) in
      (ap (λ (x : Said). x.number) e, ap (λ (x : Said). x.used) e, ap (λ (x : Said). x.lines) e, ap (λ (x : Said). x.state) e)

pub end_one_case : {held : List ℕ} {begun : Begun} {n n' : ℕ} {h h' : State} → EndCase held begun n h → EndCase held begun n' h' → (n ≡ n') × (h ≡ h')
end_one_case (EndNotAllowed p) (EndNotAllowed q) = (refl, refl)
end_one_case (EndNotAllowed p) (AtLineStart q e) = true_false q p
end_one_case (EndNotAllowed p) (InsideLine q e) = true_false q p
end_one_case (AtLineStart p e) (EndNotAllowed q) = true_false p q
end_one_case (AtLineStart p e) (AtLineStart q f) = (refl, refl)
end_one_case (AtLineStart p e) (InsideLine q f) = absurd (f e)
end_one_case (InsideLine p e) (EndNotAllowed q) = true_false p q
end_one_case (InsideLine p e) (AtLineStart q f) = absurd (e f)
end_one_case (InsideLine p e) (InsideLine q f) = (refl, refl)

-- ---- 13 HANDS THE STATE BACK

cut_13 : {held : List ℕ} {begun : Begun} {part : List ℕ} {n u : ℕ} {ls : List Line} {h : State} → CutCase held begun part n u ls h → n ≡ 13 → is_allowed held begun ≡ false
cut_13 (NotAllowed p) e = p
cut_13 (NoLineFeed p q) e = absurd (omega arith)
cut_13 (LineEnded p q l z) e = absurd (omega arith)
cut_13 (OverlongEnded p q z) e = absurd (omega arith)

pub cut_back : (held : List ℕ) (begun : Begun) (part : List ℕ) → cut_number (cut_of held begun part).answer ≡ 13 → ((cut_of held begun part).begun ≡ begun) × ((cut_of held begun part).used ≡ 0)
unfolding cut_of
cut_back held begun part e = rw (cut_13 (cut_case held begun part) e) (refl, refl)

end_13 : {held : List ℕ} {begun : Begun} {n : ℕ} {h : State} → EndCase held begun n h → n ≡ 13 → is_allowed held begun ≡ false
end_13 (EndNotAllowed p) e = p
end_13 (AtLineStart p q) e = absurd (omega arith)
end_13 (InsideLine p q) e = absurd (omega arith)

pub end_back : (held : List ℕ) (begun : Begun) → end_number (end_of held begun).answer ≡ 13 → (end_of held begun).begun ≡ begun
unfolding end_of
end_back held begun e = rw (end_13 (end_case held begun) e)

-- ---- NOTHING IS WRITTEN but at 0

whole_zero : (n : ℕ) → cut_number (whole_in (Held n)) ≡ 0
unfolding cut_number
whole_zero n = refl

more_nothing : (held : List ℕ) (begun : Begun) (s : List ℕ) → more_in held begun s ≡ Overlong → held_more held begun s ≡ held
unfolding more_in held_more
more_nothing held Overlong s e = refl
more_nothing held (Held n) s e = go (has_room s held n) refl
  where
    go : (b : Bool) → has_room s held n ≡ b → cond (has_room s held n) (spliced held n s) held ≡ held
    go true q = let z : Held (n + length s) ≡ Overlong = rw q at e in cc
    go false q = rw q

close_nothing : (held : List ℕ) (begun : Begun) (s : List ℕ) → (cut_number (close_of held begun s) ≡ 0 → ⊥) → held_closed held begun s ≡ held
unfolding close_of held_closed
close_nothing held begun s h = go (at_start begun) refl (more_in held begun s) refl
  where
    go : (b : Bool) → at_start begun ≡ b → (r : Begun) → more_in held begun s ≡ r → held_closed held begun s ≡ held
    go true q r e = rw q
    go false q (Held n) e = absurd (h (rw (q, e) (whole_zero n)))
    go false q Overlong e = rw q (more_nothing held begun s e)

pub cut_nothing : (held : List ℕ) (begun : Begun) (part : List ℕ) → (cut_number (cut_of held begun part).answer ≡ 0 → ⊥) → held_cut held begun part ≡ held
unfolding cut_of taken_of held_cut cut_number
cut_nothing held begun part h = go (is_allowed held begun) refl (has line_feed part) refl
  where
    go : (b : Bool) → is_allowed held begun ≡ b → (t : Bool) → has line_feed part ≡ t → held_cut held begun part ≡ held
    go false p t q = rw p
    go true p false q = absurd (h (rw (p, q)))
    go true p true q = rw (p, q) (close_nothing held begun (before line_feed part) (λ e. h (rw (p, q) e)))
