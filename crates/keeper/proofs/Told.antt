-- A call of `cut`: the line that it told of, if it did, and how many bytes of a begun line there were before it and are after it. Assumes nothing.
use mathlib.Core.Path.{◌≡◌, refl, sym, ap, ◌∙◌}
use mathlib.Core.Bool.{Bool, true, false}
use mathlib.Core.List.{List, [], ◌∷◌, ◌++◌}
use Prim.Native.Nat.{ℕ, ◌+◌, ◌≤◌}
use native.Mathlib.Omega.{arith}
use lib.Dec.{leb}
use lib.ListN.{length, take, length-append}
use lib.Seq.{length-take-le}
use Rattle.text.proofs.Logic.{true_false}
use Rattle.shapes.specs.Cut.{up_to, before}
use Rattle.shapes.proofs.Joins.{whole_has, before_none}
use Rattle.shapes.proofs.Laws.{up_to_le}
use Rattle.rules.specs.Frame.{line_feed, longest_line}
use Rattle.cutter.specs.Feed.{Line, Whole, TooLong}
use Rattle.cutter.specs.State.{State, Bytes, Mark, state_in, is_allowed, more, more_in, held_more}
use Rattle.cutter.specs.Cases.{CutCase, NotAllowed, NoLineFeed, LineEnded, OverlongEnded}
use Rattle.cutter.specs.declared.Begun.{Begun}
use Rattle.cutter.specs.declared.Begun.TheVariants.{Held, Overlong}
use Rattle.cutter.proofs.States.{begins, grown}
use Rattle.dayfile.specs.DayFile.{may_keep}
use Rattle.dayfile.proofs.Files.{line_kept}
use Rattle.keeper.specs.Keep.{held_bytes}

-- how many bytes of a begun line a state has
abbrev size_of : State → ℕ
size_of (Bytes s) = length s
size_of Mark = 0

pub held_size : (held : List ℕ) (begun : Begun) → is_allowed held begun ≡ true → held_bytes begun ≡ size_of (state_in held begun)
unfolding held_bytes state_in
held_size held (Held n) a = sym (begins held n a).count
held_size held Overlong a = refl

pub held_most : (held : List ℕ) (begun : Begun) → is_allowed held begun ≡ true → held_bytes begun ≤ longest_line
unfolding held_bytes
held_most held (Held n) a = let b = begins held n a in omega (arith, b.size, b.fits)
held_most held Overlong a = omega arith

more_size : (h : State) (s : List ℕ) → size_of (more h s) ≤ size_of h + length s
unfolding more
more_size Mark s = omega arith
more_size (Bytes h) s = go (leb (length (h ++ s)) longest_line) refl
  where
    go : (b : Bool) → leb (length (h ++ s)) longest_line ≡ b → size_of (more (Bytes h) s) ≤ length h + length s
    go true q = rw q (omega (arith, length-append h s))
    go false q = rw q (omega arith)

-- the bytes of an allowed state may be kept as a line
may_held : (held : List ℕ) (begun : Begun) → is_allowed held begun ≡ true → (l : List ℕ) → state_in held begun ≡ Bytes l → may_keep l ≡ true
unfolding state_in
may_held held (Held n) a l e =
    let b = begins held n a in
    let z : take n held ≡ l = cc in
    rw (← z) (line_kept (take n held) (omega (arith, b.count, b.size, b.fits)) (whole_has line_feed (take n held) b.clean))
may_held held Overlong a l e = cc

may_ended : (held : List ℕ) (begun : Begun) (s l : List ℕ) → is_allowed held begun ≡ true → up_to line_feed s ≡ length s → more (state_in held begun) s ≡ Bytes l → may_keep l ≡ true
may_ended held begun s l a e z = let g = grown held begun s a in may_held (held_more held begun s) (more_in held begun s) (g.still e) l (g.state ∙ z)

-- ---- what a call told of

pub data ToldIs (before after used : ℕ) : List Line → Type 0 where
  None : after ≤ before + used → ToldIs before after used []
  Over : after ≡ 0 → ToldIs before after used (TooLong ∷ [])
  One : (l : List ℕ) → may_keep l ≡ true → length l + 1 ≤ before + used → after ≡ 0 → ToldIs before after used (Whole l ∷ [])

pub told_is : {held : List ℕ} {begun : Begun} {rest : List ℕ} {n u : ℕ} {ts : List Line} {h : State} → CutCase held begun rest n u ts h → is_allowed held begun ≡ true
    → ToldIs (size_of (state_in held begun)) (size_of h) u ts
unfolding before
told_is (NotAllowed p) a = true_false a p
told_is {held} {begun} {rest} (NoLineFeed p q) a = None (more_size (state_in held begun) rest)
told_is {held} {begun} {rest} (LineEnded p q l z) a =
    let s = before line_feed rest in
    let n : length s ≡ up_to line_feed rest = length-take-le (up_to line_feed rest) rest (up_to_le line_feed rest) in
    One l (may_ended held begun s l a (before_none line_feed rest) z) (omega (arith, n, more_size (state_in held begun) s, ap size_of z)) refl
told_is (OverlongEnded p q z) a = Over refl
