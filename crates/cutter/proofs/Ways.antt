-- What each way through the code of the cutter answers is what its definition says. Assumes nothing.
use Rattle.std.specs.Prelude.{Err, Ok, Result}
use mathlib.Core.Path.{◌≡◌, refl, sym, ap, ◌∙◌}
use mathlib.Core.Bool.{Bool, true, false, not}
use mathlib.Core.List.{List, [], ◌∷◌}
use Prim.Native.Nat.{ℕ, ◌+◌, ◌≤◌, ◌<◌}
use native.Mathlib.Omega.{arith}
use lib.Dec.{eqb, ltb}
use lib.ListN.{length, take}
use lib.Seq.{length-take-le}
use borrow.Author.Tests.{eq-eqb, ne_eqb, le-leb, lt-leb, eqb-true, eqb-false, le-ltb, lt-ltb}
use denote.Enum.Declared.{tag_of}
use types.Run.{OneOf, miss}
use Rattle.text.specs.Text.{has_room, spliced, written_next, written_bytes}
use Rattle.text.proofs.Logic.{true_false}
use Rattle.shapes.specs.Cut.{up_to, has, before}
use Rattle.shapes.proofs.Laws.{up_to_le}
use Rattle.shapes.proofs.Joins.{whole_has}
use Rattle.rules.specs.Frame.{line_feed, longest_line}
use Rattle.cutter.specs.State.{is_allowed, more_in, held_more}
use Rattle.cutter.specs.Calls.{start, at_start, close_of, held_closed, taken_of, cut_of, held_cut, end_of, line_in}
use Rattle.cutter.specs.declared.Begun.{Begun}
use Rattle.cutter.specs.declared.Begun.TheVariants.{Held, Overlong}
use Rattle.cutter.specs.declared.CutAnswer.{CutAnswer}
use Rattle.cutter.specs.declared.CutAnswer.TheVariants as cut
use Rattle.cutter.specs.declared.EndAnswer.TheVariants as end
use Rattle.cutter.specs.contracts.CutAnswer.{the_type as the-answer}
use Rattle.text.specs.declared.NotWritten.{NotWritten}
use Rattle.text.specs.declared.NotWritten.TheVariants.{NoRoom}

-- ---- `is_allowed`

pub wrong_size : (held : List ℕ) (begun : Begun) → (length held ≡ longest_line → ⊥) → false ≡ is_allowed held begun
unfolding is_allowed
wrong_size held begun h = rw (ne_eqb (length held) longest_line h)

module _ (held : List ℕ) (begun : Begun) (size : length held ≡ longest_line) where
  pub too_many : (n : ℕ) → begun ≡ Held n → longest_line < n → false ≡ is_allowed held begun
  unfolding is_allowed
  too_many n e h = rw (e, eq-eqb (length held) longest_line size, lt-leb n longest_line h)

  pub mark_allowed : begun ≡ Overlong → true ≡ is_allowed held begun
  unfolding is_allowed
  mark_allowed e = rw (e, eq-eqb (length held) longest_line size)

  pub held_allowed : (n r : ℕ) → begun ≡ Held n → n ≤ longest_line → r ≡ up_to line_feed (take n held) → eqb r n ≡ is_allowed held begun
  unfolding is_allowed has
  held_allowed n r e h f =
      let l : length (take n held) ≡ n = length-take-le n held (omega arith) in
      rw (e, eq-eqb (length held) longest_line size, le-leb n longest_line h, l, ← f) (go (eqb r n) refl)
    where
      go : (b : Bool) → eqb r n ≡ b → eqb r n ≡ not (ltb r n)
      go true q = rw (q, le-ltb r n (omega (arith, eqb-true r n q)))
      go false q =
          let l : length (take n held) ≡ n = length-take-le n held (omega arith) in
          rw (q, lt-ltb r n (omega (arith, eqb-false r n q, f, l, up_to_le line_feed (take n held))))

-- ---- `at_start`

pub held_start : (begun : Begun) (n : ℕ) → begun ≡ Held n → eqb n 0 ≡ at_start begun
unfolding at_start
held_start begun n e = rw e

pub mark_start : (begun : Begun) → begun ≡ Overlong → false ≡ at_start begun
unfolding at_start
mark_start begun e = rw e

pub start_is : (begun : Begun) → at_start begun ≡ true → begun ≡ start
unfolding at_start
start_is (Held n) h = ap Held (eqb-true n 0 h)
start_is Overlong h = true_false h refl

-- ---- `hold`

module _ (held : List ℕ) (begun : Begun) (s : List ℕ) where
  pub mark_more : begun ≡ Overlong → (Overlong ≡ more_in held begun s) × (held ≡ held_more held begun s)
  unfolding more_in held_more
  mark_more e = rw e (refl, refl)

  module _ (n : ℕ) (e : begun ≡ Held n) (out : List ℕ) (o : out ≡ written_bytes true s held n) where
    pub more_full : {r : NotWritten} → Err r ≡ written_next true s held n → (Overlong ≡ more_in held begun s) × (out ≡ held_more held begun s)
    unfolding more_in held_more written_next written_bytes
    more_full {r} w = go (has_room s held n) refl
      where
        go : (b : Bool) → has_room s held n ≡ b → (Overlong ≡ more_in held begun s) × (out ≡ held_more held begun s)
        go true q = let d : Err r ≡ Ok (n + length s) = rw q at w in ((cc), (cc))
        go false q = let d : out ≡ held = rw q at o in rw (e, q) (refl, d)

    pub more_held : (m : ℕ) → Ok m ≡ written_next true s held n → (Held m ≡ more_in held begun s) × (out ≡ held_more held begun s)
    unfolding more_in held_more written_next written_bytes
    more_held m w = go (has_room s held n) refl
      where
        go : (b : Bool) → has_room s held n ≡ b → (Held m ≡ more_in held begun s) × (out ≡ held_more held begun s)
        go true q =
            let d : Ok m ≡ Ok (n + length s) = rw q at w in
            let f : m ≡ n + length s = cc in
            let g : out ≡ spliced held n s = rw q at o in
            rw (e, q) (rw f, g)
        go false q = let d : Ok m ≡ Err NoRoom = rw q at w in ((cc), (cc))

-- ---- `close`

module _ (held : List ℕ) (begun : Begun) (s : List ℕ) where
  module _ (first : at_start begun ≡ true) where
    pub close_long : length held < length s → (cut.TooLong ≡ close_of held begun s) × (held ≡ held_closed held begun s)
    unfolding close_of held_closed
    close_long h = rw (first, lt-leb (length s) (length held) h) (refl, refl)

    pub close_within : length s ≤ length held → (cut.InPart (length s) ≡ close_of held begun s) × (held ≡ held_closed held begun s)
    unfolding close_of held_closed
    close_within h = rw (first, le-leb (length s) (length held) h) (refl, refl)

  module _ (later : at_start begun ≡ false) (r : Begun) (is : r ≡ more_in held begun s) (out : List ℕ) (o : out ≡ held_more held begun s) where
    pub close_full : r ≡ Overlong → (cut.TooLong ≡ close_of held begun s) × (out ≡ held_closed held begun s)
    unfolding close_of held_closed
    close_full e = rw (later, ← is, e) (refl, o)

    pub close_held : (n : ℕ) → r ≡ Held n → (cut.InBuffer n ≡ close_of held begun s) × (out ≡ held_closed held begun s)
    unfolding close_of held_closed
    close_held n e = rw (later, ← is, e) (refl, o)

-- ---- `cut`

pub found_le : (n : ℕ) (s : List ℕ) → n ≡ up_to line_feed s → n ≤ length s
found_le n s e = omega (arith, e, up_to_le line_feed s)

module _ (held : List ℕ) (begun : Begun) (part : List ℕ) where
  pub cut_refused : is_allowed held begun ≡ false → (record { answer = cut.NotAllowed; used = 0; begun = begun } ≡ cut_of held begun part) × (held ≡ held_cut held begun part)
  unfolding cut_of held_cut
  cut_refused h = rw h (refl, refl)

  module _ (allowed : is_allowed held begun ≡ true) (n : ℕ) (is : n ≡ up_to line_feed part) (out : List ℕ) where
    pub cut_taken : n ≡ length part → (r : Begun) → r ≡ more_in held begun part → out ≡ held_more held begun part
        → (record { answer = cut.Taken; used = n; begun = r } ≡ cut_of held begun part) × (out ≡ held_cut held begun part)
    unfolding cut_of taken_of held_cut
    cut_taken e r f o = rw (allowed, whole_has line_feed part (sym is ∙ e), e, f) (refl, o)

    pub cut_ended : (n ≡ length part → ⊥) → (a : CutAnswer) → a ≡ close_of held begun (take n part) → out ≡ held_closed held begun (take n part)
        → (record { answer = a; used = n + 1; begun = start } ≡ cut_of held begun part) × (out ≡ held_cut held begun part)
    unfolding cut_of taken_of held_cut has before
    cut_ended e a f o =
        let h : up_to line_feed part < length part = omega (arith, up_to_le line_feed part, is, e) in
        rw (allowed, lt-ltb (up_to line_feed part) (length part) h, ← is, f) (refl, o)

-- ---- `end`

module _ (held : List ℕ) (begun : Begun) where
  pub end_refused : is_allowed held begun ≡ false → record { answer = end.NotAllowed; begun = begun } ≡ end_of held begun
  unfolding end_of
  end_refused h = rw h

  module _ (allowed : is_allowed held begun ≡ true) where
    pub end_start : at_start begun ≡ true → record { answer = end.AtStart; begun = begun } ≡ end_of held begun
    unfolding end_of
    end_start h = rw (allowed, h, start_is begun h)

    pub end_inside : at_start begun ≡ false → record { answer = end.InsideLine; begun = start } ≡ end_of held begun
    unfolding end_of
    end_inside h = rw (allowed, h)

-- ---- `line`

pub line_held : (a : CutAnswer) (held part : List ℕ) (n : ℕ) → a ≡ cut.InBuffer n → take n held ≡ line_in a held part
unfolding line_in
line_held a held part n e = rw e

pub line_part : (a : CutAnswer) (held part : List ℕ) (n : ℕ) → a ≡ cut.InPart n → take n part ≡ line_in a held part
unfolding line_in
line_part a held part n e = rw e

-- where no line is, the code tells only the variant's number
pub line_none : (a : CutAnswer) (held part : List ℕ) → OneOf (0 ∷ 3 ∷ 4 ∷ []) (tag_of the-answer a) → [] ≡ line_in a held part
unfolding line_in
line_none cut.Taken held part h = refl
line_none (cut.InBuffer n) held part h = absurd (miss (0 ∷ 3 ∷ 4 ∷ []) 1 tt h)
line_none (cut.InPart n) held part h = absurd (miss (0 ∷ 3 ∷ 4 ∷ []) 2 tt h)
line_none cut.TooLong held part h = refl
line_none cut.NotAllowed held part h = refl
