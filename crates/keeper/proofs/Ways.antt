-- What each way through `count_line`, `take_up`, `is_long`, `is_on` and `put_part` gives is what its definition says. Assumes nothing.
use Rattle.std.specs.Prelude.{Err, Ok, Result}
use mathlib.Core.Path.{◌≡◌, refl, sym, ap, ◌∙◌}
use mathlib.Core.Bool.{true, false, not}
use mathlib.Core.List.{List, [], ◌∷◌, ◌++◌}
use Prim.Native.Nat.{ℕ, ◌+◌, ◌≤◌}
use native.Mathlib.Omega.{arith}
use lib.Dec.{eqb}
use lib.ListN.{length, take, length-append}
use denote.Enum.Declared.{tag_of}
use types.Run.{OneOf, miss}
use Rattle.text.specs.Text.{spliced, written_bytes}
use Rattle.text.proofs.Laws.{has_room_lem}
use Rattle.text.proofs.Splice.{length-spliced, take-spliced}
use Rattle.cutter.specs.Feed.{Whole}
use Rattle.cutter.specs.Calls.{cut_number}
use Rattle.cutter.specs.Cases.{told_by}
use Rattle.cutter.specs.declared.CutAnswer.{CutAnswer}
use Rattle.cutter.specs.declared.CutAnswer.TheVariants as cut
use Rattle.cutter.specs.contracts.CutAnswer as cut-answer
use Rattle.dayfile.specs.Keeping.{kept_of, out_after, run_after}
use Rattle.dayfile.specs.declared.Place.{Place}
use Rattle.dayfile.proofs.Puts.{then_put}
use Rattle.keeper.specs.Keep.{counted_line, told_left, TakesUp}
use Rattle.keeper.specs.Work.{is_on}
use Rattle.keeper.specs.declared.keep.Keep.{Keep}
use Rattle.keeper.specs.declared.work.Work.{Work}
use Rattle.dayfile.specs.declared.NotKept.TheVariants.{LineFeed, NoRoom, TooLong, TooMany}
use Rattle.dayfile.specs.declared.NotKept.{NotKept}

-- ---- `count_line`

module _ (a : Result Place NotKept) (k : Keep) where
  pub counted_next : (q : Place) → a ≡ Ok q → record { begun = k.begun; lines = k.lines + 1; place = q; full = false } ≡ counted_line a k
  unfolding counted_line
  counted_next q e = rw e

full_line : (e : NotKept) (k : Keep) → record { begun = k.begun; lines = k.lines + 1; place = k.place; full = true } ≡ counted_line (Err e) k
unfolding counted_line
full_line TooLong k = refl
full_line LineFeed k = refl
full_line TooMany k = refl
full_line NoRoom k = refl

pub counted_full : {e : NotKept} (a : Result Place NotKept) (k : Keep) → a ≡ Err e
    → record { begun = k.begun; lines = k.lines + 1; place = k.place; full = true } ≡ counted_line a k
counted_full {e} a k is = rw is (full_line e k)

-- ---- `take_up`

-- of two variants the code tells only that it is one of them
told_whole : (a : CutAnswer) (l : List ℕ) → OneOf (1 ∷ 2 ∷ []) (tag_of cut-answer.the_type a) → told_by a l ≡ Whole l ∷ []
unfolding told_by
told_whole cut.Taken l h = absurd (miss (1 ∷ 2 ∷ []) 0 tt h)
told_whole (cut.InBuffer n) l h = refl
told_whole (cut.InPart n) l h = refl
told_whole cut.TooLong l h = absurd (miss (1 ∷ 2 ∷ []) 3 tt h)
told_whole cut.NotAllowed l h = absurd (miss (1 ∷ 2 ∷ []) 4 tt h)

told_none : (a : CutAnswer) (l : List ℕ) → OneOf (0 ∷ 4 ∷ []) (tag_of cut-answer.the_type a) → told_by a l ≡ []
unfolding told_by
told_none cut.Taken l h = refl
told_none (cut.InBuffer n) l h = absurd (miss (0 ∷ 4 ∷ []) 1 tt h)
told_none (cut.InPart n) l h = absurd (miss (0 ∷ 4 ∷ []) 2 tt h)
told_none cut.TooLong l h = absurd (miss (0 ∷ 4 ∷ []) 3 tt h)
told_none cut.NotAllowed l h = refl

module _ (base : ℕ) (answer : CutAnswer) (l out offsets : List ℕ) (k : Keep) where
  pub takes_line : OneOf (1 ∷ 2 ∷ []) (tag_of cut-answer.the_type answer) → (a : Result Place NotKept) {out' offsets' : List ℕ}
      → (a ≡ kept_of 65535 base l out offsets k.place) × ((out' ≡ out_after a base l out k.place) × (offsets' ≡ run_after a offsets k.place))
      → {k' : Keep} → k' ≡ counted_line a k → TakesUp base (told_by answer l) out offsets k out' offsets' k'
  unfolding told_left
  takes_line h a e f = rw (told_whole answer l h, f, e.1.0, e.1.1, e.0)

  pub takes_over : answer ≡ cut.TooLong → TakesUp base (told_by answer l) out offsets k out offsets (record { begun = k.begun; lines = k.lines + 1; place = k.place; full = false })
  unfolding told_left told_by
  takes_over e = rw e

  pub takes_none : OneOf (0 ∷ 4 ∷ []) (tag_of cut-answer.the_type answer) → TakesUp base (told_by answer l) out offsets k out offsets k
  unfolding told_left
  takes_none h = rw (told_none answer l h)

-- ---- `is_long`

pub long_is : (a : CutAnswer) → a ≡ cut.TooLong → true ≡ eqb (cut_number a) 2
unfolding cut_number
long_is a e = rw e

pub long_not : (a : CutAnswer) → OneOf (0 ∷ 1 ∷ 2 ∷ 4 ∷ []) (tag_of cut-answer.the_type a) → false ≡ eqb (cut_number a) 2
unfolding cut_number
long_not cut.Taken h = refl
long_not (cut.InBuffer n) h = refl
long_not (cut.InPart n) h = refl
long_not cut.TooLong h = absurd (miss (0 ∷ 1 ∷ 2 ∷ 4 ∷ []) 3 tt h)
long_not cut.NotAllowed h = refl

-- ---- `is_on`

module _ (w : Work) where
  pub on_ended : w.input.live ≡ false → false ≡ is_on w
  unfolding is_on
  on_ended e = rw e

  module _ (live : w.input.live ≡ true) where
    pub on_shut : w.shelf.live ≡ false → false ≡ is_on w
    unfolding is_on
    on_shut e = rw (live, e)

    pub on_free : w.shelf.live ≡ true → not w.keep.full ≡ is_on w
    unfolding is_on
    on_free e = rw (live, e)

-- ---- `put_part`: a name and what is put after it

pub named : (name after out a b : List ℕ) → length name + length after ≤ length out → a ≡ written_bytes true name out 0 → b ≡ written_bytes true after a (length name)
    → (n : ℕ) → n ≡ length name + length after → ((n ≤ length b) × (n ≡ length (take n b))) × (take n b ≡ name ++ after)
named name after out a b h e f n q =
    let p : a ≡ spliced out 0 name = e ∙ sym (has_room_lem name out 0 refl (omega arith)).1 in
    let k : length a ≡ length out = ap length p ∙ length-spliced out name 0 (omega arith) in
    let r : b ≡ spliced a (length name) after = f ∙ sym (has_room_lem after a (length name) refl (omega (arith, k))).1 in
    let s : b ≡ spliced out 0 (name ++ after) = then_put out name after 0 (length name) (omega arith) (omega arith) p r in
    let l : n ≡ length (name ++ after) = omega (arith, length-append name after) in
    let t : take n b ≡ name ++ after = rw s (take-spliced out (name ++ after) n l) in
    ((omega (arith, ap length s, length-spliced out (name ++ after) 0 (omega (arith, length-append name after))), l ∙ sym (ap length t)), t)
