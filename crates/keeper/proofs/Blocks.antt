-- A feed kept block by block: what is stored stays so, and what is put away next is exactly what was kept of what came. Assumes nothing.
use mathlib.Core.Path.{◌≡◌, refl, sym, ap, ◌∙◌}
use mathlib.Core.Bool.{Bool, true, false, not, ◌&&◌}
use mathlib.Core.List.{List, [], ◌++◌}
use mathlib.Core.Logic.{◌⊎◌, inl, inr}
use Prim.Native.Nat.{ℕ, ◌+◌, ◌-◌, ◌≤◌, ◌<◌, ◌^◌}
use native.Mathlib.Omega.{arith}
use lib.ListN.{length, take, length-append, take-append-drop, drop_of_length-le}
use lib.Seq.{length-take-le}
use borrow.Author.Tests.{not-true}
use Rattle.text.proofs.Logic.{and_left, and_right, true_false}
use Rattle.shapes.specs.Pieces.{pieces}
use Rattle.rules.specs.Frame.{longest_line}
use Rattle.cutter.specs.Feed.{feed_of, rest_of, lines_of}
use Rattle.cutter.specs.State.{Bytes, state_in, more}
use Rattle.cutter.specs.Told.{told, state_after}
use Rattle.cutter.specs.Calls.{start}
use Rattle.cutter.proofs.States.{start_allowed}
use Rattle.cutter.proofs.Feeds.{start_lines}
use Rattle.checks.proofs.Joins.{lines_few}
use Rattle.dayfile.specs.DayFile.{lines_text, starts_from}
use Rattle.intake.specs.declared.input.Input.{Input}
use Rattle.keeper.specs.Keep.{kept_after, is_past, looked_at, kept_in, Keeping, GoesOn, Roomy}
use Rattle.keeper.specs.Work.{Piece, Lines, PutAway, is_on, IsStored}
use Rattle.keeper.specs.declared.keep.Keep.{Keep}
use Rattle.keeper.specs.declared.work.Work.{Work}
use Rattle.keeper.specs.declared.shelf.Shelf.{Shelf}
use Rattle.keeper.proofs.Kept.{looked_few}
use Rattle.keeper.proofs.Told.{held_most}

-- ---- whether there is more

module _ (w : Work) where
  abbrev live : Bool
  live = w.input.live

  abbrev free : Bool
  free = w.shelf.live && not w.keep.full

  pub on_first : w.input.live ≡ true → w.shelf.live ≡ true → w.keep.full ≡ false → true ≡ is_on w
  unfolding is_on
  on_first e f g = rw (e, f, g)

  pub on_is : is_on w ≡ true → (w.input.live ≡ true) × ((w.shelf.live ≡ true) × (w.keep.full ≡ false))
  unfolding is_on
  on_is e =
      let r = and_right live free e in
      (and_left live free e, (and_left w.shelf.live (not w.keep.full) r, not-true w.keep.full (and_right w.shelf.live (not w.keep.full) r)))

  -- where all was put away, no more comes, or a line did not fit
  pub off_is : is_on w ≡ false → w.shelf.live ≡ true → (w.input.live ≡ false) ⊎ (w.keep.full ≡ true)
  unfolding is_on
  off_is e f = go w.input.live refl w.keep.full refl (rw f at e)
    where
      go : (a : Bool) → w.input.live ≡ a → (b : Bool) → w.keep.full ≡ b → (w.input.live && (true && not w.keep.full)) ≡ false
          → (w.input.live ≡ false) ⊎ (w.keep.full ≡ true)
      go false p b q r = inl p
      go true p true q r = inr q
      go true p false q r = true_false (rw (p, q)) r

-- ---- what is kept

-- no more lines than bytes, and than bytes before the unended rest
pub lines_inside : {base : ℕ} {feed held out offsets : List ℕ} {k : Keep} → Keeping base feed held out offsets k → k.lines + length (rest_of feed) ≤ length feed
lines_inside {feed = feed} c = omega (arith, c.lines, looked_few [] (lines_of feed), lines_few (Bytes []) feed, ap length (start_lines feed))

-- with nothing in the buffer that is not put away
pub put_all : {base : ℕ} {feed held out offsets : List ℕ} {k : Keep} → Keeping base feed held out offsets k → (out' : List ℕ) → Keeping k.place.at feed held out' offsets k
put_all {feed = feed} {k = k} c out' =
    let z : k.place.at - k.place.at ≡ 0 = omega arith in
    let past : length (lines_text (kept_in feed)) ≤ k.place.at = omega (arith, c.at) in
    record {
      cutter = c.cutter;
      lines = c.lines;
      full = c.full;
      count = c.count;
      at = c.at;
      starts = c.starts;
      before = omega arith;
      text = rw z (sym (drop_of_length-le (lines_text (kept_in feed)) past));
    }

-- ---- the start

no_lines : lines_of [] ≡ []
unfolding told pieces
no_lines = sym (start_lines [])

abbrev pub at_first : Keep
at_first = record { begun = start; lines = 0; place = record { at = 0; count = 0 }; full = false }

pub first_stored : (held offsets : List ℕ) → length held ≡ longest_line → (i : Input) → i.total ≡ 0 → (s : Shelf) → s.total ≡ 0
    → IsStored held offsets (record { input = i; keep = at_first; shelf = s })
unfolding kept_after is_past looked_at feed_of starts_from state_in state_after pieces more
first_stored held offsets h i e s f = (
  [],
  record {
    keeping =
        record {
          cutter = λ q. (start_allowed held h, refl);
          lines = rw no_lines;
          full = rw no_lines;
          count = rw no_lines;
          at = rw no_lines;
          starts = rw no_lines;
          before = omega arith;
          text = rw no_lines;
        };
    came = sym e;
    put = λ q. f;
  },
)

-- ---- a block

module _ (held offsets : List ℕ) (w : Work) (k : IsStored held offsets w) (on : is_on w ≡ true) where
  abbrev feed : List ℕ
  feed = k.0

  abbrev base : ℕ
  base = w.keep.place.at

  -- what came is a part that can be kept
  pub block_roomy : (part out : List ℕ) → w.input.total + length part < 2 ^ 64 → longest_line + length part ≤ length out → length offsets ≡ 65535
      → Roomy base held part out offsets w.keep
  block_roomy part out h r e =
      let going = (on_is w on).1.1 in
      let allowed = (k.1.keeping.cutter going).0 in
      record {
        going = going;
        allowed = allowed;
        few = omega (arith, lines_inside k.1.keeping, k.1.came);
        before = omega arith;
        bytes = omega (arith, held_most held w.keep.begun allowed);
        run = e;
      }

  module _ (part out held' out' offsets' : List ℕ) (k' : Keep) (x : GoesOn base held out offsets w.keep part held' out' offsets' k') where
    next : Keeping base (feed ++ part) held' out' offsets' k'
    next = x feed (put_all k.1.keeping out)

    pub block_piece : (n : ℕ) → n ≡ w.input.total + length part → Piece n w.shelf.total (take (k'.place.at - base) out')
    block_piece n e =
        let all = lines_text (kept_in (feed ++ part)) in
        let z : length (take base all) ≡ base = length-take-le base all (omega (arith, next.at, next.before)) in
        Lines (feed ++ part) (take base all) (omega (arith, e, length-append feed part, k.1.came)) (k.1.put (on_is w on).1.0 ∙ sym z)
        (sym (take-append-drop base all) ∙ ap (λ (s : List ℕ). take base all ++ s) (sym next.text))

    pub block_stored : (i : Input) → i.total ≡ w.input.total + length part → k'.place.at - base ≤ length out' → (s : Shelf)
        → PutAway w.shelf (length (take (k'.place.at - base) out')) s → IsStored held' offsets' (record { input = i; keep = k'; shelf = s })
    block_stored i e h s p = (
      feed ++ part,
      record {
        keeping = put_all next [];
        came = omega (arith, e, length-append feed part, k.1.came);
        put = λ q. omega (arith, p q, k.1.put (on_is w on).1.0, length-take-le (k'.place.at - base) out' h, next.before);
      },
    )
