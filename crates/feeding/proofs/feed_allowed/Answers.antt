-- `feed_allowed` meets its contract: what was read, and what is read of what is left from the board and the state as they are now, make
-- what is read of the whole. Assumes nothing.
use Rattle.std.specs.Prelude.{Ok}
use mathlib.Core.Path.{◌≡◌, refl, sym, ap, ◌∙◌}
use mathlib.Core.Bool.{true}
use mathlib.Core.List.{List}
use Prim.Native.Nat.{ℕ, ◌+◌, ◌-◌, ◌≤◌, ◌<◌}
use native.Mathlib.Omega.{arith}
use lib.ListN.{length, take, drop, length-drop, drop_of_length-le}
use lib.Seq.{drop-drop}
use Rattle.shapes.proofs.Laws.{rest_all}
use Rattle.board.specs.Board.{is_allowed as is_board}
use Rattle.board.proofs.Allowed.{parts}
use Rattle.cutter.specs.State.{is_allowed}
use Rattle.cutter.specs.declared.Begun.{Begun}
use Rattle.cutter.proofs.States.{allowed_size}
use Rattle.feeding.specs.Tally.{read_of}
use Rattle.feeding.specs.Fed.{fed_of, board_fed, held_after}
use Rattle.feeding.specs.declared.AfterFeed.{AfterFeed}
use Rattle.feeding.proofs.Tallies.{read_none, read_zero}
use Rattle.feeding.proofs.Turns.{summed, plus_none, none_plus, plus_plus, board_still, held_still, nothing_fed, nothing_board, nothing_held, turn, Counts, counts}
use Rattle.feeding.proofs.feed_allowed.Invariants.{Inv}
use Rattle.feeding.proofs.feed_allowed.Goals as goal

start : (board held : List ℕ) (begun : Begun) (most : ℕ) (part : List ℕ) → is_board board ≡ true → is_allowed held begun ≡ true
    → Inv board held begun most part board held (record { answer = Ok tt; used = 0; begun = begun; lines = 0; taken = 0 })
start board held begun most part b a =
    let z : most - 0 ≡ most = omega arith in
    record {
      answered = refl;
      good = b;
      begins = a;
      board_size = refl;
      held_size = refl;
      at = omega arith;
      few = omega arith;
      counted = omega arith;
      less = omega arith;
      result = rw z (none_plus begun (fed_of board held begun most part));
      words = rw z;
      buffer = rw z;
    }

module _ {board₀ held₀ : List ℕ} {begun₀ : Begun} {most : ℕ} {part board held : List ℕ} {fed : AfterFeed} (v : Inv board₀ held₀ begun₀ most part board held fed) where
  abbrev rest : List ℕ
  rest = drop fed.used part

  -- nothing is left to read
  done : read_of (most - fed.lines) rest ≡ 0
      → (fed ≡ fed_of board₀ held₀ begun₀ most part) × ((board ≡ board_fed board₀ held₀ begun₀ most part) × (held ≡ held_after board₀ held₀ begun₀ most part))
  done z =
      let n = most - fed.lines in (
        sym (plus_none fed v.answered) ∙ ap (summed fed) (sym (nothing_fed board held fed.begun v.good v.begins n rest z)) ∙ v.result,
        (sym (nothing_board board held fed.begun v.good v.begins n rest z) ∙ v.words, sym (nothing_held board held fed.begun v.good v.begins n rest z) ∙ v.buffer),
      )

  read_all : length part ≤ fed.used → read_of (most - fed.lines) rest ≡ 0
  read_all h = rw (drop_of_length-le part h) (read_none (most - fed.lines))

  read_most : most ≤ fed.lines → read_of (most - fed.lines) rest ≡ 0
  read_most h = let z : most - fed.lines ≡ 0 = omega arith in rw z (read_zero rest)

  -- one turn more
  module _ (more : fed.used < length part) (fewer : fed.lines < most) (r : AfterFeed) (board' held' : List ℕ)
      (e : (r ≡ fed_of board held fed.begun 1 (take (length part - fed.used) rest))
      × ((board' ≡ board_fed board held fed.begun 1 (take (length part - fed.used) rest)) × (held' ≡ held_after board held fed.begun 1 (take (length part - fed.used) rest)))) where
    result' : r ≡ fed_of board held fed.begun 1 rest
    result' = rw (rest_all part fed.used) at e.0

    counts' : Counts board held fed.begun v.good v.begins rest r
    counts' = counts board held fed.begun v.good v.begins rest r result'

    goes_on : (0 < r.used) × (fed.used + r.used ≤ length part)
    goes_on = (counts'.goes (omega (arith, length-drop fed.used part)), omega (arith, counts'.within, length-drop fed.used part))

    again : Inv board₀ held₀ begun₀ most part board' held' (record { answer = Ok tt; used = fed.used + r.used; begun = r.begun; lines = fed.lines + r.lines; taken = fed.taken + r.taken })
    again =
        let f : board' ≡ board_fed board held fed.begun 1 rest = rw (rest_all part fed.used) at e.1.0 in
        let g : held' ≡ held_after board held fed.begun 1 rest = rw (rest_all part fed.used) at e.1.1 in
        let b : is_board board' ≡ true = rw f (board_still board held fed.begun v.good v.begins 1 rest) in
        let a : is_allowed held' r.begun ≡ true = rw (g, result') (held_still board held fed.begun v.good v.begins 1 rest) in
        let t = turn board held fed.begun v.good v.begins (most - fed.lines) rest (omega (arith, v.few)) r result' board' held' f g in
        let z : most - (fed.lines + r.lines) ≡ most - fed.lines - r.lines = omega arith in
        let d : drop (fed.used + r.used) part ≡ drop r.used rest = sym (drop-drop r.used fed.used part) in
        record {
          answered = refl;
          good = b;
          begins = a;
          board_size = (parts board' b).size ∙ sym (parts board v.good).size ∙ v.board_size;
          held_size = allowed_size held' r.begun a ∙ sym (allowed_size held fed.begun v.begins) ∙ v.held_size;
          at = goes_on.1;
          few = omega (arith, counts'.one_line, v.few);
          counted = omega (arith, counts'.lines, v.counted);
          less = omega (arith, counts'.taken, v.less);
          result = rw (z, d) (plus_plus fed r _ ∙ ap (summed fed) t.result ∙ v.result);
          words = rw (z, d) (t.words ∙ v.words);
          buffer = rw (z, d) (t.buffer ∙ v.buffer);
        }

pub loop-fed-init : goal.loop-fed-init
loop-fed-init c = start _ _ _ _ _ c.requires.board_value c.requires.begun_value

pub slice_bounds-step-count : goal.slice_bounds-step-count
slice_bounds-step-count c = c.loop-fed.invariant.at

pub slice_bounds-step-start : goal.slice_bounds-step-start
slice_bounds-step-start c = omega (arith, c.loop-fed.invariant.at)

pub step-turn-requires : goal.step-turn-requires
step-turn-requires c =
    let v = c.loop-fed.invariant in
    record { board_value = v.good; begun_value = v.begins }

pub overflow_add-fed : goal.overflow_add-fed
overflow_add-fed c =
    let n = again c.loop-fed.invariant c.loop-fed-test.true c.if-fed-most.true _ _ _ (c.step-turn.ensures.value, (c.step-turn.ensures.board_after, c.step-turn.ensures.held_after)) in
    omega (arith, n.at, c.well_formed.1.1.1.1.0.0)

pub overflow_add-fed-in-loop-fed : goal.overflow_add-fed-in-loop-fed
overflow_add-fed-in-loop-fed c =
    let n = again c.loop-fed.invariant c.loop-fed-test.true c.if-fed-most.true _ _ _ (c.step-turn.ensures.value, (c.step-turn.ensures.board_after, c.step-turn.ensures.held_after)) in
    omega (arith, n.at, n.counted, c.well_formed.1.1.1.1.0.0)

pub overflow_add-fed-in-loop-fed-2 : goal.overflow_add-fed-in-loop-fed-2
overflow_add-fed-in-loop-fed-2 c =
    let n = again c.loop-fed.invariant c.loop-fed-test.true c.if-fed-most.true _ _ _ (c.step-turn.ensures.value, (c.step-turn.ensures.board_after, c.step-turn.ensures.held_after)) in
    omega (arith, n.at, n.counted, n.less, c.well_formed.1.1.1.1.0.0)

pub loop-fed-smaller : goal.loop-fed-smaller
loop-fed-smaller c =
    let g = goes_on c.loop-fed.invariant c.loop-fed-test.true c.if-fed-most.true _ _ _ (c.step-turn.ensures.value, (c.step-turn.ensures.board_after, c.step-turn.ensures.held_after)) in
    omega (arith, g.0, g.1)

pub loop-fed-preserved : goal.loop-fed-preserved
loop-fed-preserved c =
    again c.loop-fed.invariant c.loop-fed-test.true c.if-fed-most.true _ _ _ (c.step-turn.ensures.value, (c.step-turn.ensures.board_after, c.step-turn.ensures.held_after))

pub returns-else-fed-most : goal.returns-else-fed-most
returns-else-fed-most c =
    let v = c.loop-fed.invariant in
    let both = done v (read_most v c.if-fed-most.false) in
    record { value = both.0; board_after = both.1.0; held_after = both.1.1 }

pub returns-after-loop-fed : goal.returns-after-loop-fed
returns-after-loop-fed c =
    let v = c.loop-fed.invariant in
    let both = done v (read_all v c.loop-fed-test.false) in
    record { value = both.0; board_after = both.1.0; held_after = both.1.1 }
