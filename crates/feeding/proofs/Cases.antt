-- THE CASES of a call of `feed`: what it came to is what its case says, and no call is in two cases. Assumes nothing.
use mathlib.Core.Path.{◌≡◌, refl, sym, ap, ◌∙◌}
use mathlib.Core.Bool.{Bool, true, false, not, ◌&&◌}
use mathlib.Core.List.{List, [], ◌∷◌, ◌++◌}
use Prim.Native.Nat.{ℕ, zero, suc, ◌≤◌, ◌<◌}
use native.Mathlib.Omega.{arith}
use lib.Dec.{eqb, ltb}
use lib.ListN.{length}
use borrow.Author.Tests.{ltb-true, ltb-false, not-true}
use Rattle.text.proofs.Logic.{and_left, and_right}
use Rattle.shapes.specs.Cut.{has, before, after}
use Rattle.shapes.specs.Pieces.{none_has}
use Rattle.shapes.proofs.Joins.{cut_whole, whole_has, before_none, no_cut}
use Rattle.board.specs.Board.{is_allowed as is_board}
use Rattle.rules.specs.Frame.{line_feed}
use Rattle.cutter.specs.Feed.{feed_of}
use Rattle.cutter.specs.State.{is_allowed}
use Rattle.cutter.specs.declared.Begun.{Begun}
use Rattle.feeding.specs.Tally.{line_feeds, read_of}
use Rattle.feeding.specs.Fed.{read_in, fed_with, fed_of, board_fed, held_after, feed_number}
use Rattle.feeding.specs.Cases.{Outcome, refusing, reading, FeedCase, BoardNotAllowed, StateNotAllowed, All, Most, outcome_of}
use Rattle.feeding.specs.declared.AfterFeed.{AfterFeed}
use Rattle.feeding.proofs.Tallies.{read_length, read_cut, feeds_free, feeds_cut}
use Rattle.feeding.proofs.Turns.{fed_ready, board_ready, held_ready, state_fed}

-- ---- what is read

-- fewer lines than may be: all
pub read_all : (n : ℕ) (s : List ℕ) → line_feeds s < n → read_in n s ≡ s
unfolding line_feeds read_of
read_all zero s h = absurd (omega arith)
read_all (suc n) [] h = refl
read_all (suc n) (x ∷ s) h = go (eqb x line_feed) refl (read_all n s) (read_all (suc n) s)
  where
    go : (t : Bool) → eqb x line_feed ≡ t → (line_feeds s < n → read_in n s ≡ s) → (line_feeds s < suc n → read_in (suc n) s ≡ s) → read_in (suc n) (x ∷ s) ≡ x ∷ s
    go true q f g = let k : suc (line_feeds s) < suc n = rw q at h in rw (q, f (omega arith))
    go false q f g = let k : line_feeds s < suc n = rw q at h in rw (q, g k)

-- so many lines, and something after them: the lines
read_lines : (ls : List (List ℕ)) (rest : List ℕ) → none_has line_feed ls ≡ true → read_in (length ls) (feed_of ls rest) ≡ feed_of ls []
unfolding none_has feed_of read_of
read_lines [] rest e = refl
read_lines (l ∷ ls) rest e =
    let n : has line_feed l ≡ false = not-true (has line_feed l) (and_left (not (has line_feed l)) (none_has line_feed ls) e) in
    (read_cut (length ls) l (feed_of ls rest) (no_cut line_feed l n)).text
    ∙ ap (λ (t : List ℕ). l ++ line_feed ∷ t) (read_lines ls rest (and_right (not (has line_feed l)) (none_has line_feed ls) e))

pub read_those : (n : ℕ) (s : List ℕ) (ls : List (List ℕ)) (rest : List ℕ) → none_has line_feed ls ≡ true → length ls ≡ n → s ≡ feed_of ls rest → read_in n s ≡ feed_of ls []
read_those n s ls rest e c w = rw (← c, w) (read_lines ls rest e)

-- as many line feeds as may be: so many lines
record Lines (n : ℕ) (s : List ℕ) : Type 0 where
  texts : List (List ℕ)
  rest : List ℕ
  none : none_has line_feed texts ≡ true
  count : length texts ≡ n
  whole : s ≡ feed_of texts rest

lines : (n : ℕ) (s : List ℕ) → n ≤ line_feeds s → Lines n s
unfolding none_has feed_of
lines zero s h = record { texts = []; rest = s; none = refl; count = refl; whole = refl }
lines (suc n) s h = go (has line_feed s) refl (lines n (after line_feed s))
  where
    go : (t : Bool) → has line_feed s ≡ t → (n ≤ line_feeds (after line_feed s) → Lines n (after line_feed s)) → Lines (suc n) s
    go false q r = absurd (omega (arith, h, feeds_free s (no_cut line_feed s q)))
    go true q r =
        let p = before line_feed s in
        let f = before_none line_feed s in
        let w : p ++ line_feed ∷ after line_feed s ≡ s = cut_whole line_feed s q in
        let k = r (omega (arith, h, ap line_feeds w, feeds_cut p (after line_feed s) f)) in
        record {
          texts = p ∷ k.texts;
          rest = k.rest;
          none = rw (whole_has line_feed p f, k.none);
          count = omega (arith, k.count);
          whole = sym w ∙ ap (λ (t : List ℕ). p ++ line_feed ∷ t) k.whole;
        }

-- ---- THE CASE OF `feed`

module _ (board held : List ℕ) (begun : Begun) (n : ℕ) (part : List ℕ) where
  abbrev called : Outcome
  called = outcome_of (fed_of board held begun n part) (board_fed board held begun n part) (held_after board held begun n part)

  read_outcome : is_board board ≡ true → is_allowed held begun ≡ true → called ≡ reading board held begun (read_in n part)
  unfolding fed_with
  read_outcome b a =
      rw (fed_ready board held begun b a n part, board_ready board held begun b a n part, held_ready board held begun b a n part, state_fed held begun a (read_in n part), read_length n part)

  no_outcome : (is_board board && is_allowed held begun) ≡ false → called ≡ refusing board held begun
  unfolding fed_of board_fed held_after
  no_outcome e = rw e

  pub feed_case : FeedCase board held begun n part called
  feed_case = go (is_board board) refl (is_allowed held begun) refl (ltb (line_feeds part) n) refl
    where
      go : (x : Bool) → is_board board ≡ x → (y : Bool) → is_allowed held begun ≡ y → (z : Bool) → ltb (line_feeds part) n ≡ z → FeedCase board held begun n part called
      go false b y a z h = rw (no_outcome (rw b)) (BoardNotAllowed b)
      go true b false a z h = rw (no_outcome (rw (b, a))) (StateNotAllowed b a)
      go true b true a true h =
          let k = ltb-true (line_feeds part) n h in
          rw (read_outcome b a, read_all n part k) (All b a k)
      go true b true a false h =
          let k = lines n part (ltb-false (line_feeds part) n h) in
          rw (read_outcome b a, read_those n part k.texts k.rest k.none k.count k.whole) (Most b a k.texts k.rest k.none k.count k.whole)

  -- a call that gives this is in its case
  pub in_feed_case : {r : AfterFeed} {board' held' : List ℕ}
      → (r ≡ fed_of board held begun n part) × ((board' ≡ board_fed board held begun n part) × (held' ≡ held_after board held begun n part))
      → (r ≡ fed_of board held begun n part) × ((board' ≡ board_fed board held begun n part) × ((held' ≡ held_after board held begun n part)
      × FeedCase board held begun n part (outcome_of r board' held')))
  in_feed_case e = (e.0, (e.1.0, (e.1.1, rw (e.0, e.1.0, e.1.1) feed_case)))

  -- NO CALL IS IN TWO CASES: what a case says is what the call came to
  pub case_one : {o : Outcome} → FeedCase board held begun n part o → o ≡ called
  case_one (BoardNotAllowed b) = sym (no_outcome (rw b))
  case_one (StateNotAllowed b a) = sym (no_outcome (rw (b, a)))
  case_one (All b a h) = rw (read_outcome b a, read_all n part h)
  case_one (Most b a ls rest e c w) = rw (read_outcome b a, read_those n part ls rest e c w)

  -- 13 leaves both as they were
  pub fed_back : feed_number (fed_of board held begun n part).answer ≡ 13
      → (board_fed board held begun n part ≡ board) × (held_after board held begun n part ≡ held) × ((fed_of board held begun n part).begun ≡ begun) × ((fed_of board held begun n part).used ≡ 0)
  unfolding fed_of board_fed held_after fed_with
  fed_back e = go (is_board board && is_allowed held begun) refl
    where
      go : (x : Bool) → (is_board board && is_allowed held begun) ≡ x
          → (board_fed board held begun n part ≡ board) × (held_after board held begun n part ≡ held) × ((fed_of board held begun n part).begun ≡ begun) × ((fed_of board held begun n part).used ≡ 0)
      go false q = rw q (refl, refl, refl, refl)
      go true q = let z : ◌≡◌ {A = ℕ} 0 13 = rw q at e in absurd (omega arith)
