-- The lines of a feed: the only ones that have that feed, and the same from whatever state its first bytes are read in. Assumes nothing.
use mathlib.Core.Path.{◌≡◌, refl, sym, ap, ◌∙◌}
use mathlib.Core.Bool.{Bool, true, false, cond, not}
use mathlib.Core.List.{List, [], ◌∷◌, ◌++◌, map, append-nil}
use Prim.Native.Nat.{ℕ}
use lib.Dec.{eqb, leb}
use lib.ListN.{length, take, drop}
use borrow.Author.Tests.{eqb-true, not-true}
use Rattle.text.proofs.Logic.{and_left, and_right}
use Rattle.shapes.specs.Cut.{up_to, has}
use Rattle.shapes.specs.Pieces.{pieces, each_after, none_has}
use Rattle.shapes.proofs.Joins.{no_cut}
use Rattle.shapes.proofs.Pieces.{pieces_after, pieces_turn, pieces_text, pieces_none, prefixed, pieces_free, pieces_cut, pieces_one}
use Rattle.rules.specs.Frame.{line_feed, longest_line}
use Rattle.cutter.specs.Feed.{feed_of, all_but_last, last, texts_of, rest_of, Whole, TooLong, line_of, lines_of}
use Rattle.cutter.specs.State.{State, Bytes, state_of, more}
use Rattle.cutter.specs.Told.{ended, told, state_after}
use Rattle.cutter.proofs.States.{more_more}

-- ---- the lines and the rest have that feed

after_feed : (p : List ℕ) (ps : List (List ℕ)) → each_after line_feed (p ∷ ps) ≡ line_feed ∷ feed_of (all_but_last (p ∷ ps)) (last (p ∷ ps))
unfolding each_after feed_of all_but_last last
after_feed p [] = rw (append-nil p)
after_feed p (q ∷ ps) = rw (after_feed q ps)

pub feed_text : (feed : List ℕ) → feed_of (texts_of feed) (rest_of feed) ≡ feed
unfolding texts_of rest_of
feed_text feed = go (pieces line_feed feed) (pieces_turn line_feed feed) (pieces_text line_feed feed)
  where
    go : (ps : List (List ℕ)) → ps ≡ take (up_to line_feed feed) feed ∷ pieces_after line_feed (drop (up_to line_feed feed) feed) → each_after line_feed ps ≡ line_feed ∷ feed
        → feed_of (all_but_last ps) (last ps) ≡ feed
    go [] t e = cc
    go (p ∷ ps) t e = let z : line_feed ∷ feed_of (all_but_last (p ∷ ps)) (last (p ∷ ps)) ≡ line_feed ∷ feed = sym (after_feed p ps) ∙ e in cc

-- none of them has a line feed
none_in : (ps : List (List ℕ)) → none_has line_feed ps ≡ true → (none_has line_feed (all_but_last ps) ≡ true) × (has line_feed (last ps) ≡ false)
unfolding none_has all_but_last last has up_to
none_in [] e = (refl, refl)
none_in (p ∷ []) e = (refl, not-true (has line_feed p) (and_left (not (has line_feed p)) true e))
none_in (p ∷ (q ∷ ps)) e =
    let r = none_in (q ∷ ps) (and_right (not (has line_feed p)) (none_has line_feed (q ∷ ps)) e) in
    (rw (and_left (not (has line_feed p)) (none_has line_feed (q ∷ ps)) e) r.0, r.1)

pub feed_none : (feed : List ℕ) → (none_has line_feed (texts_of feed) ≡ true) × (has line_feed (rest_of feed) ≡ false)
unfolding texts_of rest_of
feed_none feed = none_in (pieces line_feed feed) (pieces_none line_feed feed)

-- and no others have that feed
only_pieces : (ls : List (List ℕ)) (rest : List ℕ) → none_has line_feed ls ≡ true → has line_feed rest ≡ false → pieces line_feed (feed_of ls rest) ≡ ls ++ rest ∷ []
unfolding feed_of none_has
only_pieces [] rest e h = pieces_one line_feed rest (no_cut line_feed rest h)
only_pieces (l ∷ ls) rest e h =
    let n : has line_feed l ≡ false = not-true (has line_feed l) (and_left (not (has line_feed l)) (none_has line_feed ls) e) in
    pieces_cut line_feed l (feed_of ls rest) (no_cut line_feed l n) ∙ ap (λ (ps : List (List ℕ)). l ∷ ps) (only_pieces ls rest (and_right (not (has line_feed l)) (none_has line_feed ls) e) h)

split_last : (ls : List (List ℕ)) (rest : List ℕ) → (all_but_last (ls ++ rest ∷ []) ≡ ls) × (last (ls ++ rest ∷ []) ≡ rest)
unfolding all_but_last last
split_last [] rest = (refl, refl)
split_last (l ∷ []) rest = (refl, refl)
split_last (l ∷ (m ∷ ls)) rest = let r = split_last (m ∷ ls) rest in (rw r.0, r.1)

pub feed_only : (ls : List (List ℕ)) (rest : List ℕ) → none_has line_feed ls ≡ true → has line_feed rest ≡ false
    → (texts_of (feed_of ls rest) ≡ ls) × (rest_of (feed_of ls rest) ≡ rest)
unfolding texts_of rest_of
feed_only ls rest e h = let r = split_last ls rest in rw (only_pieces ls rest e h) (r.0, r.1)

-- ---- the lines that come from a state, and the state that is left

-- after bytes with no line feed, the same from what they make of the state
prefix_same : (h : State) (s q : List ℕ) (ps : List (List ℕ))
    → (told h (prefixed s (q ∷ ps)) ≡ told (more h s) (q ∷ ps)) × (state_after h (prefixed s (q ∷ ps)) ≡ state_after (more h s) (q ∷ ps))
unfolding told state_after
prefix_same h s q [] = (refl, sym (more_more h s q))
prefix_same h s q (p ∷ ps) = (rw (more_more h s q), refl)

module _ (h : State) (s t : List ℕ) (none : has line_feed s ≡ false) where
  pub free_same : (told h (pieces line_feed (s ++ t)) ≡ told (more h s) (pieces line_feed t)) × (state_after h (pieces line_feed (s ++ t)) ≡ state_after (more h s) (pieces line_feed t))
  free_same =
      rw (pieces_free line_feed s t (no_cut line_feed s none), pieces_turn line_feed t)
      (prefix_same h s (take (up_to line_feed t) t) (pieces_after line_feed (drop (up_to line_feed t) t)))

  -- at a line feed a line is told, and the rest is told from a line's start
  pub cut_same : (told h (pieces line_feed (s ++ line_feed ∷ t)) ≡ ended (more h s) ∷ told (Bytes []) (pieces line_feed t)) × (state_after h (pieces line_feed (s ++ line_feed ∷ t)) ≡ state_after (Bytes []) (pieces line_feed t))
  unfolding told state_after
  cut_same = rw (pieces_cut line_feed s t (no_cut line_feed s none), pieces_turn line_feed t) (refl, refl)

-- from a line's start they are the lines of the feed, and the unended rest
ended_line : (p : List ℕ) → ended (more (Bytes []) p) ≡ line_of p
unfolding more line_of
ended_line p = go (leb (length p) longest_line) refl
  where
    go : (b : Bool) → leb (length p) longest_line ≡ b → ended (state_of p) ≡ cond (leb (length p) longest_line) (Whole p) TooLong
    go true q = rw q
    go false q = rw q

told_lines : (ps : List (List ℕ)) → told (Bytes []) ps ≡ map line_of (all_but_last ps)
unfolding told all_but_last
told_lines [] = refl
told_lines (p ∷ []) = refl
told_lines (p ∷ (q ∷ ps)) = rw (ended_line p, told_lines (q ∷ ps))

pub start_lines : (feed : List ℕ) → told (Bytes []) (pieces line_feed feed) ≡ lines_of feed
unfolding lines_of texts_of
start_lines feed = told_lines (pieces line_feed feed)

left_rest : (ps : List (List ℕ)) → state_after (Bytes []) ps ≡ state_of (last ps)
unfolding state_after last more
left_rest [] = refl
left_rest (p ∷ []) = refl
left_rest (p ∷ (q ∷ ps)) = left_rest (q ∷ ps)

pub start_rest : (feed : List ℕ) → state_after (Bytes []) (pieces line_feed feed) ≡ state_of (rest_of feed)
unfolding rest_of
start_rest feed = left_rest (pieces line_feed feed)

-- ---- a text and then another: the lines of the first, and then those that come from the state that it leaves

no_feed : (x : ℕ) → eqb x line_feed ≡ false → has line_feed (x ∷ []) ≡ false
unfolding has up_to
no_feed x q = rw q

-- what is said of two texts from a state
abbrev Then : State → List ℕ → List ℕ → Type 0
Then h a b =
    (told h (pieces line_feed (a ++ b)) ≡ told h (pieces line_feed a) ++ told (state_after h (pieces line_feed a)) (pieces line_feed b))
    × (state_after h (pieces line_feed (a ++ b)) ≡ state_after (state_after h (pieces line_feed a)) (pieces line_feed b))

pub feed_then : (h : State) (a b : List ℕ) → Then h a b
unfolding told state_after pieces has up_to
feed_then h [] b = free_same h [] b refl
feed_then h (x ∷ a) b = go (eqb x line_feed) refl (feed_then (Bytes []) a b) (feed_then (more h (x ∷ [])) a b)
  where
    go : (t : Bool) → eqb x line_feed ≡ t → Then (Bytes []) a b → Then (more h (x ∷ [])) a b → Then h (x ∷ a) b
    go true q k k' =
        let e = eqb-true x line_feed q in
        let u = cut_same h [] (a ++ b) refl in
        let v = cut_same h [] a refl in
        rw e (u.0 ∙ rw (v.0, v.1, k.0), u.1 ∙ rw v.1 k.1)
    go false q k' k =
        let f = no_feed x q in
        let u = free_same h (x ∷ []) (a ++ b) f in
        let v = free_same h (x ∷ []) a f in
        (u.0 ∙ rw (v.0, v.1) k.0, u.1 ∙ rw v.1 k.1)
