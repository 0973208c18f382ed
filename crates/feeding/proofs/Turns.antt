-- One line more: what is read of a part is its first line, and then what is read from the board and the state that this line leaves.
-- Assumes nothing.
use Rattle.std.specs.Prelude.{Ok}
use mathlib.Core.Path.{◌≡◌, refl, sym, ap, ◌∙◌}
use mathlib.Core.Bool.{Bool, true, false, not}
use mathlib.Core.List.{List, [], ◌∷◌, ◌++◌, append-nil}
use Prim.Native.Nat.{ℕ, zero, suc, ◌+◌, ◌-◌, ◌≤◌, ◌<◌}
use native.Mathlib.Omega.{arith}
use lib.ListN.{length, take, drop, take-append-drop}
use lib.Seq.{drop-length}
use borrow.Author.Tests.{le-leb, not-true}
use Rattle.text.specs.Text.{has_room, spliced}
use Rattle.text.proofs.Logic.{and_left, and_right}
use Rattle.shapes.specs.Cut.{up_to, has, before, after}
use Rattle.shapes.specs.Pieces.{pieces, none_has}
use Rattle.shapes.proofs.Joins.{cut_whole, joined_has, joined_before, whole_has, before_none, no_cut}
use Rattle.shapes.proofs.Pieces.{pieces_turn, pieces_none, pieces_cut}
use Rattle.board.specs.Rows.{is_board as is_rows}
use Rattle.board.specs.declared.rows.Row.{Row}
use Rattle.board.specs.Board.{rows_of, words_of, is_allowed as is_board}
use Rattle.board.proofs.Theorems.{words_rows, rows_words, board_rows, allowed_words}
use Rattle.history.specs.Events.{is_event}
use Rattle.history.specs.Steps.{rows_after, answer}
use Rattle.history.proofs.Boards.{step_board}
use Rattle.planner.specs.Asked.{asked_of}
use Rattle.planner.specs.Apply.{line_event}
use Rattle.planner.proofs.Ways.{line_event_lem}
use Rattle.rules.specs.Frame.{line_feed}
use Rattle.cutter.specs.Feed.{Line, Whole, TooLong}
use Rattle.cutter.specs.State.{state_in, is_allowed, more, more_in, held_more}
use Rattle.cutter.specs.Calls.{start, held_closed, taken_of, cut_of, held_cut}
use Rattle.cutter.specs.Told.{ended, told, state_after}
use Rattle.cutter.specs.declared.Begun.{Begun}
use Rattle.cutter.specs.declared.Begun.TheVariants.{Held, Overlong}
use Rattle.cutter.proofs.States.{begins, grown}
use Rattle.cutter.proofs.Feeds.{cut_same}
use Rattle.cutter.proofs.Runs.{cut_still}
use Rattle.feeding.specs.Tally.{event_of, one, rows_by, taken_by, line_feeds, read_of}
use Rattle.feeding.specs.Fed.{held_fed, begun_fed, lines_fed, read_in, fed_with, fed_of, board_fed, held_after}
use Rattle.feeding.specs.declared.AfterFeed.{AfterFeed}
use Rattle.feeding.proofs.Tallies.{read_none, read_zero, read_le, read_some, read_free, read_cut, drop_cut, feeds_cut, feeds_read, feeds_most, lines_told, taken_le}

-- ---- no bytes change nothing

pub more_none : (held : List ℕ) (begun : Begun) → is_allowed held begun ≡ true → more_in held begun [] ≡ begun
unfolding more_in has_room
more_none held Overlong a = refl
more_none held (Held n) a =
    let z : n + 0 ≡ n = omega arith in
    rw (z, le-leb n (length held) (begins held n a).fits)

pub held_none : (held : List ℕ) (begun : Begun) → is_allowed held begun ≡ true → held_more held begun [] ≡ held
unfolding held_more has_room spliced
held_none held Overlong a = refl
held_none held (Held n) a =
    let z : n + 0 ≡ n = omega arith in
    rw (z, le-leb n (length held) (begins held n a).fits, append-nil (take n held)) (take-append-drop n held)

-- ---- what is left is allowed

-- the line that ends leaves a line's start
module _ (held : List ℕ) (begun : Begun) (a : is_allowed held begun ≡ true) (p : List ℕ) (none : up_to line_feed p ≡ length p) where
  pub closed_allowed : is_allowed (held_closed held begun p) start ≡ true
  unfolding cut_of taken_of held_cut
  closed_allowed = rw (a, joined_has line_feed p [] none, joined_before line_feed p [] none) at (cut_still held begun (p ++ line_feed ∷ []) a)

pieces_allowed : (held : List ℕ) (begun : Begun) (ps : List (List ℕ)) → none_has line_feed ps ≡ true → is_allowed held begun ≡ true → is_allowed (held_fed held begun ps) (begun_fed held begun ps) ≡ true
unfolding held_fed begun_fed none_has
pieces_allowed held begun [] n a = a
pieces_allowed held begun (p ∷ []) n a = (grown held begun p a).still (no_cut line_feed p (not-true (has line_feed p) (and_left (not (has line_feed p)) true n)))
pieces_allowed held begun (p ∷ (q ∷ ps)) n a =
    let f = no_cut line_feed p (not-true (has line_feed p) (and_left (not (has line_feed p)) (none_has line_feed (q ∷ ps)) n)) in
    pieces_allowed (held_closed held begun p) start (q ∷ ps) (and_right (not (has line_feed p)) (none_has line_feed (q ∷ ps)) n) (closed_allowed held begun a p f)

-- and the state is the one that the pieces leave
pieces_state : (held : List ℕ) (begun : Begun) (ps : List (List ℕ)) → none_has line_feed ps ≡ true → is_allowed held begun ≡ true
    → state_in (held_fed held begun ps) (begun_fed held begun ps) ≡ state_after (state_in held begun) ps
unfolding held_fed begun_fed none_has state_after state_in
pieces_state held begun [] n a = refl
pieces_state held begun (p ∷ []) n a = (grown held begun p a).state
pieces_state held begun (p ∷ (q ∷ ps)) n a =
    let f = no_cut line_feed p (not-true (has line_feed p) (and_left (not (has line_feed p)) (none_has line_feed (q ∷ ps)) n)) in
    pieces_state (held_closed held begun p) start (q ∷ ps) (and_right (not (has line_feed p)) (none_has line_feed (q ∷ ps)) n) (closed_allowed held begun a p f)

pub state_fed : (held : List ℕ) (begun : Begun) → is_allowed held begun ≡ true → (s : List ℕ)
    → state_in (held_fed held begun (pieces line_feed s)) (begun_fed held begun (pieces line_feed s)) ≡ state_after (state_in held begun) (pieces line_feed s)
state_fed held begun a s = pieces_state held begun (pieces line_feed s) (pieces_none line_feed s) a

line_is : (l : Line) → is_event (event_of l) ≡ true
unfolding event_of line_event
line_is (Whole s) = line_event_lem s (asked_of s) refl
line_is TooLong = refl

pub rows_allowed : (rs : List Row) (ls : List Line) → is_rows rs ≡ true → is_rows (rows_by rs ls) ≡ true
unfolding rows_by
rows_allowed rs [] b = b
rows_allowed rs (l ∷ ls) b = rows_allowed (rows_after rs (event_of l)) ls (step_board rs (event_of l) (line_is l) b)

module _ (board : List ℕ) (b : is_board board ≡ true) (ls : List Line) where
  pub words_allowed : is_board (words_of (rows_by (rows_of board) ls)) ≡ true
  words_allowed = allowed_words (rows_by (rows_of board) ls) (rows_allowed (rows_of board) ls (board_rows board b))

  pub words_show : rows_of (words_of (rows_by (rows_of board) ls)) ≡ rows_by (rows_of board) ls
  words_show = rows_words (rows_by (rows_of board) ls) (rows_allowed (rows_of board) ls (board_rows board b))

-- ---- an allowed board and an allowed state

module _ (board held : List ℕ) (begun : Begun) (b : is_board board ≡ true) (a : is_allowed held begun ≡ true) (n : ℕ) (part : List ℕ) where
  pub fed_ready : fed_of board held begun n part ≡ fed_with board held begun n part
  unfolding fed_of
  fed_ready = rw (b, a)

  pub board_ready : board_fed board held begun n part ≡ words_of (rows_by (rows_of board) (lines_fed held begun (read_in n part)))
  unfolding board_fed
  board_ready = rw (b, a)

  pub held_ready : held_after board held begun n part ≡ held_fed held begun (pieces line_feed (read_in n part))
  unfolding held_after
  held_ready = rw (b, a)

  -- BOTH ARE ALLOWED AGAIN
  pub board_still : is_board (board_fed board held begun n part) ≡ true
  board_still = rw board_ready (words_allowed board b (lines_fed held begun (read_in n part)))

  pub held_still : is_allowed (held_after board held begun n part) (fed_of board held begun n part).begun ≡ true
  unfolding fed_with
  held_still = rw (held_ready, fed_ready) (pieces_allowed held begun (pieces line_feed (read_in n part)) (pieces_none line_feed (read_in n part)) a)

  -- where nothing is read, nothing changes
  module _ (z : read_of n part ≡ 0) where
    pub nothing_fed : fed_of board held begun n part ≡ record { answer = Ok tt; used = 0; begun = begun; lines = 0; taken = 0 }
    unfolding fed_with pieces begun_fed told line_feeds taken_by
    nothing_fed = fed_ready ∙ rw (z, more_none held begun a)

    pub nothing_board : board_fed board held begun n part ≡ board
    unfolding pieces told rows_by
    nothing_board = board_ready ∙ rw z (words_rows board b)

    pub nothing_held : held_after board held begun n part ≡ held
    unfolding pieces held_fed
    nothing_held = held_ready ∙ rw z (held_none held begun a)

-- ---- a line ends in the part

-- what was read before, and what is read then
abbrev pub summed : AfterFeed → AfterFeed → AfterFeed
summed a b = record { answer = b.answer; used = a.used + b.used; begun = b.begun; lines = a.lines + b.lines; taken = a.taken + b.taken }

pub plus_none : (r : AfterFeed) → r.answer ≡ Ok tt → summed r (record { answer = Ok tt; used = 0; begun = r.begun; lines = 0; taken = 0 }) ≡ r
plus_none r e =
    let u : r.used + 0 ≡ r.used = omega arith in
    let l : r.lines + 0 ≡ r.lines = omega arith in
    let k : r.taken + 0 ≡ r.taken = omega arith in
    rw (u, l, k, ← e)

pub none_plus : (begun : Begun) (r : AfterFeed) → summed (record { answer = Ok tt; used = 0; begun = begun; lines = 0; taken = 0 }) r ≡ r
none_plus begun r =
    let u : 0 + r.used ≡ r.used = omega arith in
    let l : 0 + r.lines ≡ r.lines = omega arith in
    let k : 0 + r.taken ≡ r.taken = omega arith in
    rw (u, l, k)

pub plus_plus : (x y z : AfterFeed) → summed (record { answer = Ok tt; used = x.used + y.used; begun = y.begun; lines = x.lines + y.lines; taken = x.taken + y.taken }) z ≡ summed x (summed y z)
plus_plus x y z =
    let u : x.used + y.used + z.used ≡ x.used + (y.used + z.used) = omega arith in
    let l : x.lines + y.lines + z.lines ≡ x.lines + (y.lines + z.lines) = omega arith in
    let k : x.taken + y.taken + z.taken ≡ x.taken + (y.taken + z.taken) = omega arith in
    rw (u, l, k)

module _ (held : List ℕ) (begun : Begun) (p s : List ℕ) (none : up_to line_feed p ≡ length p) where
  pub next_held : held_fed held begun (pieces line_feed (p ++ line_feed ∷ s)) ≡ held_fed (held_closed held begun p) start (pieces line_feed s)
  unfolding held_fed
  next_held = rw (pieces_cut line_feed p s none, pieces_turn line_feed s)

  pub next_begun : begun_fed held begun (pieces line_feed (p ++ line_feed ∷ s)) ≡ begun_fed (held_closed held begun p) start (pieces line_feed s)
  unfolding begun_fed
  next_begun = rw (pieces_cut line_feed p s none, pieces_turn line_feed s)

  pub next_lines : lines_fed held begun (p ++ line_feed ∷ s) ≡ ended (more (state_in held begun) p) ∷ lines_fed (held_closed held begun p) start s
  unfolding state_in
  next_lines = (cut_same (state_in held begun) p s (whole_has line_feed p none)).0

module _ (board held : List ℕ) (begun : Begun) (b : is_board board ≡ true) (a : is_allowed held begun ≡ true) (p t : List ℕ) (none : up_to line_feed p ≡ length p) where
  -- the line, and what it leaves
  abbrev the_line : Line
  the_line = ended (more (state_in held begun) p)

  abbrev board₁ : List ℕ
  board₁ = words_of (rows_by (rows_of board) (the_line ∷ []))

  abbrev held₁ : List ℕ
  held₁ = held_closed held begun p

  abbrev first : AfterFeed
  first = record { answer = Ok tt; used = length p + 1; begun = start; lines = 1; taken = one (answer (rows_of board) (event_of the_line)) }

  rows₁ : rows_of board₁ ≡ rows_after (rows_of board) (event_of the_line)
  unfolding rows_by
  rows₁ = words_show board b (the_line ∷ [])

  allowed₁ : is_board board₁ ≡ true
  allowed₁ = words_allowed board b (the_line ∷ [])

  module _ (n : ℕ) where
    next_result : fed_of board held begun (suc n) (p ++ line_feed ∷ t) ≡ summed first (fed_of board₁ held₁ start n t)
    unfolding fed_with taken_by
    next_result =
        let r = read_cut n p t none in
        let e = next_lines held begun p (read_in n t) none in
        let f = next_begun held begun p (read_in n t) none in
        let g = feeds_cut p (read_in n t) none in
        fed_ready board held begun b a (suc n) (p ++ line_feed ∷ t)
        ∙ rw (fed_ready board₁ held₁ start allowed₁ (closed_allowed held begun a p none) n t, r.text, r.used, e, f, g, rows₁)

    next_words : board_fed board held begun (suc n) (p ++ line_feed ∷ t) ≡ board_fed board₁ held₁ start n t
    unfolding rows_by
    next_words =
        board_ready board held begun b a (suc n) (p ++ line_feed ∷ t)
        ∙ rw (board_ready board₁ held₁ start allowed₁ (closed_allowed held begun a p none) n t, (read_cut n p t none).text, next_lines held begun p (read_in n t) none, rows₁)

    next_buffer : held_after board held begun (suc n) (p ++ line_feed ∷ t) ≡ held_after board₁ held₁ start n t
    next_buffer =
        held_ready board held begun b a (suc n) (p ++ line_feed ∷ t)
        ∙ rw (held_ready board₁ held₁ start allowed₁ (closed_allowed held begun a p none) n t, (read_cut n p t none).text, next_held held begun p (read_in n t) none)

  -- the first alone
  first_result : fed_of board held begun 1 (p ++ line_feed ∷ t) ≡ first
  first_result =
      next_result 0
      ∙ ap (summed first) (nothing_fed board₁ held₁ start allowed₁ (closed_allowed held begun a p none) 0 t (read_zero t))
      ∙ plus_none first refl

  first_words : board_fed board held begun 1 (p ++ line_feed ∷ t) ≡ board₁
  first_words = next_words 0 ∙ nothing_board board₁ held₁ start allowed₁ (closed_allowed held begun a p none) 0 t (read_zero t)

  first_buffer : held_after board held begun 1 (p ++ line_feed ∷ t) ≡ held₁
  first_buffer = next_buffer 0 ∙ nothing_held board₁ held₁ start allowed₁ (closed_allowed held begun a p none) 0 t (read_zero t)

-- ---- ONE TURN: r, board₁ and held₁ are what one line of what is left gave

pub record Turn (board held : List ℕ) (begun : Begun) (n : ℕ) (rest : List ℕ) (r : AfterFeed) (board₁ held₁ : List ℕ) : Type 0 where
  -- what is read then makes up the whole
  pub result : summed r (fed_of board₁ held₁ r.begun (n - r.lines) (drop r.used rest)) ≡ fed_of board held begun n rest
  pub words : board_fed board₁ held₁ r.begun (n - r.lines) (drop r.used rest) ≡ board_fed board held begun n rest
  pub buffer : held_after board₁ held₁ r.begun (n - r.lines) (drop r.used rest) ≡ held_after board held begun n rest

module _ (board held : List ℕ) (begun : Begun) (b : is_board board ≡ true) (a : is_allowed held begun ≡ true) where
  cut_turn : (n : ℕ) (p t : List ℕ) → up_to line_feed p ≡ length p → (r : AfterFeed) → r ≡ fed_of board held begun 1 (p ++ line_feed ∷ t)
      → (board₁ held₁ : List ℕ) → board₁ ≡ board_fed board held begun 1 (p ++ line_feed ∷ t) → held₁ ≡ held_after board held begun 1 (p ++ line_feed ∷ t)
      → Turn board held begun (suc n) (p ++ line_feed ∷ t) r board₁ held₁
  cut_turn n p t none r e board₁ held₁ f g =
      let z : suc n - 1 ≡ n = omega arith in
      rw (e, f, g, first_result board held begun b a p t none, first_words board held begun b a p t none, first_buffer board held begun b a p t none)
      (record {
        result = rw (z, drop_cut p t) (sym (next_result board held begun b a p t none n));
        words = rw (z, drop_cut p t) (sym (next_words board held begun b a p t none n));
        buffer = rw (z, drop_cut p t) (sym (next_buffer board held begun b a p t none n));
      })

  -- no line feed is left: all is read
  module _ (rest : List ℕ) (none : up_to line_feed rest ≡ length rest) where
    same_result : (n : ℕ) → fed_of board held begun (suc n) rest ≡ fed_of board held begun 1 rest
    unfolding fed_with
    same_result n =
        fed_ready board held begun b a (suc n) rest
        ∙ rw (fed_ready board held begun b a 1 rest, (read_free n rest none).text, (read_free n rest none).used, (read_free 0 rest none).text, (read_free 0 rest none).used)

    same_words : (n : ℕ) → board_fed board held begun (suc n) rest ≡ board_fed board held begun 1 rest
    same_words n =
        board_ready board held begun b a (suc n) rest
        ∙ rw (board_ready board held begun b a 1 rest, (read_free n rest none).text, (read_free 0 rest none).text)

    same_buffer : (n : ℕ) → held_after board held begun (suc n) rest ≡ held_after board held begun 1 rest
    same_buffer n =
        held_ready board held begun b a (suc n) rest
        ∙ rw (held_ready board held begun b a 1 rest, (read_free n rest none).text, (read_free 0 rest none).text)

    all_used : (r : AfterFeed) → r ≡ fed_of board held begun 1 rest → (r.answer ≡ Ok tt) × (drop r.used rest ≡ [])
    unfolding fed_with
    all_used r e = rw (e, fed_ready board held begun b a 1 rest, (read_free 0 rest none).used) (refl, drop-length rest)

    free_turn : (n : ℕ) (r : AfterFeed) → r ≡ fed_of board held begun 1 rest → (board₁ held₁ : List ℕ) → board₁ ≡ board_fed board held begun 1 rest → held₁ ≡ held_after board held begun 1 rest
        → Turn board held begun (suc n) rest r board₁ held₁
    free_turn n r e board₁ held₁ f g =
        let u = all_used r e in
        let b₁ : is_board board₁ ≡ true = rw f (board_still board held begun b a 1 rest) in
        let a₁ : is_allowed held₁ r.begun ≡ true = rw (g, e) (held_still board held begun b a 1 rest) in
        let m = suc n - r.lines in
        record {
          result = rw (u.1, nothing_fed board₁ held₁ r.begun b₁ a₁ m [] (read_none m)) (plus_none r u.0 ∙ e ∙ sym (same_result n));
          words = rw u.1 (nothing_board board₁ held₁ r.begun b₁ a₁ m [] (read_none m) ∙ f ∙ sym (same_words n));
          buffer = rw u.1 (nothing_held board₁ held₁ r.begun b₁ a₁ m [] (read_none m) ∙ g ∙ sym (same_buffer n));
        }

  pub turn : (n : ℕ) (rest : List ℕ) → 0 < n → (r : AfterFeed) → r ≡ fed_of board held begun 1 rest → (board₁ held₁ : List ℕ) → board₁ ≡ board_fed board held begun 1 rest → held₁ ≡ held_after board held begun 1 rest
      → Turn board held begun n rest r board₁ held₁
  turn zero rest h = absurd (omega arith)
  turn (suc n) rest h = go (has line_feed rest) refl
    where
      go : (t : Bool) → has line_feed rest ≡ t → (r : AfterFeed) → r ≡ fed_of board held begun 1 rest → (board₁ held₁ : List ℕ) → board₁ ≡ board_fed board held begun 1 rest → held₁ ≡ held_after board held begun 1 rest
          → Turn board held begun (suc n) rest r board₁ held₁
      go false q = free_turn rest (no_cut line_feed rest q) n
      go true q = rw (← (cut_whole line_feed rest q)) (cut_turn n (before line_feed rest) (after line_feed rest) (before_none line_feed rest))

  -- the counts of a turn
  pub record Counts (rest : List ℕ) (r : AfterFeed) : Type 0 where
    pub within : r.used ≤ length rest
    pub goes : 0 < length rest → 0 < r.used
    pub lines : r.lines ≤ r.used
    pub one_line : r.lines ≤ 1
    pub taken : r.taken ≤ r.lines

  pub counts : (rest : List ℕ) (r : AfterFeed) → r ≡ fed_of board held begun 1 rest → Counts rest r
  unfolding fed_with
  counts rest r e =
      let s = read_in 1 rest in
      let l = lines_fed held begun s in
      rw (e, fed_ready board held begun b a 1 rest)
      (record {
        within = read_le 1 rest;
        goes = λ h. read_some 1 rest (omega arith) h;
        lines = feeds_read 1 rest;
        one_line = feeds_most 1 rest;
        taken = omega (arith, taken_le (rows_of board) l, lines_told (state_in held begun) s);
      })
