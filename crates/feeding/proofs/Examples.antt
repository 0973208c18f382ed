-- What the promises of `feeding` require on inputs written out, and so wrong answers that they do not allow: of each, `Post` is the function's
-- `ensures` as it stands in the source, r any result that meets it, s the state at exit. Assumes nothing.
use Prim.Native.Nat.{ℕ}
use mathlib.Core.Bool.{true, false, ◌&&◌}
use mathlib.Core.List.{List, [], ◌∷◌, ◌++◌}
use mathlib.Core.Option.{none}
use mathlib.Core.Path.{◌≡◌, refl, ap, ◌∙◌}
use lib.ListN.{length, replicate}
use borrow.Author.Tests.{ltb-true, eq-eqb}
use Rattle.text.proofs.Logic.{true_false}
use Rattle.shapes.specs.Cut.{has, up_to}
use Rattle.shapes.specs.Pieces.{pieces}
use Rattle.cutter.specs.Calls.{start}
use Rattle.cutter.specs.Feed.{Whole}
use Rattle.cutter.specs.State.{state_in, is_allowed, more}
use Rattle.cutter.specs.Told.{told}
use Rattle.cutter.specs.declared.Begun.{Begun}
use Rattle.cutter.specs.declared.Begun.TheVariants.{Held, Overlong}
use Rattle.cutter.proofs.Feeds.{cut_same}
use Rattle.cutter.proofs.States.{start_allowed}
use Rattle.board.specs.Board.{rows_of, words_of, is_allowed as is_board}
use Rattle.board.specs.Rows.{CAP, lookup, fits, written, look_row}
use Rattle.board.proofs.Examples.{word, tracked}
use Rattle.board.proofs.Theorems.{empty_board}
use Rattle.history.specs.Steps.{answer, rows_after}
use Rattle.line.specs.Read.{read_by, read_of as line_read}
use Rattle.planner.specs.Apply.{line_event}
use Rattle.planner.specs.Asked.{asked_of}
use Rattle.planner.proofs.Examples.{tz, asks, none_fits}
use Rattle.feeding.specs.Cases.{Outcome, refusing, FeedCase, BoardNotAllowed, StateNotAllowed, All, Most}
use Rattle.feeding.specs.Fed.{lines_fed, read_in, fed_with, fed_of, feed_number}
use Rattle.feeding.specs.Tally.{event_of, rows_by, taken_by, line_feeds, read_of}
use Rattle.feeding.specs.declared.AfterFeed.{AfterFeed}
use Rattle.feeding.proofs.Theorems.{reads_all}
use Rattle.feeding.proofs.Turns.{fed_ready, board_ready}
use Rattle.feeding.proofs.feed.Reads as feed
use Rattle.feeding.proofs.feed_allowed.Reads as feed-allowed

-- document 01's first example line with its line feed
abbrev ended : List ℕ
ended = tz ++ 10 ∷ []

-- what the promise says of a part on an allowed board and state, s being what is read of it
module _ (board held : List ℕ) (begun : Begun) (b : is_board board ≡ true) (h : is_allowed held begun ≡ true) (r : AfterFeed) (n : ℕ) (part s : List ℕ) (is : read_in n part ≡ s) where
  counts : r ≡ fed_of board held begun n part → (r.used ≡ read_of n part) × (r.lines ≡ line_feeds s) × (r.taken ≡ taken_by (rows_of board) (lines_fed held begun s))
  unfolding fed_with
  counts p =
      let q : r ≡ fed_with board held begun n part = p ∙ fed_ready board held begun b h n part in
      (ap (λ (x : AfterFeed). x.used) q, rw (← is) (ap (λ (x : AfterFeed). x.lines) q), rw (← is) (ap (λ (x : AfterFeed). x.taken) q))

-- the first line of the example: all of it is read, it is the line that is told, and what it makes of a board without rows
all_read : (read_in 9 ended ≡ ended) × (read_in 9 tz ≡ tz)
unfolding line_feeds
all_read = (reads_all 9 ended (ltb-true (line_feeds ended) 9 refl), reads_all 9 tz (ltb-true (line_feeds tz) 9 refl))

told_one : (held : List ℕ) → lines_fed held start ended ≡ Whole tz ∷ []
unfolding told state_in more pieces has up_to
told_one held = (cut_same (state_in held start) tz [] refl).0

pub first_line : (rows_by [] (Whole tz ∷ []) ≡ tracked ∷ []) × (taken_by [] (Whole tz ∷ []) ≡ 1)
unfolding rows_by taken_by event_of line_event rows_after answer written fits look_row CAP
first_line = (rw asks.0, rw asks.0)

-- ---- `feed`

-- a line that found no room is a line, and not taken
pub full_is_taken : (κs : _) (a : _) (r : _) (s : _) → feed.Post κs a r s → let l = a.0.now in
    is_board l ≡ true → length (rows_of l) ≡ 256 → lookup (word "QQX12") (rows_of l) ≡ none
    → length a.1.0.now ≡ 2048 → a.1.1.0 ≡ start → a.1.1.1.0 ≡ 9 → a.1.1.1.1.0.now ≡ ended → (r.lines ≡ 1) × (r.taken ≡ 0)
unfolding line_feeds taken_by event_of line_event answer
full_is_taken κs a r s p b c o h e m f =
    let q = counts a.0.now a.1.0.now start b (start_allowed a.1.0.now h) r 9 ended ended all_read.0 (p.0 ∙ rw (e, m, f)) in
    (q.1, q.2 ∙ ap (taken_by (rows_of a.0.now)) (told_one a.1.0.now) ∙ rw (asks.0, none_fits a.0.now b c o))

-- a line that no line feed ends is none
pub unended_counted : (κs : _) (a : _) (r : _) (s : _) → feed.Post κs a r s → is_board a.0.now ≡ true
    → length a.1.0.now ≡ 2048 → a.1.1.0 ≡ start → a.1.1.1.0 ≡ 9 → a.1.1.1.1.0.now ≡ tz → (r.lines ≡ 0) × (r.taken ≡ 0)
unfolding line_feeds told pieces taken_by
unended_counted κs a r s p b h e m f =
    let q = counts a.0.now a.1.0.now start b (start_allowed a.1.0.now h) r 9 tz tz all_read.1 (p.0 ∙ rw (e, m, f)) in (q.1, q.2)

-- the end of an overlong line counts as a line, and not as taken
pub overlong_is_taken : (κs : _) (a : _) (r : _) (s : _) → feed.Post κs a r s → is_board a.0.now ≡ true
    → length a.1.0.now ≡ 2048 → a.1.1.0 ≡ Overlong → a.1.1.1.0 ≡ 9 → a.1.1.1.1.0.now ≡ 10 ∷ [] → (r.lines ≡ 1) × (r.taken ≡ 0)
unfolding is_allowed read_of line_feeds told state_in more pieces taken_by event_of answer
overlong_is_taken κs a r s p b h e m f =
    let q = counts a.0.now a.1.0.now Overlong b (rw (eq-eqb (length a.1.0.now) 2048 h)) r 9 (10 ∷ []) (10 ∷ []) refl (p.0 ∙ rw (e, m, f)) in (q.1, q.2)

-- what the case of a call says of one that is refused: 13, nothing used or counted, the board as it was
refused_case : {board held : List ℕ} {begun : Begun} {n : ℕ} {part : List ℕ} {o : Outcome} → FeedCase board held begun n part o → (is_board board && is_allowed held begun) ≡ false → o ≡ refusing board held begun
refused_case (BoardNotAllowed b) e = refl
refused_case (StateNotAllowed b a) e = refl
refused_case (All b a h) e = true_false (rw (b, a)) e
refused_case (Most b a ls rest f c w) e = true_false (rw (b, a)) e

-- words that are no board are answered 13, whatever the part
pub damaged_board_is_fed : (κs : _) (a : _) (r : _) (s : _) → feed.Post κs a r s → is_board a.0.now ≡ false
    → (feed_number r.answer ≡ 13) × (r.used ≡ 0) × (r.lines ≡ 0) × (s.0.now ≡ a.0.now)
damaged_board_is_fed κs a r s p b =
    let q = refused_case p.1.1.1 (rw b) in
    (ap (λ (o : Outcome). o.number) q, ap (λ (o : Outcome). o.used) q, ap (λ (o : Outcome). o.lines) q, ap (λ (o : Outcome). o.board) q)

-- and so is a begun line of more bytes than a line may have
pub long_state_is_fed : (κs : _) (a : _) (r : _) (s : _) → feed.Post κs a r s → is_board a.0.now ≡ true
    → length a.1.0.now ≡ 2048 → a.1.1.0 ≡ Held 2049 → (feed_number r.answer ≡ 13) × (r.used ≡ 0)
unfolding is_allowed
long_state_is_fed κs a r s p b h e =
    let q = refused_case p.1.1.1 (rw (b, e, eq-eqb (length a.1.0.now) 2048 h)) in
    (ap (λ (o : Outcome). o.number) q, ap (λ (o : Outcome). o.used) q)

-- a part on an allowed board and state is answered 0, and a byte that ends no line is used
pub begun_line_is_refused : (κs : _) (a : _) (r : _) (s : _) → feed.Post κs a r s → is_board a.0.now ≡ true
    → length a.1.0.now ≡ 2048 → a.1.1.0 ≡ start → a.1.1.1.0 ≡ 1 → a.1.1.1.1.0.now ≡ 65 ∷ [] → (feed_number r.answer ≡ 0) × (r.used ≡ 1)
unfolding fed_with read_of
begun_line_is_refused κs a r s p b h e m f =
    let held = a.1.0.now in
    let q : r ≡ fed_with a.0.now held start 1 (65 ∷ []) = p.0 ∙ rw (e, m, f) (fed_ready a.0.now held start b (start_allowed held h) 1 (65 ∷ [])) in
    (ap (λ (x : AfterFeed). feed_number x.answer) q, ap (λ (x : AfterFeed). x.used) q)

-- ---- `feed_allowed`

-- a line on a board without rows is taken, and the board has its row
pub first_line_lost : (κs : _) (a : _) (r : _) (s : _) → feed-allowed.Post κs a r s → (n : ℕ) → n ≡ 2817 → a.0.now ≡ replicate n 0
    → length a.1.0.now ≡ 2048 → a.1.1.0 ≡ start → a.1.1.1.0 ≡ 9 → a.1.1.1.1.0.now ≡ ended
    → (r.taken ≡ 1) × (s.0.now ≡ words_of (tracked ∷ []))
first_line_lost κs a r s p n d g h e m f =
    let z = empty_board n d in
    let held = a.1.0.now in
    let q = counts (replicate n 0) held start z.0 (start_allowed held h) r 9 ended ended all_read.0 (p.0 ∙ rw (g, e, m, f)) in (
      q.2 ∙ rw (z.1, told_one held) first_line.1,
      p.1.0 ∙ rw (g, e, m, f) (board_ready (replicate n 0) held start z.0 (start_allowed held h) 9 ended ∙ ap words_of (rw (all_read.0, z.1, told_one held) first_line.0)),
    )

-- of two lines where one may be read the second is not, nor any byte of it; and the first, which has no reading, counts as a line and not as taken
pub one_line_too_many : (κs : _) (a : _) (r : _) (s : _) → feed-allowed.Post κs a r s → is_board a.0.now ≡ true
    → length a.1.0.now ≡ 2048 → a.1.1.0 ≡ start → a.1.1.1.0 ≡ 1 → a.1.1.1.1.0.now ≡ 65 ∷ 10 ∷ 66 ∷ 10 ∷ []
    → (r.used ≡ 2) × (r.lines ≡ 1) × (r.taken ≡ 0)
unfolding read_of line_feeds taken_by told state_in more pieces event_of line_event answer asked_of line_read read_by
one_line_too_many κs a r s p b h e m f =
    counts a.0.now a.1.0.now start b (start_allowed a.1.0.now h) r 1 (65 ∷ 10 ∷ 66 ∷ 10 ∷ []) (65 ∷ 10 ∷ []) refl (p.0 ∙ rw (e, m, f))
