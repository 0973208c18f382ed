-- THE REPORT OF A FEED: whatever the parts in which it is read, what is printed then is fixed by its bytes. Assumes nothing.
use Rattle.std.specs.Prelude.{Ok, Result}
use mathlib.Core.Path.{◌≡◌, refl, sym, ap, ◌∙◌}
use mathlib.Core.Bool.{true}
use mathlib.Core.List.{List, [], ◌++◌}
use Prim.Native.Nat.{ℕ, ◌+◌, ◌-◌, ◌≤◌}
use native.Mathlib.Omega.{arith}
use borrow.Author.Tests.{le-leb}
use lib.ListN.{length, length-append}
use Rattle.shapes.specs.Pieces.{pieces}
use Rattle.text.specs.Text.{has_room, spliced, written_next, written_bytes}
use Rattle.text.proofs.Splice.{length-spliced, spliced_next}
use Rattle.printer.specs.Text.{counts_text}
use Rattle.printer.specs.Print.{text_in, print_of, out_after}
use Rattle.printer.proofs.print.Reads as print
use Rattle.printer.proofs.print_counts.Reads as counts
use Rattle.board.specs.Board.{rows_of, is_allowed as is_board}
use Rattle.board.proofs.Theorems.{empty_board}
use Rattle.rules.specs.Frame.{line_feed}
use Rattle.cutter.specs.Feed.{all_but_last, texts_of, lines_of}
use Rattle.cutter.specs.State.{Bytes, state_in, is_allowed, more}
use Rattle.cutter.specs.Told.{state_after}
use Rattle.cutter.specs.declared.Begun.{Begun}
use Rattle.cutter.proofs.States.{start_allowed}
use Rattle.cutter.proofs.Feeds.{feed_then, start_lines}
use Rattle.feeding.specs.Tally.{rows_by, taken_by, line_feeds}
use Rattle.feeding.specs.Fed.{read_in, lines_fed, fed_with, fed_of, board_fed, held_after}
use Rattle.feeding.proofs.Tallies.{feeds_most, taken_le}
use Rattle.feeding.proofs.Turns.{fed_ready, board_ready, held_ready, board_still, held_still, words_show, state_fed}
use Rattle.reports.specs.Report.{rows_after_feed, lines_in, taken_in, report_of}
use Rattle.reports.specs.Run.{Read, begin, go_on, Prints, Counts}
use Rattle.reports.proofs.Joins.{rows_then, taken_then, feeds_then, feeds_are, read_empty, read_then}
use Rattle.printer.specs.declared.NotPrinted.{NotPrinted}
use Rattle.text.specs.declared.NotWritten.{NotWritten}

-- what stands after the parts of a feed have been read
pub record Stands (limit : ℕ) (feed board held : List ℕ) (begun : Begun) (lines taken : ℕ) : Type 0 where
  pub board_allowed : is_board board ≡ true
  pub state_allowed : is_allowed held begun ≡ true
  pub rows : rows_of board ≡ rows_after_feed (read_in limit feed)
  pub state : state_in held begun ≡ state_after (Bytes []) (pieces line_feed (read_in limit feed))
  pub lines_are : lines ≡ lines_in (read_in limit feed)
  pub taken_are : taken ≡ taken_in (read_in limit feed)

-- ---- one call more: s is what was read before it, t what it reads

module _ (board held : List ℕ) (begun : Begun) (b : is_board board ≡ true) (a : is_allowed held begun ≡ true) (n : ℕ) (part s t : List ℕ) (is-t : read_in n part ≡ t) (h : state_in held begun ≡ state_after (Bytes []) (pieces line_feed s)) where
  -- the lines of both are those of s, and then those that the call tells of
  pub lines_both : lines_of (s ++ t) ≡ lines_of s ++ lines_fed held begun t
  lines_both = sym (start_lines (s ++ t)) ∙ (feed_then (Bytes []) s t).0 ∙ rw (start_lines s, h)

  rows_both : rows_of board ≡ rows_after_feed s → rows_of (board_fed board held begun n part) ≡ rows_after_feed (s ++ t)
  rows_both r =
      ap rows_of (board_ready board held begun b a n part) ∙ words_show board b (lines_fed held begun (read_in n part))
      ∙ rw (is-t, r, lines_both, rows_then [] (lines_of s) (lines_fed held begun t))

  taken_both : (k : ℕ) → rows_of board ≡ rows_after_feed s → k ≡ taken_in s → k + (fed_of board held begun n part).taken ≡ taken_in (s ++ t)
  unfolding fed_with
  taken_both k r e = rw (fed_ready board held begun b a n part, is-t, r, e, lines_both, taken_then [] (lines_of s) (lines_fed held begun t))

  lines_count : (k : ℕ) → k ≡ lines_in s → k + (fed_of board held begun n part).lines ≡ lines_in (s ++ t)
  unfolding fed_with
  lines_count k e = rw (fed_ready board held begun b a n part, is-t, e, feeds_then s t)

  state_both : state_in (held_after board held begun n part) (fed_of board held begun n part).begun ≡ state_after (Bytes []) (pieces line_feed (s ++ t))
  unfolding fed_with
  state_both =
      rw (held_ready board held begun b a n part, fed_ready board held begun b a n part, is-t, (feed_then (Bytes []) s t).1, ← h)
      (state_fed held begun a t)

-- ---- any run of calls

pub read_stands : (limit : ℕ) {feed board held : List ℕ} {begun : Begun} {lines taken : ℕ} → Read limit feed board held begun lines taken → Stands limit feed board held begun lines taken
unfolding rows_by taken_by line_feeds state_after state_in lines_of texts_of all_but_last pieces more
read_stands limit (begin n held e f) =
    let z = read_empty limit in
    let y = empty_board n e in
    record {
      board_allowed = y.0;
      state_allowed = start_allowed held f;
      rows = rw (z, y.1);
      state = rw z;
      lines_are = rw z;
      taken_are = rw z;
    }
read_stands limit (go_on {feed} {board} {held} {begun} {lines} {taken} part p c) =
    let q = read_stands limit p in
    let s = read_in limit feed in
    let n = limit - lines in
    let z : read_in limit (feed ++ part) ≡ s ++ read_in n part = rw q.lines_are (read_then limit feed part) in
    let b = q.board_allowed in
    let a = q.state_allowed in
    record {
      board_allowed = rw c.words (board_still board held begun b a n part);
      state_allowed = rw (c.buffer, c.result) (held_still board held begun b a n part);
      rows = rw (c.words, z) (rows_both board held begun b a n part s (read_in n part) refl q.state q.rows);
      state = rw (c.buffer, c.result, z) (state_both board held begun b a n part s (read_in n part) refl q.state);
      lines_are = rw (c.result, z) (lines_count board held begun b a n part s (read_in n part) refl q.state lines q.lines_are);
      taken_are = rw (c.result, z) (taken_both board held begun b a n part s (read_in n part) refl q.state taken q.rows q.taken_are);
    }

-- every feed can be read so, in whatever parts: what has been read, and any part more
pub record Readable (limit : ℕ) (feed : List ℕ) : Type 0 where
  pub board : List ℕ
  pub held : List ℕ
  pub begun : Begun
  pub lines : ℕ
  pub taken : ℕ
  pub read : Read limit feed board held begun lines taken

pub any_part : (limit : ℕ) (feed part : List ℕ) → Readable limit feed → Readable limit (feed ++ part)
any_part limit feed part p =
    let n = limit - p.lines in
    let r = fed_of p.board p.held p.begun n part in
    record {
      board = board_fed p.board p.held p.begun n part;
      held = held_after p.board p.held p.begun n part;
      begun = r.begun;
      lines = p.lines + r.lines;
      taken = p.taken + r.taken;
      read = go_on part p.read (record { result = refl; words = refl; buffer = refl });
    }

-- no more lines than the limit, and no more taken than lines
pub read_bounds : (limit : ℕ) {feed board held : List ℕ} {begun : Begun} {lines taken : ℕ} → Read limit feed board held begun lines taken → (lines ≤ limit) × (taken ≤ lines)
read_bounds limit {feed} p =
    let q = read_stands limit p in
    let s = read_in limit feed in
    (omega (arith, q.lines_are, feeds_most limit feed), omega (arith, q.lines_are, q.taken_are, taken_le [] (lines_of s), feeds_are s))

-- ---- printed

-- the promises of `print` and `print_counts` in the source
pub print_promise : (κs : _) (a : _) (r : _) (s : _) → print.Post κs a r s → Prints a.0.now a.1.0.now a.1.1.0 r s.1.0.now
print_promise κs a r s p = (p.0, p.1.0)

pub counts_promise : (κs : _) (a : _) (r : _) (s : _) → counts.Post κs a r s → Counts a.0 a.1.0 a.1.1.0.now a.1.1.1.0 r s.1.1.0.now
counts_promise κs a r s p = (p.0, p.1.0)

-- the board's text, and then the counts, where both fit
module _ (board out : List ℕ) (at : ℕ) (b : is_board board ≡ true) (line : List ℕ) (room : at + length (text_in board ++ line) ≤ length out) where
  fits_first : at + length (text_in board) ≤ length out
  fits_first = omega (arith, length-append (text_in board) line)

  room_first : has_room (text_in board) out at ≡ true
  unfolding has_room
  room_first = le-leb (at + length (text_in board)) (length out) fits_first

  first : (print_of board out at ≡ Ok (at + length (text_in board))) × (out_after board out at ≡ spliced out at (text_in board))
  unfolding print_of out_after
  first = (rw (b, room_first), rw (b, room_first))

  room_second : has_room line (spliced out at (text_in board)) (at + length (text_in board)) ≡ true
  unfolding has_room
  room_second =
      le-leb (at + length (text_in board) + length line) (length (spliced out at (text_in board)))
      (omega (arith, length-spliced out (text_in board) at fits_first, length-append (text_in board) line))

  second : (written_next true line (spliced out at (text_in board)) (at + length (text_in board)) ≡ Ok (at + length (text_in board ++ line)))
      × (written_bytes true line (spliced out at (text_in board)) (at + length (text_in board)) ≡ spliced out at (text_in board ++ line))
  unfolding written_next written_bytes
  second =
      (rw room_second (ap Ok (omega (arith, length-append (text_in board) line))), rw room_second (spliced_next out (text_in board) line at fits_first))

-- THE REPORT: after the calls, `print` at a place and `print_counts` after it write the report of the feed there, where it fits, and every
-- other byte stays
pub report_printed : (limit : ℕ) {feed board held : List ℕ} {begun : Begun} {lines taken : ℕ} → Read limit feed board held begun lines taken
    → (out : List ℕ) (at : ℕ) → at + length (report_of limit feed) ≤ length out
    → (r : Result ℕ NotPrinted) (out₁ : List ℕ) → Prints board out at r out₁
    → (r ≡ Ok (at + length (text_in board)))
    × ((w : Result ℕ NotWritten) (out₂ : List ℕ) → Counts lines taken out₁ (at + length (text_in board)) w out₂
    → (w ≡ Ok (at + length (report_of limit feed))) × (out₂ ≡ spliced out at (report_of limit feed)))
unfolding report_of
report_printed limit {feed} {board} {held} {begun} {lines} {taken} p out at room r out₁ c =
    let q = read_stands limit p in
    let z : report_of limit feed ≡ text_in board ++ counts_text lines taken = rw (q.rows, q.lines_are, q.taken_are) in
    let k : at + length (text_in board ++ counts_text lines taken) ≤ length out = rw z at room in
    let f = first board out at q.board_allowed (counts_text lines taken) k in
    let g = second board out at q.board_allowed (counts_text lines taken) k in
    (c.0 ∙ f.0, λ w out₂ d. (d.0 ∙ rw (c.1, f.1, z) g.0, d.1 ∙ rw (c.1, f.1, z) g.1))
