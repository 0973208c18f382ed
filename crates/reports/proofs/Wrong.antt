-- WHAT MUST NOT PASS, as document 01 names it: no reader that refuses all lines, or reads every line as one message, no board that never
-- changes, or applies the first line and then only nods, and no printer that makes up LINES or TAKEN meets the promises. Assumes nothing.
use Rattle.std.specs.Prelude.{Err, Ok, Result}
use Prim.Native.Nat.{ℕ, ◌<◌, ◌≤◌, ◌^◌}
use native.Mathlib.Omega.{arith}
use mathlib.Core.Path.{◌≡◌, refl, sym, ap, ◌∙◌}
use mathlib.Core.List.{List, [], ◌∷◌, ◌++◌}
use lib.Dec.{eqb}
use lib.ListN.{length, get_or, drop, replicate}
use lib.Seq.{drop_at}
use Rattle.text.specs.Bytes.{bytes}
use Rattle.text.specs.Class.{is_digit, is_letter}
use Rattle.text.specs.Code.{code_of}
use Rattle.text.specs.Number.{number_of}
use Rattle.text.specs.Place.{value}
use Rattle.text.specs.Text.{packed}
use Rattle.text.proofs.Logic.{true_false}
use Rattle.shapes.specs.Cut.{up_to, before, after}
use Rattle.shapes.proofs.Joins.{has_no, joined_before, joined_after}
use Rattle.board.specs.Row.{row_words, arrival_words, track_words}
use Rattle.board.specs.Board.{flat, rows_of, words_of}
use Rattle.board.proofs.Theorems.{rows_words, empty_board}
use Rattle.board.proofs.Examples.{tracked, one_row}
use Rattle.messages.specs.declared.Message.{Message}
use Rattle.line.specs.Read.{read_of}
use Rattle.line.proofs.read.Reads as read
use Rattle.planner.specs.Asked.{asked_by, asked_from, asked_of}
use Rattle.planner.specs.declared.asks.Asked.{Asked}
use Rattle.planner.specs.declared.asks.Asked.TheVariants as asked
use Rattle.planner.proofs.Answers.{unread_refused}
use Rattle.planner.specs.Run.{Applies}
use Rattle.planner.proofs.Examples.{tz, dz, hb, landed, asks, tz_after, dz_after}
use Rattle.printer.specs.RowText.{line_text}
use Rattle.text.specs.Decimal.{decimal}
use Rattle.text.proofs.Decimal.{decimal_number, decimal_digits}
use Rattle.printer.specs.Text.{board_text, counts_text}
use Rattle.cutter.specs.Feed.{lines_of}
use Rattle.feeding.specs.Fed.{read_in}
use Rattle.feeding.proofs.Tallies.{feeds_most, taken_le}
use Rattle.reports.specs.Report.{rows_after_feed, lines_in, taken_in, report_of}
use Rattle.reports.proofs.Joins.{feeds_are}
use Rattle.planner.specs.declared.NotTaken.{NotTaken}
use Rattle.line.specs.declared.Refusal.{Refusal}

-- ---- READERS: what answers each line as `line::read` promises, which is the promise in the source

abbrev Reads : List ℕ → Result Message Refusal → Type 0
Reads s r = r ≡ read_of s

pub read_promise : (κs : _) (a : _) (r : _) (s : _) → read.Post κs a r s → Reads a.0.now r
read_promise κs a r s p = p.0

-- a line without a reading asks nothing but to be refused
abbrev kind : Result Asked Refusal → ℕ
kind (Err x) = 0
kind (Ok asked.Other) = 1
kind (Ok (asked.Dz k a)) = 2
kind (Ok (asked.Az k a)) = 3
kind (Ok (asked.Tz k t)) = 4

module _ (reader : List ℕ → Result Message Refusal) (promise : (s : List ℕ) → Reads s (reader s)) where
  is_read : (s : List ℕ) → 1 ≤ kind (asked_of s) → ((m : Message) → reader s ≡ Ok m → ⊥) → ⊥
  is_read s k none = let q = unread_refused s (λ m e. none m (promise s ∙ e)) in omega (arith, k, ap kind q.1)

  hb_read : ((m : Message) → reader hb ≡ Ok m → ⊥) → ⊥
  hb_read = is_read hb (rw asks.2 (omega arith))

  -- "a reader that refuses all lines": the starred heartbeat is read
  pub refuses_all : ((s : List ℕ) (m : Message) → reader s ≡ Ok m → ⊥) → ⊥
  refuses_all none = hb_read (none hb)

  -- "or reads every line as one message": the heartbeat and the first line of the printed example are read, as two
  pub reads_all_as_one : (one : Message) → ((s : List ℕ) (m : Message) → reader s ≡ Ok m → m ≡ one) → ⊥
  unfolding asked_of
  reads_all_as_one one same =
      hb_read (λ m e. is_read tz (rw asks.0 (omega arith)) (λ n f.
      let q : kind (asked_of hb) ≡ kind (asked_of tz) = ap kind (as_one hb m e ∙ sym (as_one tz n f)) in omega (arith, rw (asks.2, asks.0) at q)))
    where
      as_one : (s : List ℕ) (m : Message) → reader s ≡ Ok m → asked_of s ≡ Ok (asked_by one)
      as_one s m e = ap asked_from (sym (promise s) ∙ e ∙ ap Ok (same s m e))

-- ---- BOARDS: what answers each line, and leaves the words, as `planner::apply` promises (`apply_promise`)

module _ (answer : List ℕ → List ℕ → Result (Unit {0}) NotTaken) (next : List ℕ → List ℕ → List ℕ) (promise : (l s : List ℕ) → Applies l s (answer l s) (next l s)) where
  -- from a board without rows, n words of 0
  module _ (n : ℕ) (e : n ≡ 2817) where
    first : next (replicate n 0) tz ≡ words_of (tracked ∷ [])
    first = (promise (replicate n 0) tz).1 ∙ tz_after n e

    -- "a board that never changes": the first line of the printed example changes it
    pub never_changes : ((s : List ℕ) → next (replicate n 0) s ≡ replicate n 0) → ⊥
    never_changes same =
        let q : ◌≡◌ {A = ℕ} 0 1 = ap length (sym (empty_board n e).1 ∙ ap rows_of (sym (same tz) ∙ first) ∙ rows_words (tracked ∷ []) one_row) in omega arith

    -- "or that applies the first line and then only nods": after that line the second, a DZ, changes it again
    pub first_then_nods : ((s t : List ℕ) → next (next (replicate n 0) s) t ≡ next (replicate n 0) s) → ⊥
    unfolding words_of flat row_words arrival_words track_words packed value code_of is_digit is_letter
    first_then_nods same =
        let q : words_of (landed ∷ []) ≡ words_of (tracked ∷ []) = sym dz_after ∙ sym (promise (words_of (tracked ∷ [])) dz).1 ∙ rw first at (same tz dz) in
        true_false (ap (λ (l : List ℕ). eqb (get_or l 2 0) 0) q) refl

-- ---- PRINTERS: the report is fixed by the feed, and with it both numbers

abbrev rest : ℕ → List ℕ
rest t = bytes "TAKEN" ++ 32 ∷ (decimal t ++ 10 ∷ [])

module _ (k t : ℕ) (h : k < 10 ^ 20) (g : t < 10 ^ 20) where
  no_space_lem : up_to 32 (decimal k) ≡ length (decimal k)
  unfolding is_digit
  no_space_lem = has_no 32 is_digit refl (decimal k) (decimal_digits k h)

  lines_digits : before 32 (drop 6 (counts_text k t)) ≡ decimal k
  unfolding counts_text line_text
  lines_digits = joined_before 32 (decimal k) (rest t) no_space_lem

  taken_digits : before 10 (drop 6 (after 32 (drop 6 (counts_text k t)))) ≡ decimal t
  unfolding counts_text line_text is_digit
  taken_digits =
      ap (λ (s : List ℕ). before 10 (drop 6 s)) (joined_after 32 (decimal k) (rest t) no_space_lem)
      ∙ joined_before 10 (decimal t) [] (has_no 10 is_digit refl (decimal t) (decimal_digits t g))

same_number : (k n : ℕ) → k < 10 ^ 20 → n < 10 ^ 20 → decimal k ≡ decimal n → k ≡ n
same_number k n h g e = sym (decimal_number k h) ∙ ap (number_of 10) e ∙ decimal_number n g

-- "a printer that makes up LINES or TAKEN": if the text of the board and then any two numbers is the report that `report_printed` speaks of, they
-- are the line feeds that were read and the lines that were taken
module _ (limit : ℕ) (small : limit < 10 ^ 20) (feed : List ℕ) (lines taken : ℕ) (h : lines < 10 ^ 20) (g : taken < 10 ^ 20)
    (printed : board_text (rows_after_feed (read_in limit feed)) ++ counts_text lines taken ≡ report_of limit feed) where
  both : (lines ≡ lines_in (read_in limit feed)) × (taken ≡ taken_in (read_in limit feed))
  unfolding report_of
  both =
      let s = read_in limit feed in
      let b = board_text (rows_after_feed s) in
      let l : lines_in s < 10 ^ 20 = omega (arith, feeds_most limit feed) in
      let t : taken_in s < 10 ^ 20 = omega (arith, feeds_most limit feed, taken_le [] (lines_of s), feeds_are s) in
      let q : counts_text lines taken ≡ counts_text (lines_in s) (taken_in s) =
      sym (drop_at b (counts_text lines taken) (length b) refl) ∙ ap (drop (length b)) printed ∙ drop_at b (counts_text (lines_in s) (taken_in s)) (length b) refl in (
        same_number lines (lines_in s) h l (sym (lines_digits lines taken h g) ∙ ap (λ (x : List ℕ). before 32 (drop 6 x)) q
            ∙ lines_digits (lines_in s) (taken_in s) l t),
        same_number taken (taken_in s) g t (sym (taken_digits lines taken h g) ∙ ap (λ (x : List ℕ). before 10 (drop 6 (after 32 (drop 6 x)))) q
            ∙ taken_digits (lines_in s) (taken_in s) l t),
      )

  pub lines_made_up : lines ≡ lines_in (read_in limit feed)
  lines_made_up = both.0

  pub taken_made_up : taken ≡ taken_in (read_in limit feed)
  taken_made_up = both.1
