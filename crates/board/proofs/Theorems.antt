-- Words and rows: a board's words are those of the rows that `is_board` allows and no others, and each gives the other
-- back, so two boards are equal exactly if their rows are. The board without rows; what a refused call leaves.
-- Assumes nothing.
use Rattle.std.specs.Prelude.{Err}
use mathlib.Core.Path.{◌≡◌, refl, sym, ap, ◌∙◌}
use mathlib.Core.Bool.{Bool, true, false}
use mathlib.Core.List.{List, [], ◌∷◌, ◌++◌}
use Prim.Native.Nat.{ℕ, suc, ◌+◌, ◌*◌, ◌-◌, ◌≤◌}
use native.Mathlib.Omega.{arith}
use lib.ListN.{length, get_or, take, drop, replicate, length-append, length-drop, length-replicate, take-append-drop}
use lib.Seq.{drop-drop, drop-cons, drop_at}
use Rattle.board.specs.Row.{is_row}
use Rattle.board.specs.Rows.{CAP, key_of, all_rows, is_board, rises, written, fits, struck, is_listed}
use Rattle.board.specs.declared.rows.Row.{Row}
use Rattle.board.proofs.Order.{rising_test, test_rising}
use Rattle.board.specs.Board.{W, flat, read_rows, rows_of, words_of, all_zero, is_allowed, done_of, gone_of}
use Rattle.board.specs.Posts.{Wrote, Stricken}
use Rattle.board.proofs.Words.{length-flat, length-read, length-rows, flat_read, all_read, read_flat, hold_flat}
use Rattle.board.proofs.Allowed.{cap_is, parts, whole, zeros_after, zero_tests}
use Rattle.board.proofs.Twins.{written_full}
use Rattle.board.proofs.Kept.{fair, board_of, keep_written, keep_struck, struck_missing}

-- ---- rows, their words, and the rows that these show

rows_back : (rs : List Row) → all_rows rs ≡ true → rows_of (words_of rs) ≡ rs
unfolding rows_of words_of
rows_back rs a = read_flat rs (replicate (W * CAP - W * length rs) 0) a

pub rows_words : (rs : List Row) → is_board rs ≡ true → rows_of (words_of rs) ≡ rs
rows_words rs e = rows_back rs (fair rs e).rows

pub allowed_words : (rs : List Row) → is_board rs ≡ true → is_allowed (words_of rs) ≡ true
unfolding words_of
allowed_words rs e =
    let p = fair rs e in
    whole (words_of rs) (record {
      size = size p.count;
      count = p.count;
      hold = hold_flat rs (replicate (W * CAP - W * length rs) 0) p.rows;
      rise = ap rises (rows_back rs p.rows) ∙ test_rising rs p.rising;
      rest = ap all_zero (sym (drop-drop (W * length rs) 1 (words_of rs)) ∙ drop_at (flat rs) (replicate (W * CAP - W * length rs) 0) (W * length rs) (length-flat rs))
          ∙ zero_tests (W * CAP - W * length rs);
    })
  where
    size : length rs ≤ CAP → length (words_of rs) ≡ 1 + W * CAP
    size h = ap suc (length-append (flat rs) (replicate (W * CAP - W * length rs) 0)) ∙ simp length-replicate (omega (arith, length-flat rs))

-- ---- words, the rows that they show, and their words again

pub words_rows : (l : List ℕ) → is_allowed l ≡ true → words_of (rows_of l) ≡ l
unfolding rows_of words_of
words_rows l e =
    let p = parts l e in
    let n : ℕ = get_or l 0 0 in
    let ws : List ℕ = drop 1 l in
    let sz : length l ≡ 1 + W * CAP = p.size in
    let cn : n ≤ CAP = p.count in
    let room : W * n ≤ length ws = simp length-drop (omega arith) in
    ap (λ (k : ℕ). k ∷ (flat (read_rows n ws) ++ replicate (W * CAP - W * k) 0)) (length-read n ws)
    ∙ ap (λ (x : List ℕ). n ∷ (x ++ replicate (W * CAP - W * n) 0)) (flat_read n ws p.hold room)
    ∙ ap (λ (x : List ℕ). n ∷ (take (W * n) ws ++ x)) (sym (zeros_after l p) ∙ sym (drop-drop (W * n) 1 l))
    ∙ ap (λ (x : List ℕ). n ∷ x) (take-append-drop (W * n) ws)
    ∙ sym (drop-cons l 0 0 (omega arith))

pub board_rows : (l : List ℕ) → is_allowed l ≡ true → is_board (rows_of l) ≡ true
unfolding rows_of
board_rows l e =
    let p = parts l e in
    let sz : length l ≡ 1 + W * CAP = p.size in
    let cn : get_or l 0 0 ≤ CAP = p.count in
    board_of (rows_of l) (record {
      count = rw (length-rows l) cn;
      rows = all_read (get_or l 0 0) (drop 1 l) p.hold (simp length-drop (omega arith));
      rising = rising_test (rows_of l) p.rise;
    })

-- ---- "A board is allowed exactly if ..", "two boards are equal if their rows are"

-- the words are those of rows that a board may have
pub record Shows (l : List ℕ) : Type 0 where
  pub rows : List Row
  pub board : is_board rows ≡ true
  pub words : l ≡ words_of rows

pub allowed_rows : (l : List ℕ) → (is_allowed l ≡ true → Shows l) × (Shows l → is_allowed l ≡ true)
allowed_rows l = (
  λ e. record { rows = rows_of l; board = board_rows l e; words = sym (words_rows l e) },
  λ s. rw s.words (allowed_words s.rows s.board),
)

pub same_board : (l l' : List ℕ) → is_allowed l ≡ true → is_allowed l' ≡ true → (l ≡ l' → rows_of l ≡ rows_of l') × (rows_of l ≡ rows_of l' → l ≡ l')
same_board l l' e e' = (λ q. ap rows_of q, λ q. sym (words_rows l e) ∙ ap words_of q ∙ words_rows l' e')

-- ---- the board without rows

no_rows : is_board [] ≡ true
unfolding all_rows
no_rows = board_of [] (record { count = omega (arith, cap_is); rows = refl; rising = tt })

empty_words : (n : ℕ) → n ≡ 2817 → replicate n 0 ≡ words_of []
unfolding words_of flat
empty_words n e =
    let s : n ≡ suc (W * CAP - W * 0) = omega (arith, cap_is) in
    ap (λ (k : ℕ). replicate k 0) s

pub empty_board : (n : ℕ) → n ≡ 2817 → (is_allowed (replicate n 0) ≡ true) × (rows_of (replicate n 0) ≡ [])
empty_board n e = (ap is_allowed (empty_words n e) ∙ allowed_words [] no_rows, ap rows_of (empty_words n e) ∙ rows_words [] no_rows)

-- ---- a call leaves a board, and a refused call leaves every word as it was

pub still_written : (l : List ℕ) (r : Row) → is_allowed l ≡ true → is_row r ≡ true → is_allowed (words_of (written (rows_of l) r)) ≡ true
still_written l r e h = allowed_words (written (rows_of l) r) (keep_written (rows_of l) r (board_rows l e) h)

pub still_struck : (l : List ℕ) (k : ℕ) → is_allowed l ≡ true → is_allowed (words_of (struck (rows_of l) k)) ≡ true
still_struck l k e = allowed_words (struck (rows_of l) k) (keep_struck (rows_of l) k (board_rows l e))

pub write_refused : (l l' : List ℕ) (r : Row) → is_allowed l ≡ true → Wrote l r (Err (record {})) l' → l' ≡ l
write_refused l l' r e w = w.words ∙ ap words_of (written_full r (rows_of l) (by (fits (rows_of l) (key_of r)) w.done)) ∙ words_rows l e
  where
    by : (b : Bool) → Err (record {}) ≡ done_of b → b ≡ false
    by true q = cc
    by false q = refl

pub strike_refused : (l l' : List ℕ) (k : ℕ) → is_allowed l ≡ true → Stricken l k (Err (record {})) l' → l' ≡ l
strike_refused l l' k e w = w.words ∙ ap words_of (struck_missing k (rows_of l) (by (is_listed (rows_of l) k) w.done)) ∙ words_rows l e
  where
    by : (b : Bool) → Err (record {}) ≡ gone_of b → b ≡ false
    by true q = cc
    by false q = refl
