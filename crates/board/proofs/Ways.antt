-- What each way through `look`, `write` and `strike` leaves, said of the rows. Assumes nothing.
use Rattle.std.specs.Prelude.{Err, None, Ok, Result}
use mathlib.Core.Path.{◌≡◌, refl, sym, ap, ◌∙◌, subst}
use mathlib.Core.Bool.{Bool, true, false, cond}
use mathlib.Core.List.{List, [], ◌∷◌, ◌++◌}
use mathlib.Core.Option.{none, some}
use Prim.Native.Nat.{ℕ, suc, ◌+◌, ◌*◌, ◌-◌, ◌≤◌, ◌<◌}
use native.Mathlib.Omega.{arith}
use borrow.Author.Tests.{lt-ltb, le-ltb, ltb-true, ltb-false, ne_eqb}
use lib.ListN.{length, get_or, take, drop, set}
use lib.Dec.{ltb, eqb}
use Rattle.text.specs.Text.{spliced}
use Rattle.board.specs.Row.{row_words, row_of, is_row}
use Rattle.board.specs.Rows.{CAP, key_of, Rising, lookup, or_empty, look_row, Place, At, Gap, further, find_in, written_at, fits_at, written, fits, struck_at, is_at, struck, is_listed}
use Rattle.board.specs.declared.rows.Row.{Row}
use Rattle.board.proofs.Order.{rising_test}
use Rattle.board.specs.Slides.{slid_right, slid_left, zeroed}
use Rattle.board.specs.declared.Found.{Found}
use Rattle.board.specs.declared.Found.TheVariants as found
use Rattle.board.specs.Board.{W, rows_of, words_of, is_allowed, found_of, done_of, gone_of, done_number, struck_number}
use Rattle.board.specs.Posts.{Wrote, Stricken}
use Rattle.board.proofs.Words.{length-rows, row_there}
use Rattle.board.proofs.Boards.{replace_board, insert_board, remove_board}
use Rattle.board.proofs.Allowed.{parts}
use Rattle.board.proofs.Lookup.{above_rising, none_below}
use Rattle.board.proofs.Theorems.{words_rows, still_written, still_struck}
use Rattle.board.specs.declared.Full.{Full}
use Rattle.board.specs.declared.NotListed.{NotListed}

-- ---- what `find` answered, as a place

place_of : Found → Place
place_of (found.At i) = At i
place_of (found.Gap i) = Gap i

place_back : (p : Place) → place_of (found_of p) ≡ p
unfolding place_of
place_back (At i) = refl
place_back (Gap i) = refl

pub at_back : (p : Place) (i : ℕ) {f : Found} → f ≡ found_of p → f ≡ found.At i → p ≡ At i
unfolding place_of
at_back p i e q = sym (place_back p) ∙ ap place_of (sym e ∙ q)

pub gap_back : (p : Place) (i : ℕ) {f : Found} → f ≡ found_of p → f ≡ found.Gap i → p ≡ Gap i
unfolding place_of
gap_back p i e q = sym (place_back p) ∙ ap place_of (sym e ∙ q)

-- a place that was found is within the rows, a gap at most past their end
abbrev Within : ℕ → Place → Type 0
Within n (At i) = i < n
Within n (Gap i) = i ≤ n

within_cond : (n : ℕ) (b b' : Bool) (f : Place) → Within n f → Within (suc n) (cond b (further f) (cond b' (At 0) (Gap 0)))
within_cond n true b' (At i) h = omega arith
within_cond n true b' (Gap i) h = omega arith
within_cond n false true f h = omega arith
within_cond n false false f h = omega arith

within : (rs : List Row) (k : ℕ) → Within (length rs) (find_in rs k)
within [] k = omega arith
within (r ∷ rs) k = within_cond (length rs) (ltb (key_of r) k) (eqb (key_of r) k) (find_in rs k) (within rs k)

pub at_below : (l : List ℕ) (k i : ℕ) → find_in (rows_of l) k ≡ At i → i < get_or l 0 0
at_below l k i e =
    let h : i < length (rows_of l) = subst (Within (length (rows_of l))) e (within (rows_of l) k) in
    omega (arith, length-rows l)

pub gap_below : (l : List ℕ) (k i : ℕ) → find_in (rows_of l) k ≡ Gap i → i ≤ get_or l 0 0
gap_below l k i e =
    let h : i ≤ length (rows_of l) = subst (Within (length (rows_of l))) e (within (rows_of l) k) in
    omega (arith, length-rows l)

-- ---- the row of a key

-- what a key shows, by the place that was found: the row there, or none where keys rise
abbrev pub Stands : ℕ → List Row → Row → Place → Type 0
Stands k rs d (At i) = lookup k rs ≡ some (get_or rs i d)
Stands k rs d (Gap i) = Rising rs → lookup k rs ≡ none

stands_cond : (k : ℕ) (r : Row) (rs : List Row) (d : Row) (b : Bool) → ltb (key_of r) k ≡ b → (b' : Bool) → eqb (key_of r) k ≡ b'
    → (p : Place) → Stands k rs d p → Stands k (r ∷ rs) d (cond b (further p) (cond b' (At 0) (Gap 0)))
stands_cond k r rs d true t b' t' (At i) h =
    let lt : key_of r < k = ltb-true (key_of r) k t in
    ap (λ (b : Bool). cond b (some r) (lookup k rs)) (ne_eqb (key_of r) k (λ e. omega arith)) ∙ h
stands_cond k r rs d true t b' t' (Gap i) h = λ up.
    let lt : key_of r < k = ltb-true (key_of r) k t in
    ap (λ (b : Bool). cond b (some r) (lookup k rs)) (ne_eqb (key_of r) k (λ e. omega arith)) ∙ h (above_rising (key_of r) rs up)
stands_cond k r rs d false t true t' p h = ap (λ (b : Bool). cond b (some r) (lookup k rs)) t'
stands_cond k r rs d false t false t' p h = λ up.
    ap (λ (b : Bool). cond b (some r) (lookup k rs)) t' ∙ none_below k (key_of r) rs (ltb-false (key_of r) k t) up

pub stands : (k : ℕ) (rs : List Row) (d : Row) → Stands k rs d (find_in rs k)
stands k [] d = λ up. refl
stands k (r ∷ rs) d = stands_cond k r rs d (ltb (key_of r) k) refl (eqb (key_of r) k) refl (find_in rs k) (stands k rs d)

pub look_at : (l : List ℕ) (k i : ℕ) → find_in (rows_of l) k ≡ At i → row_of (drop (1 + W * i) l) ≡ look_row k (rows_of l)
unfolding look_row
look_at l k i e =
    let d : Row = row_of [] in
    row_there l i d (at_below l k i e) ∙ sym (ap (or_empty k) (subst (Stands k (rows_of l) d) e (stands k (rows_of l) d)))

pub look_gap : (l : List ℕ) (k i : ℕ) → is_allowed l ≡ true → find_in (rows_of l) k ≡ Gap i
    → record { key = record { 0 = k }; arrival = None; track = None } ≡ look_row k (rows_of l)
unfolding look_row
look_gap l k i a e =
    sym (ap (or_empty k) (subst (Stands k (rows_of l) (row_of [])) e (stands k (rows_of l) (row_of [])) (rising_test (rows_of l) (parts l a).rise)))

-- ---- a row is written

done_number_lem : (b : Bool) → done_number (done_of b) ≡ cond b 0 12
done_number_lem true = refl
done_number_lem false = refl

module _ (l : List ℕ) (al : is_allowed l ≡ true) (r : Row) (ok : is_row r ≡ true) (i : ℕ) where
  wrote : (d : Result (Unit {0}) Full) (l' : List ℕ) → d ≡ done_of (fits (rows_of l) (key_of r)) → l' ≡ words_of (written (rows_of l) r) → Wrote l r d l'
  wrote d l' e q = record { done = e; number = rw e (done_number_lem (fits (rows_of l) (key_of r))); words = q; still = rw q (still_written l r al ok) }

  pub write_at : find_in (rows_of l) (key_of r) ≡ At i → Wrote l r (Ok tt) (spliced l (1 + W * i) (row_words r))
  unfolding written fits
  write_at e =
      let rs : List Row = rows_of l in
      let h : i < length rs = omega (arith, length-rows l, at_below l (key_of r) i e) in
      wrote (Ok tt) (spliced l (1 + W * i) (row_words r))
      (sym (ap (λ (f : Place). done_of (fits_at f rs)) e))
      (ap (λ (x : List ℕ). spliced x (1 + W * i) (row_words r)) (sym (words_rows l al))
      ∙ replace_board rs r i h
      ∙ sym (ap (λ (f : Place). words_of (written_at f r rs)) e))

  pub write_full : find_in (rows_of l) (key_of r) ≡ Gap i → CAP ≤ get_or l 0 0 → Wrote l r (Err (record {})) l
  unfolding written fits
  write_full e full =
      let rs : List Row = rows_of l in
      let t : ltb (length rs) CAP ≡ false = le-ltb (length rs) CAP (rw length-rows full) in
      wrote (Err (record {})) l
      (sym (ap (λ (f : Place). done_of (fits_at f rs)) e ∙ ap done_of t))
      (sym (ap (λ (f : Place). words_of (written_at f r rs)) e ∙ ap (λ (b : Bool). words_of (cond b (take i rs ++ r ∷ drop i rs) rs)) t ∙ words_rows l al))

  pub write_in : find_in (rows_of l) (key_of r) ≡ Gap i → get_or l 0 0 < CAP
      → Wrote l r (Ok tt) (set (spliced (slid_right l (1 + W * i) (1 + W * get_or l 0 0) W) (1 + W * i) (row_words r)) 0 (get_or l 0 0 + 1))
  unfolding written fits
  write_in e room =
      let rs : List Row = rows_of l in
      let n : length rs ≡ get_or l 0 0 = length-rows l in
      let t : ltb (length rs) CAP ≡ true = lt-ltb (length rs) CAP (rw n room) in
      let h : i ≤ length rs = omega (arith, gap_below l (key_of r) i e) in
      wrote (Ok tt) (set (spliced (slid_right l (1 + W * i) (1 + W * get_or l 0 0) W) (1 + W * i) (row_words r)) 0 (get_or l 0 0 + 1))
      (sym (ap (λ (f : Place). done_of (fits_at f rs)) e ∙ ap done_of t))
      (ap (λ (m : ℕ). set (spliced (slid_right l (1 + W * i) (1 + W * m) W) (1 + W * i) (row_words r)) 0 (m + 1)) (sym n)
      ∙ ap (λ (x : List ℕ). set (spliced (slid_right x (1 + W * i) (1 + W * length rs) W) (1 + W * i) (row_words r)) 0 (length rs + 1)) (sym (words_rows l al))
      ∙ insert_board rs r i h (rw n room)
      ∙ sym (ap (λ (f : Place). words_of (written_at f r rs)) e ∙ ap (λ (b : Bool). words_of (cond b (take i rs ++ r ∷ drop i rs) rs)) t))

-- ---- a flight is struck

gone_number : (b : Bool) → struck_number (gone_of b) ≡ cond b 0 14
gone_number true = refl
gone_number false = refl

module _ (l : List ℕ) (al : is_allowed l ≡ true) (k i : ℕ) where
  stricken : (d : Result (Unit {0}) NotListed) (l' : List ℕ) → d ≡ gone_of (is_listed (rows_of l) k) → l' ≡ words_of (struck (rows_of l) k) → Stricken l k d l'
  stricken d l' e q = record { done = e; number = rw e (gone_number (is_listed (rows_of l) k)); words = q; still = rw q (still_struck l k al) }

  pub strike_at : find_in (rows_of l) k ≡ At i
      → Stricken l k (Ok tt) (set (zeroed (slid_left l (1 + W * i) (W * (get_or l 0 0 - (i + 1))) W) (1 + W * (get_or l 0 0 - 1)) W) 0 (get_or l 0 0 - 1))
  unfolding struck is_listed
  strike_at e =
      let rs : List Row = rows_of l in
      let n : length rs ≡ get_or l 0 0 = length-rows l in
      let h : i < length rs = omega (arith, at_below l k i e) in
      stricken (Ok tt) (set (zeroed (slid_left l (1 + W * i) (W * (get_or l 0 0 - (i + 1))) W) (1 + W * (get_or l 0 0 - 1)) W) 0 (get_or l 0 0 - 1))
      (sym (ap (λ (f : Place). gone_of (is_at f)) e))
      (ap (λ (m : ℕ). set (zeroed (slid_left l (1 + W * i) (W * (m - (i + 1))) W) (1 + W * (m - 1)) W) 0 (m - 1)) (sym n)
      ∙ ap (λ (x : List ℕ). set (zeroed (slid_left x (1 + W * i) (W * (length rs - (i + 1))) W) (1 + W * (length rs - 1)) W) 0 (length rs - 1)) (sym (words_rows l al))
      ∙ remove_board rs i h (rw n (parts l al).count)
      ∙ sym (ap (λ (f : Place). words_of (struck_at f rs)) e))

  pub strike_missing : find_in (rows_of l) k ≡ Gap i → Stricken l k (Err (record {})) l
  unfolding struck is_listed
  strike_missing e =
      stricken (Err (record {})) l (sym (ap (λ (f : Place). gone_of (is_at f)) e)) (sym (ap (λ (f : Place). words_of (struck_at f (rows_of l))) e ∙ words_rows l al))
