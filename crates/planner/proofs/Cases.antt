-- THE CASES of a call of `apply` and `strike`: its number, its place and the board that it leaves are those of the document's case.
-- Assumes nothing.
use Rattle.std.specs.Prelude.{Err, Ok, Result}
use mathlib.Core.Path.{◌≡◌, refl, sym, ap, ◌∙◌, subst}
use mathlib.Core.Bool.{Bool, true, false, cond}
use mathlib.Core.List.{List}
use Prim.Native.Nat.{ℕ}
use native.Mathlib.Omega.{arith}
use Rattle.text.specs.Text.{packed}
use Rattle.text.proofs.Logic.{true_false}
use Rattle.rules.specs.Kind.{KEY, is_form}
use Rattle.line.specs.Read.{read_of, line_number, line_place}
use Rattle.line.specs.declared.Refusal.{Refusal}
use Rattle.line.proofs.Lines.{refusal_numbers}
use Rattle.board.specs.Rows.{key_of, look_row, written, fits, struck, is_listed}
use Rattle.board.specs.declared.rows.Row.{Row}
use Rattle.board.specs.Board.{rows_of, words_of, is_allowed}
use Rattle.board.proofs.Twins.{written_full}
use Rattle.board.proofs.Kept.{struck_missing}
use Rattle.board.proofs.Theorems.{words_rows}
use Rattle.history.specs.Steps.{by_dz, by_az, by_tz, rows_after}
use Rattle.planner.specs.Asked.{asked_of}
use Rattle.planner.specs.declared.asks.Asked.{Asked}
use Rattle.planner.specs.declared.asks.Asked.TheVariants as asked
use Rattle.planner.proofs.Answers.{asks_read, asks_number}
use Rattle.planner.specs.Apply.{line_event, strike_event, KeyIsAsked, room, apply_of, board_after, strike_of, board_struck, apply_number, apply_place, strike_number, strike_place}
use Rattle.planner.specs.Cases.{ApplyCase, Unread, NotAllowed, Full, Taken, StrikeCase, NoKey, StrikeNotAllowed, NotListed, Struck}
use Rattle.planner.proofs.Ways.{stays}
use Rattle.planner.specs.declared.NotTaken.TheVariants as line
use Rattle.planner.specs.declared.NotStruck.{NotStruck}
use Rattle.planner.specs.declared.NotTaken.{NotTaken}

-- the case of what `apply` gives
abbrev Own : List ℕ → List ℕ → Type 0
Own l s = ApplyCase l s (apply_number (apply_of l s)) (apply_place (apply_of l s)) (board_after l s)

module _ (l s : List ℕ) where
  refused_own : (x : Refusal) → asked_of s ≡ Err x → Own l s
  unfolding apply_of
  refused_own x e =
      let n = asks_number s x e in
      let c : ApplyCase l s (line_number (read_of s)) (line_place (read_of s)) l = Unread (λ z. omega (arith, (refusal_numbers x).0, n.0, z)) in
      rw (e, ← (stays l s x e), n.0, n.1) c

  -- a line that asks the row r of the flight k to be written
  module _ (k : ℕ) (r : Row) (key : key_of r ≡ k) (asks : KeyIsAsked (asked_of s) k) (only : (j : ℕ) → KeyIsAsked (asked_of s) j → k ≡ j) (zero : line_number (read_of s) ≡ 0)
      (is : apply_of l s ≡ cond (is_allowed l) (room (fits (rows_of l) k)) (Err line.NotAllowed)) (rows : rows_after (rows_of l) (line_event s) ≡ written (rows_of l) r) where
    put_own : Own l s
    unfolding board_after
    put_own = go (is_allowed l) refl (fits (rows_of l) k) refl
      where
        stayed : is_allowed l ≡ true → fits (rows_of l) k ≡ false → l ≡ words_of (rows_after (rows_of l) (line_event s))
        stayed q p = sym (words_rows l q) ∙ ap words_of (sym (rows ∙ written_full r (rows_of l) (rw key p)))

        go : (b : Bool) → is_allowed l ≡ b → (f : Bool) → fits (rows_of l) k ≡ f → Own l s
        go false q f p = rw (is, q) (NotAllowed zero q)
        go true q true p = rw (is, q, p) (Taken zero q (λ j a. subst (λ (n : ℕ). fits (rows_of l) n ≡ true) (only j a) p))
        go true q false p = rw (is, q, p) (subst (ApplyCase l s 12 0) (stayed q p) (Full zero q k asks p))

  other_own : asked_of s ≡ Ok asked.Other → line_number (read_of s) ≡ 0 → Own l s
  unfolding apply_of board_after
  other_own e zero = go (is_allowed l) refl
    where
      go : (b : Bool) → is_allowed l ≡ b → Own l s
      go false q = rw (e, q) (NotAllowed zero q)
      go true q = rw (e, q) (Taken zero q (λ j a. absurd (subst (λ (x : Result Asked Refusal). KeyIsAsked x j) e a)))

  apply_own : Own l s
  unfolding apply_of line_event rows_after
  apply_own = go (asked_of s) refl
    where
      go : (x : Result Asked Refusal) → asked_of s ≡ x → Own l s
      go (Err x) e = refused_own x e
      go (Ok asked.Other) e = other_own e (ap line_number (asks_read s (Ok asked.Other) e).1)
      go (Ok (asked.Dz k a)) e =
          put_own k.0 (by_dz k.0 a (look_row k.0 (rows_of l))) refl (subst (λ (x : Result Asked Refusal). KeyIsAsked x k.0) (sym e) refl)
          (λ j a. subst (λ (x : Result Asked Refusal). KeyIsAsked x j) e a) (ap line_number (asks_read s (Ok (asked.Dz k a)) e).1) (rw e) (rw e)
      go (Ok (asked.Az k a)) e =
          put_own k.0 (by_az k.0 a (look_row k.0 (rows_of l))) refl (subst (λ (x : Result Asked Refusal). KeyIsAsked x k.0) (sym e) refl)
          (λ j a. subst (λ (x : Result Asked Refusal). KeyIsAsked x j) e a) (ap line_number (asks_read s (Ok (asked.Az k a)) e).1) (rw e) (rw e)
      go (Ok (asked.Tz k a)) e =
          put_own k.0 (by_tz k.0 a (look_row k.0 (rows_of l))) refl (subst (λ (x : Result Asked Refusal). KeyIsAsked x k.0) (sym e) refl)
          (λ j a. subst (λ (x : Result Asked Refusal). KeyIsAsked x j) e a) (ap line_number (asks_read s (Ok (asked.Tz k a)) e).1) (rw e) (rw e)

-- so a call that gives this is in its case
pub in_apply_case : (l s : List ℕ) {r : (Result (Unit {0}) NotTaken)} {l' : List ℕ} → (r ≡ apply_of l s) × (l' ≡ board_after l s)
    → (r ≡ apply_of l s) × ((l' ≡ board_after l s) × ApplyCase l s (apply_number r) (apply_place r) l')
in_apply_case l s e = (e.0, (e.1, rw (e.0, e.1) (apply_own l s)))

-- ---- `strike`

strike_own : (l s : List ℕ) → StrikeCase l s (strike_number (strike_of l s)) (strike_place (strike_of l s)) (board_struck l s)
unfolding strike_of board_struck strike_event rows_after
strike_own l s = go (is_form KEY s) refl (is_allowed l) refl (is_listed (rows_of l) (packed s)) refl
  where
    stayed : is_allowed l ≡ true → is_listed (rows_of l) (packed s) ≡ false → l ≡ words_of (struck (rows_of l) (packed s))
    stayed q p = sym (words_rows l q) ∙ ap words_of (sym (struck_missing (packed s) (rows_of l) p))

    go : (f : Bool) → is_form KEY s ≡ f → (b : Bool) → is_allowed l ≡ b → (c : Bool) → is_listed (rows_of l) (packed s) ≡ c
        → StrikeCase l s (strike_number (strike_of l s)) (strike_place (strike_of l s)) (board_struck l s)
    go false f true q c p = rw (f, q) (subst (StrikeCase l s 9 1) (sym (words_rows l q)) (NoKey f))
    go false f false q c p = rw (f, q) (NoKey f)
    go true f false q c p = rw (f, q) (StrikeNotAllowed f q)
    go true f true q true p = rw (f, q, p) (Struck f q p)
    go true f true q false p = rw (f, q, p) (subst (StrikeCase l s 14 0) (stayed q p) (NotListed f q p))

pub in_strike_case : (l s : List ℕ) {r : (Result (Unit {0}) NotStruck)} {l' : List ℕ} → (r ≡ strike_of l s) × (l' ≡ board_struck l s)
    → (r ≡ strike_of l s) × ((l' ≡ board_struck l s) × StrikeCase l s (strike_number r) (strike_place r) l')
in_strike_case l s e = (e.0, (e.1, rw (e.0, e.1) (strike_own l s)))

-- ---- NO CALL IS IN TWO CASES

pub apply_one_case : {l s : List ℕ} {n i n' i' : ℕ} {b b' : List ℕ} → ApplyCase l s n i b → ApplyCase l s n' i' b' → (n ≡ n') × (i ≡ i') × (b ≡ b')
apply_one_case (Unread p) (Unread p') = (refl, refl, refl)
apply_one_case (Unread p) (NotAllowed p' a') = absurd (p p')
apply_one_case (Unread p) (Full p' a' k' h' f') = absurd (p p')
apply_one_case (Unread p) (Taken p' a' f') = absurd (p p')
apply_one_case (NotAllowed p a) (Unread p') = absurd (p' p)
apply_one_case (NotAllowed p a) (NotAllowed p' a') = (refl, refl, refl)
apply_one_case (NotAllowed p a) (Full p' a' k' h' f') = true_false a' a
apply_one_case (NotAllowed p a) (Taken p' a' f') = true_false a' a
apply_one_case (Full p a k h f) (Unread p') = absurd (p' p)
apply_one_case (Full p a k h f) (NotAllowed p' a') = true_false a a'
apply_one_case (Full p a k h f) (Full p' a' k' h' f') = (refl, refl, refl)
apply_one_case (Full p a k h f) (Taken p' a' f') = true_false (f' k h) f
apply_one_case (Taken p a f) (Unread p') = absurd (p' p)
apply_one_case (Taken p a f) (NotAllowed p' a') = true_false a a'
apply_one_case (Taken p a f) (Full p' a' k' h' f') = true_false (f k' h') f'
apply_one_case (Taken p a f) (Taken p' a' f') = (refl, refl, refl)

pub strike_one_case : {l s : List ℕ} {n i n' i' : ℕ} {b b' : List ℕ} → StrikeCase l s n i b → StrikeCase l s n' i' b' → (n ≡ n') × (i ≡ i') × (b ≡ b')
strike_one_case (NoKey f) (NoKey f') = (refl, refl, refl)
strike_one_case (NoKey f) (StrikeNotAllowed f' a') = true_false f' f
strike_one_case (NoKey f) (NotListed f' a' p') = true_false f' f
strike_one_case (NoKey f) (Struck f' a' p') = true_false f' f
strike_one_case (StrikeNotAllowed f a) (NoKey f') = true_false f f'
strike_one_case (StrikeNotAllowed f a) (StrikeNotAllowed f' a') = (refl, refl, refl)
strike_one_case (StrikeNotAllowed f a) (NotListed f' a' p') = true_false a' a
strike_one_case (StrikeNotAllowed f a) (Struck f' a' p') = true_false a' a
strike_one_case (NotListed f a p) (NoKey f') = true_false f f'
strike_one_case (NotListed f a p) (StrikeNotAllowed f' a') = true_false a a'
strike_one_case (NotListed f a p) (NotListed f' a' p') = (refl, refl, refl)
strike_one_case (NotListed f a p) (Struck f' a' p') = true_false p' p
strike_one_case (Struck f a p) (NoKey f') = true_false f f'
strike_one_case (Struck f a p) (StrikeNotAllowed f' a') = true_false a a'
strike_one_case (Struck f a p) (NotListed f' a' p') = true_false p p'
strike_one_case (Struck f a p) (Struck f' a' p') = (refl, refl, refl)
