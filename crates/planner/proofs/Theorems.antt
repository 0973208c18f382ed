-- DEMAND 3 ABOUT THE CALLS: whatever lines and strikes `apply` and `strike` were called with, from an empty board. Assumes nothing.
use Rattle.std.specs.Prelude.{Err, Ok, Result}
use mathlib.Core.Logic.{◌↔◌}
use mathlib.Core.Path.{◌≡◌, refl, sym, ap, ◌∙◌, subst}
use mathlib.Core.Bool.{Bool, true, false, cond}
use mathlib.Core.List.{List}
use Prim.Native.Nat.{ℕ}
use native.Mathlib.Omega.{arith}
use Rattle.text.specs.Text.{packed}
use Rattle.rules.specs.Kind.{KEY, is_form}
use Rattle.board.specs.Rows.{fits, is_listed}
use Rattle.board.specs.declared.rows.Row.{Row}
use Rattle.board.specs.Board.{rows_of, words_of, is_allowed}
use Rattle.board.proofs.Theorems.{rows_words, board_rows, allowed_words, empty_board}
use Rattle.history.specs.Events.{Event, is_event, History, ◌then◌}
use Rattle.history.specs.Steps.{Answer, Took, Refused, NoRoom, NotListed, rows_after, answer, after}
use Rattle.history.specs.Promise.{Shows, Taken}
use Rattle.history.proofs.Boards.{step_board}
use Rattle.history.proofs.Demand.{demand3}
use Rattle.line.proofs.Lines.{refusal_numbers}
use Rattle.planner.specs.Asked.{asked_of}
use Rattle.planner.specs.declared.asks.Asked.{Asked}
use Rattle.line.specs.declared.Refusal.{Refusal}
use Rattle.planner.specs.declared.asks.Asked.TheVariants as asked
use Rattle.planner.specs.Apply.{line_event, strike_event, room, apply_of, board_after, strike_of, board_struck, apply_number, strike_number}
use Rattle.planner.specs.Run.{Applies, Strikes, Run, fresh, applied, struck, AltersOne, OfCalls}
use Rattle.planner.proofs.apply.Reads as apply
use Rattle.planner.proofs.strike.Reads as struck-off
use Rattle.planner.proofs.Ways.{line_event_lem}
use Rattle.planner.specs.declared.NotStruck.TheVariants as struck
use Rattle.planner.specs.declared.NotTaken.TheVariants as line
use Rattle.planner.specs.declared.NotStruck.{NotStruck}
use Rattle.planner.specs.declared.NotTaken.{NotTaken}

-- ---- the runs are made of the promises in the source

pub apply_promise : (κs : _) (a : _) (r : _) (s : _) → apply.Post κs a r s → Applies a.0.now a.1.0.now r s.0.now
apply_promise κs a r s p = (p.0, p.1.0)

pub strike_promise : (κs : _) (a : _) (r : _) (s : _) → struck-off.Post κs a r s → Strikes a.0.now a.1.0.now r s.0.now
strike_promise κs a r s p = (p.0, p.1.0)

-- ---- one call on an allowed board

pub line_is : (s : List ℕ) → is_event (line_event s) ≡ true
unfolding line_event
line_is s = line_event_lem s (asked_of s) refl

strike_is : (s : List ℕ) → is_event (strike_event s) ≡ true
unfolding strike_event
strike_is s = go (is_form KEY s) refl
  where
    go : (b : Bool) → is_form KEY s ≡ b → is_event (strike_event s) ≡ true
    go true q = rw q
    go false q = rw q

-- the board after an event such as a line could give
pub stepped : (l l' : List ℕ) (e : Event) → is_allowed l ≡ true → is_event e ≡ true → l' ≡ words_of (rows_after (rows_of l) e) → (is_allowed l' ≡ true) × (rows_of l' ≡ rows_after (rows_of l) e)
stepped l l' e a v w =
    let b = step_board (rows_of l) e v (board_rows l a) in
    (ap is_allowed w ∙ allowed_words (rows_after (rows_of l) e) b, ap rows_of w ∙ rows_words (rows_after (rows_of l) e) b)

applied_step : (l s : List ℕ) (r : Result (Unit {0}) NotTaken) (l' : List ℕ) → is_allowed l ≡ true → Applies l s r l' → (is_allowed l' ≡ true) × (rows_of l' ≡ rows_after (rows_of l) (line_event s))
unfolding board_after
applied_step l s r l' a p = stepped l l' (line_event s) a (line_is s) (p.1 ∙ rw a)

struck_step : (l s : List ℕ) (r : Result (Unit {0}) NotStruck) (l' : List ℕ) → is_allowed l ≡ true → Strikes l s r l' → (is_allowed l' ≡ true) × (rows_of l' ≡ rows_after (rows_of l) (strike_event s))
unfolding board_struck
struck_step l s r l' a p = stepped l l' (strike_event s) a (strike_is s) (p.1 ∙ rw a)

-- ---- a run of calls

-- THE BOARD AFTER ANY RUN is allowed, and its rows are those after the history
pub run_rows : {h : History} {l : List ℕ} → Run h l → (is_allowed l ≡ true) × (rows_of l ≡ after h)
unfolding after
run_rows (fresh n e) = empty_board n e
run_rows (applied {l = l} {l' = l'} {r = r} s p c) =
    let q = run_rows p in
    let t = applied_step l s r l' q.0 c in
    (t.0, t.1 ∙ ap (λ (rs : List Row). rows_after rs (line_event s)) q.1)
run_rows (struck {l = l} {l' = l'} {r = r} s p c) =
    let q = run_rows p in
    let t = struck_step l s r l' q.0 c in
    (t.0, t.1 ∙ ap (λ (rs : List Row). rows_after rs (strike_event s)) q.1)

-- ---- what the calls answer is what the history says

heard_line : Result (Unit {0}) NotTaken → Answer
heard_line (Ok tt) = Took
heard_line (Err (line.Line x)) = Refused
heard_line (Err line.NotAllowed) = Refused
heard_line (Err line.Full) = NoRoom

heard_strike : Result (Unit {0}) NotStruck → Answer
heard_strike (Ok tt) = Took
heard_strike (Err struck.NoKey) = Refused
heard_strike (Err struck.NotAllowed) = Refused
heard_strike (Err struck.NotListed) = NotListed

heard_room : (b : Bool) → heard_line (room b) ≡ cond b Took NoRoom
unfolding heard_line
heard_room true = refl
heard_room false = refl

line_heard : (l s : List ℕ) → is_allowed l ≡ true → heard_line (apply_of l s) ≡ answer (rows_of l) (line_event s)
unfolding apply_of line_event answer heard_line
line_heard l s a = go (asked_of s) refl
  where
    go : (x : Result Asked Refusal) → asked_of s ≡ x → heard_line (apply_of l s) ≡ answer (rows_of l) (line_event s)
    go (Ok (asked.Dz k x)) e = rw (e, a) (heard_room (fits (rows_of l) k.0))
    go (Ok (asked.Az k x)) e = rw (e, a) (heard_room (fits (rows_of l) k.0))
    go (Ok (asked.Tz k x)) e = rw (e, a) (heard_room (fits (rows_of l) k.0))
    go (Ok asked.Other) e = rw (e, a)
    go (Err x) e = rw e

strike_heard : (l s : List ℕ) → is_allowed l ≡ true → heard_strike (strike_of l s) ≡ answer (rows_of l) (strike_event s)
unfolding strike_of strike_event answer heard_strike
strike_heard l s a = go (is_form KEY s) refl (is_listed (rows_of l) (packed s)) refl
  where
    go : (b : Bool) → is_form KEY s ≡ b → (c : Bool) → is_listed (rows_of l) (packed s) ≡ c → heard_strike (strike_of l s) ≡ answer (rows_of l) (strike_event s)
    go false p c q = rw p
    go true p true q = rw (p, a, q)
    go true p false q = rw (p, a, q)

refused_took : Refused ≡ Took → ⊥
refused_took e = let z : ◌≡◌ {A = ℕ} 0 1 = cc in omega arith

refused_room : Refused ≡ NoRoom → ⊥
refused_room e = let z : ◌≡◌ {A = ℕ} 0 1 = cc in omega arith

room_took : NoRoom ≡ Took → ⊥
room_took e = let z : ◌≡◌ {A = ℕ} 0 1 = cc in omega arith

listed_took : NotListed ≡ Took → ⊥
listed_took e = let z : ◌≡◌ {A = ℕ} 0 1 = cc in omega arith

-- the numbers 0 and 12 are of these answers alone
line_zero : (r : Result (Unit {0}) NotTaken) → (apply_number r ≡ 0) ↔ (heard_line r ≡ Took)
unfolding heard_line
line_zero (Ok tt) = (λ e. refl, λ e. refl)
line_zero (Err (line.Line x)) = (λ e. absurd (omega (arith, (refusal_numbers x).0, e)), λ e. absurd (refused_took e))
line_zero (Err line.NotAllowed) = (λ e. absurd (omega arith), λ e. absurd (refused_took e))
line_zero (Err line.Full) = (λ e. absurd (omega arith), λ e. absurd (room_took e))

line_twelve : (r : Result (Unit {0}) NotTaken) → (apply_number r ≡ 12) ↔ (heard_line r ≡ NoRoom)
unfolding heard_line
line_twelve (Ok tt) = (λ e. absurd (omega arith), λ e. absurd (room_took (sym e)))
line_twelve (Err (line.Line x)) = (λ e. absurd (omega (arith, (refusal_numbers x).1, e)), λ e. absurd (refused_room e))
line_twelve (Err line.NotAllowed) = (λ e. absurd (omega arith), λ e. absurd (refused_room e))
line_twelve (Err line.Full) = (λ e. refl, λ e. refl)

strike_zero : (r : Result (Unit {0}) NotStruck) → (strike_number r ≡ 0) ↔ (heard_strike r ≡ Took)
unfolding heard_strike
strike_zero (Ok tt) = (λ e. refl, λ e. refl)
strike_zero (Err struck.NoKey) = (λ e. absurd (omega arith), λ e. absurd (refused_took e))
strike_zero (Err struck.NotAllowed) = (λ e. absurd (omega arith), λ e. absurd (refused_took e))
strike_zero (Err struck.NotListed) = (λ e. absurd (omega arith), λ e. absurd (listed_took e))

-- ---- DEMAND 3 OF EVERY BOARD THAT CALLS HAVE LED TO

line_told : (h : History) (l : List ℕ) → Run h l → (s : List ℕ) (r : Result (Unit {0}) NotTaken) (l' : List ℕ) → Applies l s r l' → heard_line r ≡ answer (after h) (line_event s)
line_told h l p s r l' c =
    let q = run_rows p in
    ap heard_line c.0 ∙ line_heard l s q.0 ∙ ap (λ (rs : List Row). answer rs (line_event s)) q.1

strike_told : (h : History) (l : List ℕ) → Run h l → (s : List ℕ) (r : Result (Unit {0}) NotStruck) (l' : List ℕ) → Strikes l s r l' → heard_strike r ≡ answer (after h) (strike_event s)
strike_told h l p s r l' c =
    let q = run_rows p in
    ap heard_strike c.0 ∙ strike_heard l s q.0 ∙ ap (λ (rs : List Row). answer rs (strike_event s)) q.1

alters_one : (h : History) (l l' : List ℕ) (e : Event) → Run h l → Run (h then e) l' → AltersOne l l'
alters_one h l l' e p q =
    let a = (run_rows p).1 in
    let b = (run_rows q).1 in
    λ j k x y. demand3.one h e j k (rw (← a, ← b) x) (rw (← a, ← b) y)

through : {A B C : Type 0} → A ↔ B → B ↔ C → A ↔ C
through p q = (λ a. q.0 (p.0 a), λ c. p.1 (q.1 c))

pub calls : (h : History) (l : List ℕ) → Run h l → OfCalls h l
calls h l p =
    let q = run_rows p in
    record {
      allowed = q.0;
      shows = subst (λ (rs : List Row). Shows Taken rs h) (sym q.1) (demand3.shows h);
      line_taken = λ s r l' c. through (line_zero r) (λ e. sym (line_told h l p s r l' c) ∙ e, λ e. line_told h l p s r l' c ∙ e);
      line_full = λ s r l' c. through (through (line_twelve r) (λ e. sym (line_told h l p s r l' c) ∙ e, λ e. line_told h l p s r l' c ∙ e)) (demand3.full h (line_event s));
      strike_taken = λ s r l' c. through (strike_zero r) (λ e. sym (strike_told h l p s r l' c) ∙ e, λ e. strike_told h l p s r l' c ∙ e);
      line_one = λ s r l' c. alters_one h l l' (line_event s) p (applied s p c);
      strike_one = λ s r l' c. alters_one h l l' (strike_event s) p (struck s p c);
    }
