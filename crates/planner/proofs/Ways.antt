-- What each way through the code of the planner leaves is what its definition says. Assumes nothing.
use Rattle.std.specs.Prelude.{Err, None, Ok, Option, Result, Some}
use Rattle.std.specs.Option.{ok_or}
use Rattle.std.specs.Result.{MatchResult, IsErrAnd}
use mathlib.Core.Path.{◌≡◌, refl, sym, ap, ◌∙◌}
use mathlib.Core.Bool.{Bool, true, false, ◌&&◌}
use mathlib.Core.List.{List}
use Prim.Native.Nat.{ℕ}
use native.Mathlib.Omega.{arith}
use Rattle.text.proofs.Logic.{and_left, and_right}
use Rattle.text.specs.Text.{packed}
use Rattle.rules.specs.Kind.{KEY, is_form}
use Rattle.fields.specs.Word.{word_of, is_word}
use Rattle.fields.specs.Typed.{as_key}
use Rattle.fields.specs.declared.flight.Key.{Key}
use Rattle.board.specs.Row.{is_arrival, is_track, has_entry, is_row}
use Rattle.board.specs.Rows.{all_rows, look_row, written, fits, is_listed}
use Rattle.board.specs.declared.rows.Row.{Row}
use Rattle.board.specs.declared.rows.Arrival.{Arrival}
use Rattle.board.specs.declared.rows.Track.{Track}
use Rattle.board.specs.Board.{rows_of, words_of, is_allowed, done_of}
use Rattle.board.specs.Posts.{Wrote, Stricken}
use Rattle.board.proofs.Theorems.{board_rows, words_rows}
use Rattle.history.specs.Events.{is_event}
use Rattle.history.specs.Steps.{by_az, by_tz, rows_after}
use Rattle.board.proofs.Kept.{looked_arrival, looked_track, fair}
use Rattle.planner.specs.Asked.{asked_of}
use Rattle.planner.proofs.AskAllowed.{asks_dz, asks_az, asks_tz}
use Rattle.line.specs.declared.Refusal.{Refusal}
use Rattle.planner.specs.declared.asks.Asked.{Asked}
use Rattle.planner.specs.declared.asks.Asked.TheVariants as asked
use Rattle.planner.specs.Apply.{event_of, line_event, told_of, room, Entered, apply_of, board_after, strike_event, strike_of, board_struck}
use Rattle.planner.specs.declared.NotStruck.TheVariants as struck
use Rattle.planner.specs.declared.NotStruck.{NotStruck}
use Rattle.planner.specs.declared.NotTaken.TheVariants as line
use Rattle.board.specs.declared.Full.{Full as BoardFull}
use Rattle.board.specs.declared.NotListed.{NotListed}
use Rattle.planner.specs.declared.NotTaken.{NotTaken}

-- ---- a row is written that is allowed

all_rows_lem : (l : List ℕ) → is_allowed l ≡ true → all_rows (rows_of l) ≡ true
all_rows_lem l e = (fair (rows_of l) (board_rows l e)).rows

some_entry : (a : Option Arrival) (t : Track) → has_entry a (Some t) ≡ true
unfolding has_entry
some_entry None t = refl
some_entry (Some a) t = refl

module _ (l : List ℕ) (e : is_allowed l ≡ true) (k : Key) (h : is_word KEY k.0 ≡ true) where
  pub dz_row : (a : Arrival) → is_arrival (Some a) ≡ true → is_row (record { key = k; arrival = Some a; track = None }) ≡ true
  unfolding is_row is_track has_entry
  dz_row a p = rw (h, p)

  pub az_row : (a : Arrival) → is_arrival (Some a) ≡ true → (o : Row) → o ≡ look_row k.0 (rows_of l)
      → is_row (record { key = k; arrival = Some a; track = o.track }) ≡ true
  unfolding is_row has_entry
  az_row a p o q = rw (h, p, q, looked_track k.0 (rows_of l) (all_rows_lem l e))

  pub tz_row : (t : Track) → is_track (Some t) ≡ true → (o : Row) → o ≡ look_row k.0 (rows_of l)
      → is_row (record { key = k; arrival = o.arrival; track = Some t }) ≡ true
  unfolding is_row
  tz_row t p o q = rw (h, p, q, looked_arrival k.0 (rows_of l) (all_rows_lem l e), some_entry (look_row k.0 (rows_of l)).arrival t)

-- ---- what is told of a row that was written

told_room : (b : Bool) → told_of (done_of b) ≡ room b
told_room true = refl
told_room false = refl

-- what a `?` gives back
pub handed_err : {E : Type 0} (r : Result (Unit {0}) E) (x : E) → IsErrAnd r (λ e. e ≡ x) → r ≡ Err x
handed_err (Ok tt) x h = absurd h
handed_err (Err e) x h = ap Err h

module _ (l : List ℕ) (k : Key) (d : Result (Unit {0}) BoardFull) (r : Result (Unit {0}) NotTaken) (told : r ≡ told_of d) (l' : List ℕ) where
  pub dz_entered : (a : Arrival) → Wrote l (record { key = k; arrival = Some a; track = None }) d l' → Entered l (Ok (asked.Dz k a)) r l'
  unfolding rows_after
  dz_entered a w = record { answered = told ∙ ap told_of w.done ∙ told_room (fits (rows_of l) k.0); words = w.words; still = w.still }

  pub az_entered : (a : Arrival) (o : Row) → o ≡ look_row k.0 (rows_of l) → Wrote l (record { key = k; arrival = Some a; track = o.track }) d l' → Entered l (Ok (asked.Az k a)) r l'
  unfolding rows_after
  az_entered a o q w =
      record {
        answered = told ∙ ap told_of w.done ∙ told_room (fits (rows_of l) k.0);
        words = w.words ∙ ap (λ (x : Row). words_of (written (rows_of l) (by_az k.0 a x))) q;
        still = w.still;
      }

  pub tz_entered : (t : Track) (o : Row) → o ≡ look_row k.0 (rows_of l) → Wrote l (record { key = k; arrival = o.arrival; track = Some t }) d l' → Entered l (Ok (asked.Tz k t)) r l'
  unfolding rows_after
  tz_entered t o q w =
      record {
        answered = told ∙ ap told_of w.done ∙ told_room (fits (rows_of l) k.0);
        words = w.words ∙ ap (λ (x : Row). words_of (written (rows_of l) (by_tz k.0 t x))) q;
        still = w.still;
      }

-- ---- `enter`

-- what is entered by one that is asked is entered by what is asked
pub entered_as : (l : List ℕ) (a b : Result Asked Refusal) (r : Result (Unit {0}) NotTaken) (l' : List ℕ) → a ≡ b → Entered l b r l' → Entered l a r l'
entered_as l a b r l' e w = rw e w

module _ (l : List ℕ) (e : is_allowed l ≡ true) where
  pub other_entered : Entered l (Ok asked.Other) (Ok tt) l
  unfolding rows_after
  other_entered = record { answered = refl; words = sym (words_rows l e); still = e }

  pub refused_entered : (x : Refusal) → Entered l (Err x) (Err (line.Line x)) l
  unfolding rows_after
  refused_entered x = record { answered = refl; words = sym (words_rows l e); still = e }

-- what an asked entry needs, from the event that it is
module _ (a : Asked) (h : is_event (event_of (Ok a)) ≡ true) where
  pub dz_needs : (k : Key) (x : Arrival) → a ≡ asked.Dz k x → (is_word KEY k.0 ≡ true) × (is_arrival (Some x) ≡ true)
  dz_needs k x e = let p : (is_word KEY k.0 && is_arrival (Some x)) ≡ true = rw e at h in (and_left _ _ p, and_right (is_word KEY k.0) _ p)

  pub az_needs : (k : Key) (x : Arrival) → a ≡ asked.Az k x → (is_word KEY k.0 ≡ true) × (is_arrival (Some x) ≡ true)
  az_needs k x e = let p : (is_word KEY k.0 && is_arrival (Some x)) ≡ true = rw e at h in (and_left _ _ p, and_right (is_word KEY k.0) _ p)

  pub tz_needs : (k : Key) (x : Track) → a ≡ asked.Tz k x → (is_word KEY k.0 ≡ true) × (is_track (Some x) ≡ true)
  tz_needs k x e = let p : (is_word KEY k.0 && is_track (Some x)) ≡ true = rw e at h in (and_left _ _ p, and_right (is_word KEY k.0) _ p)

-- a line asks only what may stand on the board
pub line_event_lem : (s : List ℕ) (a : Result Asked Refusal) → a ≡ asked_of s → is_event (event_of a) ≡ true
line_event_lem s (Ok (asked.Dz k x)) e = let p = asks_dz s k x (sym e) in rw (p.0, p.1)
line_event_lem s (Ok (asked.Az k x)) e = let p = asks_az s k x (sym e) in rw (p.0, p.1)
line_event_lem s (Ok (asked.Tz k x)) e = let p = asks_tz s k x (sym e) in rw (p.0, p.1)
line_event_lem s (Ok asked.Other) e = refl
line_event_lem s (Err x) e = refl

-- ---- `apply_allowed`

-- what `?` leaves of what was read: what is asked, or the line's own answer as the call's
abbrev pub Handed : Result Asked Refusal → Result Asked NotTaken → Type 0
Handed r h = MatchResult r (λ a. h ≡ Ok a) (λ x. IsErrAnd h (λ n. n ≡ line.Line x))

pub asked_ok : (s : List ℕ) (r : Result Asked Refusal) (a : Asked) → r ≡ asked_of s → Handed r (Ok a) → Ok a ≡ asked_of s
asked_ok s (Ok x) a e h = let z : a ≡ x = cc in ap Ok z ∙ e
asked_ok s (Err x) a e h = absurd h

pub asked_err : (s : List ℕ) (r : Result Asked Refusal) (n : NotTaken) → r ≡ asked_of s → Handed r (Err n) → (x : Refusal) × (asked_of s ≡ Err x) × (n ≡ line.Line x)
asked_err s (Ok x) n e h = let z : ◌≡◌ {A = ℕ} 0 1 = cc in let none : ⊥ = omega arith in absurd none
asked_err s (Err x) n e h = (x, sym e, h)

-- ---- `apply`

-- the board stays where the line asks nothing, or is not allowed
pub stays : (l s : List ℕ) (x : Refusal) → asked_of s ≡ Err x → l ≡ board_after l s
unfolding board_after line_event rows_after
stays l s x e = go (is_allowed l) refl
  where
    go : (b : Bool) → is_allowed l ≡ b → l ≡ board_after l s
    go true q = rw (q, e) (sym (words_rows l q))
    go false q = rw q

pub apply_refused : (l s : List ℕ) (a : Result Asked Refusal) (x : Refusal) → a ≡ asked_of s → a ≡ Err x → (Err (line.Line x) ≡ apply_of l s) × (l ≡ board_after l s)
unfolding apply_of
apply_refused l s a x is e = let q : asked_of s ≡ Err x = sym is ∙ e in (rw q, stays l s x q)

-- a line that asks something of a board that is not allowed
pub apply_damaged : (l s : List ℕ) (a : Asked) → (Ok a) ≡ asked_of s → is_allowed l ≡ false → ((Err line.NotAllowed) ≡ apply_of l s) × (l ≡ board_after l s)
unfolding apply_of board_after
apply_damaged l s a is q = rw (← is, q) (refl, refl)

pub apply_entered : (l s : List ℕ) (a : Asked) → (Ok a) ≡ asked_of s → is_allowed l ≡ true → (r : Result (Unit {0}) NotTaken) (l' : List ℕ) → Entered l (Ok a) r l'
    → (r ≡ apply_of l s) × (l' ≡ board_after l s)
unfolding apply_of board_after line_event
apply_entered l s a is q r l' w = rw (← is, q) (w.answered, w.words)

-- ---- `strike`

-- the answer in place of a key that is none
pub no_key_told : (r : Option Key) (n : NotStruck) → r ≡ None → Err n ≡ ok_or r struck.NoKey → n ≡ struck.NoKey
no_key_told None n is e = cc
no_key_told (Some k) n is e = cc

-- a key is read exactly if it has a key's form
no_key : (s : List ℕ) → as_key (word_of KEY s) ≡ None → is_form KEY s ≡ false
unfolding word_of
no_key s e = go (is_form KEY s) refl
  where
    go : (b : Bool) → is_form KEY s ≡ b → is_form KEY s ≡ false
    go true q = let z : Some (record { 0 = packed s }) ≡ None = rw q at e in cc
    go false q = q

key_word : (s : List ℕ) (k : Key) → as_key (word_of KEY s) ≡ Some k → (is_form KEY s ≡ true) × (k.0 ≡ packed s)
unfolding word_of
key_word s k e = go (is_form KEY s) refl
  where
    go : (b : Bool) → is_form KEY s ≡ b → (is_form KEY s ≡ true) × (k.0 ≡ packed s)
    go true q = let z : Some (record { 0 = packed s }) ≡ Some k = rw q at e in (q, (cc))
    go false q = let z : None ≡ Some k = rw q at e in ((cc), (cc))

module _ (l s : List ℕ) (r : Option Key) (is : r ≡ as_key (word_of KEY s)) where
  pub strike_no_key : r ≡ None → ((Err struck.NoKey) ≡ strike_of l s) × (l ≡ board_struck l s)
  unfolding strike_of board_struck strike_event rows_after
  strike_no_key e = go (is_allowed l) refl
    where
      none : is_form KEY s ≡ false
      none = no_key s (sym is ∙ e)

      go : (b : Bool) → is_allowed l ≡ b → ((Err struck.NoKey) ≡ strike_of l s) × (l ≡ board_struck l s)
      go true q = rw (none, q) (refl, sym (words_rows l q))
      go false q = rw (none, q) (refl, refl)

  module _ (k : Key) (e : r ≡ Some k) where
    pub strike_damaged : is_allowed l ≡ false → ((Err struck.NotAllowed) ≡ strike_of l s) × (l ≡ board_struck l s)
    unfolding strike_of board_struck
    strike_damaged q = rw ((key_word s k (sym is ∙ e)).0, q) (refl, refl)

    module _ (q : is_allowed l ≡ true) (d : Result (Unit {0}) NotListed) (l' : List ℕ) (w : Stricken l k.0 d l') where
      pub strike_gone : d ≡ Ok tt → ((Ok tt) ≡ strike_of l s) × (l' ≡ board_struck l s)
      unfolding strike_of board_struck strike_event rows_after
      strike_gone g = go (is_listed (rows_of l) k.0) refl
        where
          go : (b : Bool) → is_listed (rows_of l) k.0 ≡ b → ((Ok tt) ≡ strike_of l s) × (l' ≡ board_struck l s)
          go true p = let f = key_word s k (sym is ∙ e) in rw (f.0, q, ← f.1, p) (refl, w.words)
          go false p = let z : (Ok tt) ≡ Err (record {}) = sym g ∙ w.done ∙ rw p in ((cc), (cc))

      pub strike_missing : d ≡ Err (record {}) → ((Err struck.NotListed) ≡ strike_of l s) × (l' ≡ board_struck l s)
      unfolding strike_of board_struck strike_event rows_after
      strike_missing g = go (is_listed (rows_of l) k.0) refl
        where
          go : (b : Bool) → is_listed (rows_of l) k.0 ≡ b → ((Err struck.NotListed) ≡ strike_of l s) × (l' ≡ board_struck l s)
          go true p = let z : (Err (record {})) ≡ Ok tt = sym g ∙ w.done ∙ rw p in ((cc), (cc))
          go false p = let f = key_word s k (sym is ∙ e) in rw (f.0, q, ← f.1, p) (refl, w.words)
