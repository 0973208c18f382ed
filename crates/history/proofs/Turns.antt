-- What one event does to the row that each key shows, and to the order and the number of the rows. Assumes nothing.
use Prim.Native.Nat.{ℕ, ◌≤◌}
use native.Mathlib.Omega.{arith}
use mathlib.Core.Logic.{inl, inr}
use mathlib.Core.Path.{◌≡◌, refl, sym, ap, ◌∙◌, subst}
use mathlib.Core.Bool.{Bool, true, false, cond}
use mathlib.Core.List.{List}
use mathlib.Core.Option.{Option, none, some}
use borrow.Author.Tests.{eqb-true, eqb-false}
use lib.ListN.{length}
use lib.Dec.{eqb}
use Rattle.board.specs.Rows.{CAP, key_of, Rising, lookup, or_empty, look_row, written, fits, struck}
use Rattle.board.specs.declared.rows.Row.{Row}
use Rattle.history.specs.Events.{Event, dz, az, tz, other, unread, strike, misnamed, History, start, ◌then◌}
use Rattle.history.specs.Steps.{Took, NoRoom, Ask, Put, Strike, Nothing, by_dz, by_az, by_tz, ask, rows_by, answer_by, rows_after, answer, after}
use Rattle.history.specs.Demand.{For, for_dz, for_az, for_tz, StrikeOf, the_strike, About}
use Rattle.board.proofs.Lookup.{written_shown, written_others, struck_none, struck_others}
use Rattle.board.proofs.Twins.{written_full}
use Rattle.board.proofs.Rising.{written_rising, struck_rising}
use Rattle.board.proofs.Places.{written_room, struck_room}

-- two things that cannot be equal are
pub clash : {X : Type 0} → ◌≡◌ {A = ℕ} 0 1 → X
clash z = absurd (omega arith)

-- the document's number
pub cap_is : CAP ≡ 256
unfolding CAP
cap_is = refl

-- ---- the flight of a line

abbrev pub line_flight : Event → Option ℕ
line_flight (dz k a) = some k
line_flight (az k a) = some k
line_flight (tz k t) = some k
line_flight other = none
line_flight unread = none
line_flight (strike k) = none
line_flight misnamed = none

pub for_flight : {k : ℕ} {e : Event} → For k e → line_flight e ≡ some k
for_flight for_dz = refl
for_flight for_az = refl
for_flight for_tz = refl

pub flight_for : (k : ℕ) (e : Event) → line_flight e ≡ some k → For k e
flight_for k (dz j a) q = let s : j ≡ k = cc in subst (λ (i : ℕ). For i (dz j a)) s for_dz
flight_for k (az j a) q = let s : j ≡ k = cc in subst (λ (i : ℕ). For i (az j a)) s for_az
flight_for k (tz j t) q = let s : j ≡ k = cc in subst (λ (i : ℕ). For i (tz j t)) s for_tz
flight_for k other q = clash (cc)
flight_for k unread q = clash (cc)
flight_for k (strike j) q = clash (cc)
flight_for k misnamed q = clash (cc)

pub strike_is : {k : ℕ} {e : Event} → StrikeOf k e → e ≡ strike k
strike_is the_strike = refl

pub strike_flight : {k : ℕ} {e : Event} → StrikeOf k e → line_flight e ≡ none
strike_flight the_strike = refl

pub strike_for : {j k : ℕ} {e : Event} → StrikeOf j e → For k e → ⊥
strike_for s f = clash (cc (strike_flight s, for_flight f))

-- the row that a line makes of the one that its flight has
abbrev pub row_by : Event → Row → Row
row_by (dz k a) r = by_dz k a r
row_by (az k a) r = by_az k a r
row_by (tz k t) r = by_tz k t r
row_by other r = r
row_by unread r = r
row_by (strike k) r = r
row_by misnamed r = r

-- ---- the rows of a history

pub step_rising : (rs : List Row) (e : Event) → Rising rs → Rising (rows_after rs e)
unfolding rows_after
step_rising rs e h = go (ask rs e)
  where
    go : (q : Ask) → Rising (rows_by rs q)
    go (Put r) = written_rising r rs h
    go (Strike k) = struck_rising k rs h
    go (Nothing a) = h

pub step_room : (rs : List Row) (e : Event) → length rs ≤ CAP → length (rows_after rs e) ≤ CAP
unfolding rows_after
step_room rs e h = go (ask rs e)
  where
    go : (q : Ask) → length (rows_by rs q) ≤ CAP
    go (Put r) = written_room r rs h
    go (Strike k) = struck_room k rs h
    go (Nothing a) = h

pub after_rising : (h : History) → Rising (after h)
unfolding after
after_rising start = tt
after_rising (h then e) = step_rising (after h) e (after_rising h)

pub after_room : (h : History) → length (after h) ≤ CAP
unfolding after
after_room start = omega arith
after_room (h then e) = step_room (after h) e (after_room h)

-- ---- the row that a key shows, or the one with no entries

pub look_some : (k : ℕ) (rs : List Row) (r : Row) → lookup k rs ≡ some r → look_row k rs ≡ r
unfolding look_row
look_some k rs r q = ap (or_empty k) q

pub look_none : (k : ℕ) (rs : List Row) → lookup k rs ≡ none → look_row k rs ≡ or_empty k none
unfolding look_row
look_none k rs q = ap (or_empty k) q

pub look_same : (k : ℕ) (rs ss : List Row) → lookup k rs ≡ lookup k ss → look_row k rs ≡ look_row k ss
unfolding look_row
look_same k rs ss q = ap (or_empty k) q

-- ---- one event and one key

-- how the rows rs' that an event makes of rs show a key: its row is written, or gone, or as it was
pub data RowTurn (rs rs' : List Row) (e : Event) (k : ℕ) : Type 0 where
  put : For k e → answer rs e ≡ Took → lookup k rs' ≡ some (row_by e (look_row k rs)) → RowTurn rs rs' e k
  gone : StrikeOf k e → lookup k rs' ≡ none → RowTurn rs rs' e k
  kept : (For k e → answer rs e ≡ Took → ⊥) → (StrikeOf k e → ⊥) → lookup k rs' ≡ lookup k rs → RowTurn rs rs' e k

put_turn : (rs : List Row) (e : Event) (r : Row) → line_flight e ≡ some (key_of r) → ask rs e ≡ Put r → row_by e (look_row (key_of r) rs) ≡ r
    → (k : ℕ) → RowTurn rs (rows_after rs e) e k
unfolding rows_after answer
put_turn rs e r key q w k = go (eqb (key_of r) k) refl (fits rs (key_of r)) refl
  where
    rows : rows_after rs e ≡ written rs r
    rows = ap (rows_by rs) q

    told : (b : Bool) → fits rs (key_of r) ≡ b → answer rs e ≡ cond b Took NoRoom
    told b t = ap (answer_by rs) q ∙ ap (λ (b : Bool). cond b Took NoRoom) t

    unstruck : StrikeOf k e → ⊥
    unstruck s = clash (cc (strike_flight s))

    go : (b : Bool) → eqb (key_of r) k ≡ b → (d : Bool) → fits rs (key_of r) ≡ d → RowTurn rs (rows_after rs e) e k
    go true t true u =
        let s : key_of r ≡ k = eqb-true (key_of r) k t in
        put (flight_for k e (key ∙ ap some s)) (told true u)
        (ap (lookup k) rows ∙ subst (λ (j : ℕ). lookup j (written rs r) ≡ some (row_by e (look_row j rs))) s (written_shown r rs u ∙ sym (ap some w)))
    go false t true u =
        let n : key_of r ≡ k → ⊥ = eqb-false (key_of r) k t in
        kept (λ f g. n (let s : key_of r ≡ k = cc (for_flight f) in s)) unstruck (ap (lookup k) rows ∙ written_others r rs k n u)
    go b t false u = kept (λ f g. clash (cc (told false u))) unstruck (ap (lookup k) (rows ∙ written_full r rs u))

no_flight : (k : ℕ) (e : Event) → line_flight e ≡ none → (e ≡ strike k → ⊥) → (rs : List Row) → rows_after rs e ≡ rs → RowTurn rs (rows_after rs e) e k
no_flight k e n m rs q = kept (λ f t. clash (cc (for_flight f))) (λ s. m (strike_is s)) (ap (lookup k) q)

pub row_turn : (rs : List Row) → Rising rs → (e : Event) (k : ℕ) → RowTurn rs (rows_after rs e) e k
unfolding rows_after
row_turn rs h (dz j a) k = put_turn rs (dz j a) (by_dz j a (look_row j rs)) refl refl refl k
row_turn rs h (az j a) k = put_turn rs (az j a) (by_az j a (look_row j rs)) refl refl refl k
row_turn rs h (tz j t) k = put_turn rs (tz j t) (by_tz j t (look_row j rs)) refl refl refl k
row_turn rs h other k = no_flight k other refl (λ q. clash (cc)) rs refl
row_turn rs h unread k = no_flight k unread refl (λ q. clash (cc)) rs refl
row_turn rs h misnamed k = no_flight k misnamed refl (λ q. clash (cc)) rs refl
row_turn rs h (strike j) k = go (eqb j k) refl
  where
    go : (b : Bool) → eqb j k ≡ b → RowTurn rs (rows_after rs (strike j)) (strike j) k
    go true t =
        let s : j ≡ k = eqb-true j k t in
        gone (subst (λ (i : ℕ). StrikeOf i (strike j)) s the_strike) (subst (λ (i : ℕ). lookup i (struck rs j) ≡ none) s (struck_none j rs h))
    go false t =
        let n : j ≡ k → ⊥ = eqb-false j k t in
        kept (λ f g. clash (cc (for_flight f))) (λ s. n (let q : j ≡ k = cc (strike_is s) in q)) (struck_others j k rs n)

-- the same after a history
pub turned : (h : History) (e : Event) (k : ℕ) → RowTurn (after h) (after (h then e)) e k
unfolding after
turned h e k = row_turn (after h) (after_rising h) e k

-- what is not about a flight leaves its row
pub apart : (rs : List Row) → Rising rs → (e : Event) (k : ℕ) → (About k e → ⊥) → lookup k (rows_after rs e) ≡ lookup k rs
apart rs h e k n = go (row_turn rs h e k)
  where
    go : RowTurn rs (rows_after rs e) e k → lookup k (rows_after rs e) ≡ lookup k rs
    go (put f t q) = absurd (n (inl f))
    go (gone s q) = absurd (n (inr s))
    go (kept m i q) = q
