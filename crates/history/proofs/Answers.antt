-- Each answer is given exactly in its case: taken, board full, flight not listed, refused. Assumes nothing.
use Prim.Native.Nat.{ℕ, ◌≤◌}
use native.Mathlib.Omega.{arith}
use mathlib.Core.Logic.{◌↔◌}
use mathlib.Core.Path.{◌≡◌, refl, sym, ap, ◌∙◌}
use mathlib.Core.Bool.{Bool, true, false, cond}
use mathlib.Core.List.{List, Memᴰ}
use mathlib.Core.Option.{none}
use lib.ListN.{length}
use Rattle.text.proofs.Logic.{true_false, not_holds}
use Rattle.board.specs.Rows.{CAP, lookup, fits, is_listed}
use Rattle.board.specs.declared.rows.Row.{Row}
use Rattle.history.specs.Events.{Event, dz, az, tz, other, unread, strike, misnamed, History}
use Rattle.history.specs.Steps.{Took, Refused, NoRoom, NotListed, answer, after}
use Rattle.history.specs.Demand.{For, for_dz, for_az, for_tz, StrikeOf, the_strike, Readable, read_dz, read_az, read_tz, read_other, Senseless, no_reading, no_key, Listed, Count, MeetsFull}
use Rattle.history.specs.Promise.{Taken}
use Rattle.history.proofs.Keys.{keys_of, length-keys, rising_keys, keys_shown, shown_keys, keys_ext}
use Rattle.board.proofs.Places.{full_is, is_full_lem}
use Rattle.history.proofs.Shows.{not_both, row_is, listed_is, unlisted_is}
use Rattle.history.proofs.Turns.{clash, cap_is, after_rising, after_room}

-- ---- the answer by kind of event

pub line_answer : (rs : List Row) {k : ℕ} {e : Event} → For k e → answer rs e ≡ cond (fits rs k) Took NoRoom
unfolding answer
line_answer rs for_dz = refl
line_answer rs for_az = refl
line_answer rs for_tz = refl

pub strike_answer : (rs : List Row) {k : ℕ} {e : Event} → StrikeOf k e → answer rs e ≡ cond (is_listed rs k) Took NotListed
unfolding answer
strike_answer rs the_strike = refl

pub senseless_answer : (rs : List Row) {e : Event} → Senseless e → answer rs e ≡ Refused
unfolding answer
senseless_answer rs no_reading = refl
senseless_answer rs no_key = refl

pub other_answer : (rs : List Row) → answer rs other ≡ Took
unfolding answer
other_answer rs = refl

-- an event is one of these
pub data Sort (e : Event) : Type 0 where
  line : (k : ℕ) → For k e → Sort e
  calm : e ≡ other → Sort e
  off : (k : ℕ) → StrikeOf k e → Sort e
  odd : Senseless e → Sort e

pub sort_of : (e : Event) → Sort e
sort_of (dz k a) = line k for_dz
sort_of (az k a) = line k for_az
sort_of (tz k t) = line k for_tz
sort_of other = calm refl
sort_of unread = odd no_reading
sort_of (strike k) = off k the_strike
sort_of misnamed = odd no_key

-- ---- how many are listed

pub count_keys : (h : History) (n : ℕ) → length (after h) ≡ n → Count Taken n h
count_keys h n q = record {
  keys = keys_of (after h);
  rising = rising_keys (after h) (after_rising h);
  all = λ k. (λ m. (row_is k h).0 (keys_shown k (after h) m), λ l. let s = (row_is k h).1 l in shown_keys k (after h) s.0 s.1);
  many = length-keys (after h) ∙ q;
}

-- the count is the number of rows
pub count_rows : (h : History) (n : ℕ) → Count Taken n h → length (after h) ≡ n
unfolding count_keys
count_rows h n c =
    let d = count_keys h (length (after h)) refl in
    let to : (k : ℕ) → Memᴰ k d.keys ↔ Memᴰ k c.keys = λ k. (λ m. (c.all k).1 ((d.all k).0 m), λ m. (d.all k).1 ((c.all k).0 m)) in
    let s : d.keys ≡ c.keys = keys_ext d.keys c.keys d.rising c.rising to in
    sym (length-keys (after h)) ∙ ap length s ∙ c.many

-- ---- board full

no_room_fits : (b : Bool) → cond b Took NoRoom ≡ NoRoom → b ≡ false
no_room_fits true q = cc
no_room_fits false q = refl

no_room_listed : (b : Bool) → cond b Took NotListed ≡ NoRoom → ⊥
no_room_listed true q = clash (cc)
no_room_listed false q = clash (cc)

pub full_to : (h : History) (e : Event) → answer (after h) e ≡ NoRoom → MeetsFull Taken h e
full_to h e q = go (sort_of e)
  where
    meets : (k : ℕ) → For k e → fits (after h) k ≡ false → MeetsFull Taken h e
    meets k f u =
        let w = full_is k (after h) (after_rising h) u in
        let room = after_room h in
        let all : CAP ≤ length (after h) = w.1 in
        let cap = cap_is in
        record {
          key = k;
          kind = f;
          unlisted = λ l. let s = (row_is k h).1 l in not_both _ _ w.0 s.1;
          full = count_keys h 256 (omega arith);
        }

    go : Sort e → MeetsFull Taken h e
    go (line k f) = meets k f (no_room_fits (fits (after h) k) (sym (line_answer (after h) f) ∙ q))
    go (calm p) = let a = other_answer (after h) in clash (cc)
    go (off k s) = absurd (no_room_listed (is_listed (after h) k) (sym (strike_answer (after h) s) ∙ q))
    go (odd s) = let a = senseless_answer (after h) s in clash (cc)

pub full_from : (h : History) (e : Event) → MeetsFull Taken h e → answer (after h) e ≡ NoRoom
full_from h e m =
    let n : lookup m.key (after h) ≡ none = unlisted_is m.key h m.unlisted in
    let c = count_rows h 256 m.full in
    let cap = cap_is in
    line_answer (after h) m.kind ∙ ap (λ (b : Bool). cond b Took NoRoom) (is_full_lem m.key (after h) (after_rising h) n (omega arith))

-- ---- taken

pub taken_lines : (h : History) (e : Event) → Readable e → Taken h e ↔ (MeetsFull Taken h e → ⊥)
taken_lines h e r = (λ t m. let q = full_from h e m in clash (cc), λ n. go e r n)
  where
    by : (x : Event) {k : ℕ} → For k x → (MeetsFull Taken h x → ⊥) → Taken h x
    by x {k = k} f n = pick (fits (after h) k) refl
      where
        pick : (b : Bool) → fits (after h) k ≡ b → Taken h x
        pick true u = line_answer (after h) f ∙ ap (λ (b : Bool). cond b Took NoRoom) u
        pick false u = absurd (n (full_to h x (line_answer (after h) f ∙ ap (λ (b : Bool). cond b Took NoRoom) u)))

    go : (x : Event) → Readable x → (MeetsFull Taken h x → ⊥) → Taken h x
    go x read_dz n = by x for_dz n
    go x read_az n = by x for_az n
    go x read_tz n = by x for_tz n
    go x read_other n = other_answer (after h)

took_listed : (b : Bool) → cond b Took NotListed ≡ Took → b ≡ true
took_listed true q = refl
took_listed false q = cc

pub taken_strikes : (h : History) (k : ℕ) → Taken h (strike k) ↔ Listed Taken k h
taken_strikes h k =
    let a = strike_answer (after h) {k = k} the_strike in (
      λ t. (listed_is k h).0 (took_listed (is_listed (after h) k) (sym a ∙ t)),
      λ l. a ∙ ap (λ (b : Bool). cond b Took NotListed) ((listed_is k h).1 l),
    )

pub taken_senseless : (h : History) (e : Event) → Senseless e → Taken h e → ⊥
taken_senseless h e s t = let a = senseless_answer (after h) s in clash (cc)

-- ---- flight not listed

missing_fits : (b : Bool) → cond b Took NoRoom ≡ NotListed → ⊥
missing_fits true q = clash (cc)
missing_fits false q = clash (cc)

missing_listed : (b : Bool) → cond b Took NotListed ≡ NotListed → b ≡ false
missing_listed true q = cc
missing_listed false q = refl

pub missing_is : (h : History) (e : Event) → (answer (after h) e ≡ NotListed) ↔ ((k : ℕ) × StrikeOf k e × (Listed Taken k h → ⊥))
missing_is h e = (λ q. go q (sort_of e), λ m. from m.0 m.1 m.2)
  where
    go : answer (after h) e ≡ NotListed → Sort e → (k : ℕ) × StrikeOf k e × (Listed Taken k h → ⊥)
    go q (line k f) = absurd (missing_fits (fits (after h) k) (sym (line_answer (after h) f) ∙ q))
    go q (calm p) = let a = other_answer (after h) in clash (cc)
    go q (off k s) = (k, s, λ l. true_false ((listed_is k h).1 l) (missing_listed (is_listed (after h) k) (sym (strike_answer (after h) s) ∙ q)))
    go q (odd s) = let a = senseless_answer (after h) s in clash (cc)

    from : (k : ℕ) → StrikeOf k e → (Listed Taken k h → ⊥) → answer (after h) e ≡ NotListed
    from k s n = strike_answer (after h) s ∙ ap (λ (b : Bool). cond b Took NotListed) (not_holds (is_listed (after h) k) (λ t. n ((listed_is k h).0 t)))

-- ---- refused

refused_fits : (b : Bool) → cond b Took NoRoom ≡ Refused → ⊥
refused_fits true q = clash (cc)
refused_fits false q = clash (cc)

refused_listed : (b : Bool) → cond b Took NotListed ≡ Refused → ⊥
refused_listed true q = clash (cc)
refused_listed false q = clash (cc)

pub refused_is : (h : History) (e : Event) → (answer (after h) e ≡ Refused) ↔ Senseless e
refused_is h e = (λ q. go q (sort_of e), senseless_answer (after h))
  where
    go : answer (after h) e ≡ Refused → Sort e → Senseless e
    go q (line k f) = absurd (refused_fits (fits (after h) k) (sym (line_answer (after h) f) ∙ q))
    go q (calm p) = let a = other_answer (after h) in clash (cc)
    go q (off k s) = absurd (refused_listed (is_listed (after h) k) (sym (strike_answer (after h) s) ∙ q))
    go q (odd s) = s
