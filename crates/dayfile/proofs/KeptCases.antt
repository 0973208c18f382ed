-- `keep_line` AND `end_file`: each number exactly in its case, what is known of a call that was taken, and that a refused one writes nothing. Over any trailer.
-- Assumes nothing.
use Rattle.std.specs.Prelude.{Err, Ok, Result}
use mathlib.Core.Path.{◌≡◌, refl, sym, ◌∙◌}
use mathlib.Core.Bool.{Bool, true, false, ◌&&◌, or-true, and-false}
use mathlib.Core.List.{List, [], ◌∷◌}
use mathlib.Core.Logic.{◌⊎◌, inl, inr}
use Prim.Native.Nat.{ℕ, ◌+◌, ◌*◌, ◌-◌, ◌≤◌, ◌<◌}
use native.Mathlib.Nat.{lt_of_not-le}
use native.Mathlib.Omega.{arith}
use lib.Dec.{leb, ltb}
use lib.ListN.{length, take, length-append}
use lib.Seq.{length-take-le}
use borrow.Author.Tests.{leb-true, leb-false, ltb-true, ltb-false, le-leb, lt-leb, lt-ltb, le-ltb}
use Rattle.text.specs.Text.{has_room}
use Rattle.text.proofs.Logic.{and_left, and_right, not_holds, true_false, either_of}
use Rattle.shapes.specs.Cut.{has}
use Rattle.rules.specs.Frame.{line_feed, longest_line}
use Rattle.dayfile.specs.DayFile.{trailer_size, may_keep, too_far}
use Rattle.dayfile.specs.Opening.{agree}
use Rattle.dayfile.specs.Keeping.{fed, is_full, has_place, kept_of, out_after, run_after, kept_number, is_agreed, is_over, closing, ended_of, out_ended, ended_number}
use Rattle.dayfile.specs.Cases.{IsKeepable, IsTooMany, KeepCase, Long, Feed, Many, Room, Taken, Agrees, IsOverfull, EndCase}
use Rattle.dayfile.specs.declared.Trailer.{Trailer}
use Rattle.dayfile.specs.declared.Place.{Place}
use Rattle.dayfile.proofs.Bytes.{length_index}
use Rattle.dayfile.proofs.Files.{length_trailer, line_kept, agree_lines, lines_agree}
use Rattle.dayfile.specs.declared.NotEnded.TheVariants.{Disagree, NoRoom, TooMany}
use Rattle.dayfile.specs.declared.NotKept.TheVariants.{LineFeed, NoRoom, TooLong, TooMany}
use Rattle.dayfile.specs.declared.NotEnded.{NotEnded}
use Rattle.dayfile.specs.declared.NotKept.{NotKept}

-- ---- `keep_line`: each number exactly in its case

pub fed_length : (l : List ℕ) → length (fed l) ≡ length l + 1
fed_length l = length-append l (line_feed ∷ [])

module _ (most base : ℕ) (l out offsets : List ℕ) (p : Place) where
  abbrev answer : Result Place NotKept
  answer = kept_of most base l out offsets p

  -- the place after the line
  abbrev pub next : Place
  next = record { at = p.at + length (fed l); count = p.count + 1 }

  pub full_is : IsTooMany most base l out offsets p → is_full most p l ≡ true
  unfolding is_full
  full_is (inl h) = rw (le-leb most p.count h)
  full_is (inr h) = rw (le-leb too_far (p.at + length (fed l)) (omega (arith, fed_length l))) (or-true (leb most p.count))

  pub is_full_lem : is_full most p l ≡ true → IsTooMany most base l out offsets p
  unfolding is_full
  is_full_lem e =
      either_of (leb most p.count) (leb too_far (p.at + length (fed l)))
      (λ q. inl (leb-true most p.count q))
      (λ q. inr (omega (arith, fed_length l, leb-true too_far (p.at + length (fed l)) q)))
      e

  abbrev Fits : Type 0
  Fits = (p.at - base + length l + 1 ≤ length out) × (p.count < length offsets)

  abbrev FitsNot : Type 0
  FitsNot = (length out < p.at - base + length l + 1) ⊎ (length offsets ≤ p.count)

  -- the two tests of `has_place`
  abbrev roomy : Bool
  roomy = leb (p.at - base + length (fed l)) (length out)

  abbrev spare : Bool
  spare = ltb p.count (length offsets)

  has_place_lem : has_place base l out offsets p ≡ true → Fits
  unfolding has_place has_room
  has_place_lem e =
      (omega (arith, fed_length l, leb-true (p.at - base + length (fed l)) (length out) (and_left roomy spare e)), ltb-true p.count (length offsets) (and_right roomy spare e))

  no_place : has_place base l out offsets p ≡ false → FitsNot
  unfolding has_place has_room
  no_place e = go roomy refl
    where
      go : (b : Bool) → roomy ≡ b → FitsNot
      go false q = inl (omega (arith, fed_length l, leb-false (p.at - base + length (fed l)) (length out) q))
      go true q = inr (ltb-false p.count (length offsets) (rw q at e))

  place_has : Fits → has_place base l out offsets p ≡ true
  unfolding has_place has_room
  place_has f = rw (le-leb (p.at - base + length (fed l)) (length out) (omega (arith, fed_length l, f.0)), lt-ltb p.count (length offsets) f.1)

  place_not : FitsNot → has_place base l out offsets p ≡ false
  unfolding has_place has_room
  place_not (inl h) = rw (lt-leb (p.at - base + length (fed l)) (length out) (omega (arith, fed_length l)))
  place_not (inr h) = rw (le-ltb p.count (length offsets) h) (and-false roomy)

  pub long_is : 2048 < length l → answer ≡ Err TooLong
  unfolding kept_of
  long_is h = rw (lt-ltb longest_line (length l) h)

  pub feed_is : length l ≤ 2048 → has 10 l ≡ true → answer ≡ Err LineFeed
  unfolding kept_of
  feed_is h e = rw (le-ltb longest_line (length l) h, e)

  module _ (k : IsKeepable most base l out offsets p) where
    pub many_is : IsTooMany most base l out offsets p → answer ≡ Err TooMany
    unfolding kept_of
    many_is m = rw (le-ltb longest_line (length l) k.0, k.1, full_is m)

    module _ (few : IsTooMany most base l out offsets p → ⊥) where
      not_full : is_full most p l ≡ false
      not_full = not_holds (is_full most p l) (λ q. few (is_full_lem q))

      pub room_is : FitsNot → answer ≡ Err NoRoom
      unfolding kept_of
      room_is n = rw (le-ltb longest_line (length l) k.0, k.1, not_full, place_not n)

      pub taken_is : Fits → answer ≡ Ok next
      unfolding kept_of
      taken_is f = rw (le-ltb longest_line (length l) k.0, k.1, not_full, place_has f)

  pub keep_case : KeepCase most base l out offsets p (kept_number (kept_of most base l out offsets p))
  unfolding kept_number
  keep_case = go (ltb longest_line (length l)) refl (has 10 l) refl (is_full most p l) refl (has_place base l out offsets p) refl
    where
      go : (a : Bool) → ltb longest_line (length l) ≡ a → (b : Bool) → has 10 l ≡ b → (c : Bool) → is_full most p l ≡ c → (d : Bool) → has_place base l out offsets p ≡ d
          → KeepCase most base l out offsets p (kept_number answer)
      go true q b e c f d g = let h = ltb-true longest_line (length l) q in rw (long_is h) (Long h)
      go false q true e c f d g = let h = ltb-false longest_line (length l) q in rw (feed_is h e) (Feed h e)
      go false q false e true f d g =
          let k : IsKeepable most base l out offsets p = (ltb-false longest_line (length l) q, e) in
          let m = is_full_lem f in
          rw (many_is k m) (Many k m)
      go false q false e false f false g =
          let k : IsKeepable most base l out offsets p = (ltb-false longest_line (length l) q, e) in
          let few : IsTooMany most base l out offsets p → ⊥ = λ m. true_false (full_is m) f in
          let n = no_place g in
          rw (room_is k few n) (Room k few n)
      go false q false e false f true g =
          let k : IsKeepable most base l out offsets p = (ltb-false longest_line (length l) q, e) in
          let few : IsTooMany most base l out offsets p → ⊥ = λ m. true_false (full_is m) f in
          let n = has_place_lem g in
          rw (taken_is k few n) (Taken k few n.0 n.1)

  pub case_keep : {n : ℕ} → KeepCase most base l out offsets p n → n ≡ kept_number (kept_of most base l out offsets p)
  unfolding kept_number
  case_keep (Long h) = rw (long_is h)
  case_keep (Feed h e) = rw (feed_is h e)
  case_keep (Many k m) = rw (many_is k m)
  case_keep (Room k few n) = rw (room_is k few n)
  case_keep (Taken k few h g) = rw (taken_is k few (h, g))

  -- what is known of a line that was taken
  pub record IsTaken (q : Place) : Type 0 where
    pub line : may_keep l ≡ true
    pub fewer : p.count < most
    pub near : p.at + length (fed l) < too_far
    pub room : p.at - base + length (fed l) ≤ length out
    pub one : p.count < length offsets
    pub place : q ≡ next

  pub is_taken_lem : (q : Place) → kept_of most base l out offsets p ≡ Ok q → IsTaken q
  unfolding kept_number
  is_taken_lem q e = go keep_case (rw e)
    where
      go : {n : ℕ} → KeepCase most base l out offsets p n → n ≡ 0 → IsTaken q
      go (Long h) z = absurd (omega arith)
      go (Feed h f) z = absurd (omega arith)
      go (Many k m) z = absurd (omega arith)
      go (Room k few n) z = absurd (omega arith)
      go (Taken k few h g) z =
          let d : Ok next ≡ Ok q = sym (taken_is k few (h, g)) ∙ e in
          record {
            line = line_kept l k.0 k.1;
            fewer = lt_of_not-le (λ m. few (inl m));
            near = lt_of_not-le (λ m. few (inr (omega (arith, fed_length l))));
            room = omega (arith, fed_length l);
            one = g;
            place = (cc);
          }

-- A REFUSED CALL WRITES NOTHING, in the buffer and in the run
pub refused_keeps : (r : Result Place NotKept) (base : ℕ) (l out offsets : List ℕ) (p : Place) → (kept_number r ≡ 0 → ⊥) → (out_after r base l out p ≡ out) × (run_after r offsets p ≡ offsets)
unfolding kept_number out_after run_after
refused_keeps (Ok q) base l out offsets p n = absurd (n refl)
refused_keeps (Err TooLong) base l out offsets p n = (refl, refl)
refused_keeps (Err LineFeed) base l out offsets p n = (refl, refl)
refused_keeps (Err TooMany) base l out offsets p n = (refl, refl)
refused_keeps (Err NoRoom) base l out offsets p n = (refl, refl)

pub refused_ends : (r : Result ℕ NotEnded) (t : Trailer) (out offsets : List ℕ) (p : Place) → (ended_number r ≡ 0 → ⊥) → out_ended r t out offsets p ≡ out
unfolding ended_number out_ended
refused_ends (Ok m) t out offsets p n = absurd (n refl)
refused_ends (Err Disagree) t out offsets p n = refl
refused_ends (Err TooMany) t out offsets p n = refl
refused_ends (Err NoRoom) t out offsets p n = refl

-- ---- `end_file`: each number exactly in its case

module _ (t : Trailer) (out offsets : List ℕ) (p : Place) where
  -- the three tests of `is_agreed`
  abbrev kept_bytes : Bool
  kept_bytes = leb p.at (length out)

  abbrev kept_run : Bool
  kept_run = leb p.count (length offsets)

  abbrev kept_lines : Bool
  kept_lines = agree (take p.at out) (take p.count offsets)

  pub agreed_is : is_agreed out offsets p ≡ true → Agrees t out offsets p
  unfolding is_agreed
  agreed_is e =
      let r : (kept_run && kept_lines) ≡ true = and_right kept_bytes (kept_run && kept_lines) e in (
        leb-true p.at (length out) (and_left kept_bytes (kept_run && kept_lines) e),
        leb-true p.count (length offsets) (and_left kept_run kept_lines r),
        agree_lines (take p.at out) (take p.count offsets) (and_right kept_run kept_lines r),
      )

  pub is_agreed_lem : Agrees t out offsets p → is_agreed out offsets p ≡ true
  unfolding is_agreed
  is_agreed_lem a = rw (le-leb p.at (length out) a.0, le-leb p.count (length offsets) a.1, lines_agree (take p.at out) (take p.count offsets) a.2)

  pub over_is : is_over t p ≡ true → IsOverfull t out offsets p
  unfolding is_over
  over_is e = either_of (ltb t.most p.count) (leb too_far p.at) (λ q. inl (ltb-true t.most p.count q)) (λ q. inr (leb-true too_far p.at q)) e

  pub is_over_lem : IsOverfull t out offsets p → is_over t p ≡ true
  unfolding is_over
  is_over_lem (inl h) = rw (lt-ltb t.most p.count h)
  is_over_lem (inr h) = rw (le-leb too_far p.at h) (or-true (ltb t.most p.count))

  pub disagree_is : (Agrees t out offsets p → ⊥) → ended_of t out offsets p ≡ Err Disagree
  unfolding ended_of
  disagree_is n = rw (not_holds (is_agreed out offsets p) (λ q. n (agreed_is q)))

  module _ (a : Agrees t out offsets p) where
    -- index and trailer
    pub closing_length : length (closing t offsets p) ≡ 4 * p.count + trailer_size t
    unfolding closing
    closing_length = simp (length-append, length_index, length_trailer) (omega (arith, length-take-le p.count offsets a.1))

    pub over_answer : IsOverfull t out offsets p → ended_of t out offsets p ≡ Err TooMany
    unfolding ended_of
    over_answer o = rw (is_agreed_lem a, is_over_lem o)

    module _ (few : IsOverfull t out offsets p → ⊥) where
      not_over : is_over t p ≡ false
      not_over = not_holds (is_over t p) (λ q. few (over_is q))

      pub short_answer : length out < p.at + 4 * p.count + trailer_size t → ended_of t out offsets p ≡ Err NoRoom
      unfolding ended_of has_room
      short_answer h = rw (is_agreed_lem a, not_over, lt-leb (p.at + length (closing t offsets p)) (length out) (omega (arith, closing_length)))

      pub whole_answer : p.at + 4 * p.count + trailer_size t ≤ length out → ended_of t out offsets p ≡ Ok (p.at + length (closing t offsets p))
      unfolding ended_of has_room
      whole_answer h = rw (is_agreed_lem a, not_over, le-leb (p.at + length (closing t offsets p)) (length out) (omega (arith, closing_length)))

  pub end_case : EndCase t out offsets p (ended_number (ended_of t out offsets p))
  unfolding ended_number
  end_case = go (is_agreed out offsets p) refl (is_over t p) refl (leb (p.at + 4 * p.count + trailer_size t) (length out)) refl
    where
      go : (x : Bool) → is_agreed out offsets p ≡ x → (y : Bool) → is_over t p ≡ y → (z : Bool) → leb (p.at + 4 * p.count + trailer_size t) (length out) ≡ z
          → EndCase t out offsets p (ended_number (ended_of t out offsets p))
      go false e y f z g = let n : Agrees t out offsets p → ⊥ = λ a. true_false (is_agreed_lem a) e in rw (disagree_is n) (EndCase.Disagree n)
      go true e true f z g = let a = agreed_is e in let o = over_is f in rw (over_answer a o) (EndCase.Overfull a o)
      go true e false f false g =
          let a = agreed_is e in
          let few : IsOverfull t out offsets p → ⊥ = λ o. true_false (is_over_lem o) f in
          let h = leb-false (p.at + 4 * p.count + trailer_size t) (length out) g in
          rw (short_answer a few h) (EndCase.NoRoom a few h)
      go true e false f true g =
          let a = agreed_is e in
          let few : IsOverfull t out offsets p → ⊥ = λ o. true_false (is_over_lem o) f in
          let h = leb-true (p.at + 4 * p.count + trailer_size t) (length out) g in
          rw (whole_answer a few h) (EndCase.Whole a few h)

  pub case_end : {n : ℕ} → EndCase t out offsets p n → n ≡ ended_number (ended_of t out offsets p)
  unfolding ended_number
  case_end (EndCase.Disagree n) = rw (disagree_is n)
  case_end (EndCase.Overfull a o) = rw (over_answer a o)
  case_end (EndCase.NoRoom a few h) = rw (short_answer a few h)
  case_end (EndCase.Whole a few h) = rw (whole_answer a few h)

  -- what is known of a file that was ended
  pub record IsEnded (n : ℕ) : Type 0 where
    pub agrees : Agrees t out offsets p
    pub fits : p.at + length (closing t offsets p) ≤ length out
    pub size : n ≡ p.at + length (closing t offsets p)

  pub is_ended : (n : ℕ) → ended_of t out offsets p ≡ Ok n → IsEnded n
  unfolding ended_number
  is_ended n e = go end_case (rw e)
    where
      go : {m : ℕ} → EndCase t out offsets p m → m ≡ 0 → IsEnded n
      go (EndCase.Disagree d) z = absurd (omega arith)
      go (EndCase.Overfull a o) z = absurd (omega arith)
      go (EndCase.NoRoom a few h) z = absurd (omega arith)
      go (EndCase.Whole a few h) z =
          let d : Ok (p.at + length (closing t offsets p)) ≡ Ok n = sym (whole_answer a few h) ∙ e in
          record { agrees = a; fits = omega (arith, closing_length a); size = (cc) }
