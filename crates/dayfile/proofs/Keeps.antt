-- What each way through `keep_from` and `end_as`, and through what they ask, answers and writes is what its definition says. Assumes nothing.
use Rattle.std.specs.Prelude.{Err, Ok, Result}
use mathlib.Core.Path.{◌≡◌, refl, sym, ap, ◌∙◌}
use mathlib.Core.Bool.{Bool, true, false, not, and-false}
use mathlib.Core.List.{List, []}
use mathlib.Core.Logic.{inl, inr}
use Prim.Native.Nat.{ℕ, suc, ◌+◌, ◌*◌, ◌-◌, ◌≤◌, ◌<◌}
use native.Mathlib.Nat.{lt_of_not-le}
use native.Mathlib.Omega.{arith}
use lib.Dec.{eqb, leb}
use lib.ListN.{length, take, set}
use lib.Seq.{length-take-le}
use borrow.Author.Tests.{le-ltb, le-leb, lt-leb, leb-true, leb-false, eqb-true, eqb-false}
use Rattle.text.specs.Text.{spliced, written_bytes}
use Rattle.text.proofs.Logic.{so, not_so, true_false}
use Rattle.text.proofs.Laws.{has_room_lem}
use Rattle.text.proofs.Splice.{set-spliced, next_store}
use Rattle.shapes.specs.Cut.{up_to}
use Rattle.shapes.proofs.Laws.{is_cut, not_cut}
use Rattle.rules.specs.Frame.{line_feed, longest_line}
use Rattle.dayfile.specs.DayFile.{version1, too_far, trailer_size, trailer_of, index_of}
use Rattle.dayfile.specs.Opening.{agree}
use Rattle.dayfile.specs.Keeping.{fed, is_full, kept_of, out_after, run_after, is_agreed, is_over, closing, ended_of, out_ended}
use Rattle.dayfile.specs.Cases.{IsKeepable, IsTooMany, Agrees, IsOverfull}
use Rattle.dayfile.specs.Walk.{Walks}
use Rattle.dayfile.specs.declared.walking.Walked.{Walked}
use Rattle.dayfile.specs.declared.Trailer.{Trailer}
use Rattle.dayfile.specs.declared.Place.{Place}
use Rattle.dayfile.proofs.Bytes.{length_index}
use Rattle.dayfile.proofs.Walks.{walked_agree, fewer_lines, fewer_bytes}
use Rattle.dayfile.proofs.KeptCases.{fed_length, full_is, is_full_lem, long_is, feed_is, many_is, room_is, taken_is, agreed_is, is_agreed_lem, over_is, is_over_lem, disagree_is, closing_length, over_answer, short_answer, whole_answer}
use Rattle.dayfile.proofs.Puts.{then_put}
use Rattle.dayfile.specs.declared.NotEnded.TheVariants.{Disagree, NoRoom, TooMany}
use Rattle.dayfile.specs.declared.NotKept.TheVariants.{LineFeed, NoRoom, TooLong, TooMany}
use Rattle.dayfile.specs.declared.NotEnded.{NotEnded}
use Rattle.dayfile.specs.declared.NotKept.{NotKept}

-- ---- `is_full`

module _ (most : ℕ) (p : Place) (l : List ℕ) where
  pub full_many : most ≤ p.count → true ≡ is_full most p l
  full_many h = sym (full_is most 0 l [] [] p (inl h))

  full_sum : p.count < most → leb too_far (p.at + length l + 1) ≡ is_full most p l
  unfolding is_full
  full_sum h = let e : p.at + length (fed l) ≡ p.at + length l + 1 = omega (arith, fed_length l) in rw (lt-leb most p.count h, e)

  pub full_by : p.count < most → leb (too_far - (length l + 1)) p.at ≡ is_full most p l
  full_by h = go (leb (too_far - (length l + 1)) p.at) refl
    where
      go : (b : Bool) → leb (too_far - (length l + 1)) p.at ≡ b → b ≡ is_full most p l
      go true q = let k = leb-true (too_far - (length l + 1)) p.at q in sym (full_is most 0 l [] [] p (inr (omega (arith, k))))
      go false q =
          let k = leb-false (too_far - (length l + 1)) p.at q in
          sym (lt-leb too_far (p.at + length l + 1) (omega (arith, k))) ∙ full_sum h

  -- where it is not, no number is too large
  pub not_far : {full : Bool} → full ≡ is_full most p l → full ≡ false → p.at + length l + 1 < too_far
  not_far told few = lt_of_not-le (λ m. true_false (full_is most 0 l [] [] p (inr m)) (sym told ∙ few))

-- ---- `keep_from`

module _ (most base : ℕ) (l out offsets : List ℕ) (p : Place) where
  abbrev Keeps : Result Place NotKept → List ℕ → List ℕ → Type 0
  Keeps r out' offsets' = (r ≡ kept_of most base l out offsets p) × ((out' ≡ out_after r base l out p) × (offsets' ≡ run_after r offsets p))

  pub kept_long : longest_line < length l → Keeps (Err TooLong) out offsets
  unfolding out_after run_after
  kept_long h = (sym (long_is most base l out offsets p h), (refl, refl))

  module _ (short : length l ≤ longest_line) {i : ℕ} (first : i ≡ up_to line_feed l) where
    pub kept_feed : i < length l → Keeps (Err LineFeed) out offsets
    unfolding out_after run_after
    kept_feed h = (sym (feed_is most base l out offsets p short (is_cut line_feed l i first h)), (refl, refl))

    module _ (none : length l ≤ i) {full : Bool} (told : full ≡ is_full most p l) where
      may : IsKeepable most base l out offsets p
      may = (short, not_cut line_feed l i first none)

      pub kept_many : full ≡ true → Keeps (Err TooMany) out offsets
      unfolding out_after run_after
      kept_many h = (sym (many_is most base l out offsets p may (is_full_lem most base l out offsets p (sym told ∙ h))), (refl, refl))

      module _ (few : full ≡ false) where
        not_many : IsTooMany most base l out offsets p → ⊥
        not_many m = true_false (full_is most base l out offsets p m) (sym told ∙ few)

        pub no_run : length offsets ≤ p.count → Keeps (Err NoRoom) out offsets
        unfolding out_after run_after
        no_run h = (sym (room_is most base l out offsets p may not_many (inr h)), (refl, refl))

        module _ {room : Bool} (asked : room ≡ leb (p.at - base + (length l + 1)) (length out)) where
          pub no_place : not room ≡ true → Keeps (Err NoRoom) out offsets
          unfolding out_after run_after
          no_place h =
              let k = leb-false (p.at - base + (length l + 1)) (length out) (not_so asked h) in
              (sym (room_is most base l out offsets p may not_many (inl (omega arith))), (refl, refl))

          pub kept_next : not room ≡ false → p.count < length offsets → {w : List ℕ} → w ≡ written_bytes true l out (p.at - base)
              → Keeps (Ok (record { at = p.at + length l + 1; count = p.count + 1 })) (set w (p.at - base + length l) line_feed) (set offsets p.count p.at)
          unfolding out_after run_after
          kept_next some h e =
              let k = leb-true (p.at - base + (length l + 1)) (length out) (so asked some) in
              let z : p.at + length (fed l) ≡ p.at + length l + 1 = omega (arith, fed_length l) in (
                sym (taken_is most base l out offsets p may not_many (omega arith, h) ∙ rw z),
                (rw (e ∙ sym (has_room_lem l out (p.at - base) refl (omega arith)).1) (next_store out l (p.at - base) line_feed (omega arith)), set-spliced offsets p.count p.at h),
              )

-- ---- `is_over`

module _ (t : Trailer) (p : Place) where
  pub over_many : t.most < p.count → true ≡ is_over t p
  over_many h = sym (is_over_lem t [] [] p (inl h))

  pub over_by : p.count ≤ t.most → leb too_far p.at ≡ is_over t p
  unfolding is_over
  over_by h = rw (le-ltb t.most p.count h)

  -- where it is not, its numbers fit the trailer
  pub not_over : is_over t p ≡ false → (p.count ≤ t.most) × (p.at < too_far)
  not_over e =
      let n : p.count < suc t.most = lt_of_not-le (λ m. true_false (is_over_lem t [] [] p (inl m)) e) in
      (omega arith, lt_of_not-le (λ m. true_false (is_over_lem t [] [] p (inr m)) e))

-- ---- `is_agreed`

module _ (out offsets : List ℕ) (p : Place) where
  pub no_bytes : length out < p.at → false ≡ is_agreed out offsets p
  unfolding is_agreed
  no_bytes h = rw (lt-leb p.at (length out) h)

  pub no_offsets : length offsets < p.count → false ≡ is_agreed out offsets p
  unfolding is_agreed
  no_offsets h = rw (lt-leb p.count (length offsets) h, and-false (leb p.at (length out)))

  module _ (bytes : p.at ≤ length out) (run : p.count ≤ length offsets) {r : Walked} (w : Walks 0 (take p.at out) (take p.count offsets) r) where
    by_lines : is_agreed out offsets p ≡ agree (take p.at out) (take p.count offsets)
    unfolding is_agreed
    by_lines = rw (le-leb p.at (length out) bytes, le-leb p.count (length offsets) run)

    pub other_lines : (r.lines ≡ p.count → ⊥) → false ≡ is_agreed out offsets p
    other_lines h = sym (by_lines ∙ fewer_lines w (λ e. h (e ∙ length-take-le p.count offsets run)))

    pub agreed_by : r.lines ≡ p.count → eqb r.used p.at ≡ is_agreed out offsets p
    agreed_by e = go (eqb r.used p.at) refl
      where
        go : (b : Bool) → eqb r.used p.at ≡ b → b ≡ is_agreed out offsets p
        go true q = sym (by_lines ∙ walked_agree w (e ∙ sym (length-take-le p.count offsets run)) (eqb-true r.used p.at q ∙ sym (length-take-le p.at out bytes)))
        go false q = sym (by_lines ∙ fewer_bytes w (λ f. eqb-false r.used p.at q (f ∙ length-take-le p.at out bytes)))

  -- where it is, bytes and offsets are there
  pub agreed_within : {b : Bool} → b ≡ is_agreed out offsets p → not b ≡ false → (p.at ≤ length out) × (p.count ≤ length offsets)
  agreed_within told f = let a = agreed_is version1 out offsets p (so told f) in (a.0, a.1)

-- ---- `end_as`

module _ (t : Trailer) (out offsets : List ℕ) (p : Place) where
  abbrev Ends : Result ℕ NotEnded → List ℕ → Type 0
  Ends r out' = (r ≡ ended_of t out offsets p) × (out' ≡ out_ended r t out offsets p)

  module _ {agreed : Bool} (told : agreed ≡ is_agreed out offsets p) where
    pub not_agreed : not agreed ≡ true → Ends (Err Disagree) out
    unfolding out_ended
    not_agreed h = (sym (disagree_is t out offsets p (λ a. true_false (is_agreed_lem t out offsets p a) (not_so told h))), refl)

    module _ (is : not agreed ≡ false) {over : Bool} (asked : over ≡ is_over t p) where
      agrees : Agrees t out offsets p
      agrees = agreed_is t out offsets p (so told is)

      pub ended_over : over ≡ true → Ends (Err TooMany) out
      unfolding out_ended
      ended_over h = (sym (over_answer t out offsets p agrees (over_is t out offsets p (sym asked ∙ h))), refl)

      module _ (few : over ≡ false) {n : ℕ} (size : n ≡ trailer_size t) where
        no_more : IsOverfull t out offsets p → ⊥
        no_more m = true_false (is_over_lem t out offsets p m) (sym asked ∙ few)

        pub ended_full : length out < p.at + 4 * p.count + n → Ends (Err NoRoom) out
        unfolding out_ended
        ended_full h = (sym (short_answer t out offsets p agrees no_more (omega arith)), refl)

        pub ended_whole : p.at + 4 * p.count + n ≤ length out → {a b : List ℕ} → a ≡ spliced out p.at (index_of (take p.count offsets))
            → b ≡ spliced a (p.at + 4 * p.count) (trailer_of t p.at p.count) → Ends (Ok (p.at + 4 * p.count + n)) b
        unfolding out_ended closing
        ended_whole h e f =
            let i = index_of (take p.count offsets) in
            let l : p.at + 4 * p.count ≡ p.at + length i = omega (arith, length_index (take p.count offsets), length-take-le p.count offsets agrees.1) in (
              sym (whole_answer t out offsets p agrees no_more (omega arith) ∙ ap Ok (omega (arith, closing_length t out offsets p agrees))),
              then_put out i (trailer_of t p.at p.count) p.at (p.at + 4 * p.count) l (omega arith) e f,
            )
