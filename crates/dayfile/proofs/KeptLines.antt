-- LINES KEPT ONE BY ONE: after any calls, taken or refused, the buffer and the run are the lines that were taken; ended, they are the file of these, which opens
-- and gives these. Over any trailer. Assumes nothing.
use Rattle.std.specs.Prelude.{Err, Ok, Result}
use mathlib.Core.Path.{◌≡◌, refl, sym, ap, ◌∙◌}
use mathlib.Core.Bool.{true}
use mathlib.Core.List.{List, [], ◌∷◌, ◌++◌, append-nil}
use mathlib.Core.Logic.{inl, inr}
use Prim.Native.Nat.{ℕ, ◌+◌, ◌-◌, ◌≤◌, zero-le}
use native.Mathlib.Nat.{zero-add, sub-zero}
use native.Mathlib.Omega.{arith}
use lib.ListN.{length, take, drop, length-append}
use lib.Seq.{take_at, length-take-le}
use Rattle.text.specs.Text.{spliced}
use Rattle.text.proofs.Splice.{length-spliced}
use Rattle.cutter.specs.Feed.{feed_of}
use Rattle.dayfile.specs.DayFile.{Sound, trailer_of, lines_text, starts_from, index_of, file_of, may_keep, each_may_keep, is_run}
use Rattle.dayfile.specs.Opening.{open_of, lines_in}
use Rattle.dayfile.specs.Keeping.{fed, out_after, run_after, closing, out_ended, ended_number}
use Rattle.dayfile.specs.Cases.{Agrees, IsOverfull, EndCase}
use Rattle.dayfile.specs.Run.{Keeps, Ends, place_after, taken_by, Run, begun, called}
use Rattle.dayfile.specs.declared.Trailer.{Trailer}
use Rattle.dayfile.specs.declared.Place.{Place}
use Rattle.dayfile.proofs.Files.{lines_append, starts_append, each_append, run_parts, parts_run}
use Rattle.dayfile.proofs.Opens.{opens_file, lines_file}
use Rattle.dayfile.proofs.KeptCases.{IsTaken, is_taken_lem, end_case, is_ended}
use Rattle.dayfile.specs.declared.NotKept.TheVariants.{LineFeed, NoRoom, TooLong, TooMany}
use Rattle.dayfile.specs.declared.NotEnded.{NotEnded}
use Rattle.dayfile.specs.declared.NotKept.{NotKept}

-- what was written to the left stays there, and what was written follows it
pub take-written : (l vs : List ℕ) (i n : ℕ) → n ≡ i + length vs → n ≤ length l → take n (spliced l i vs) ≡ take i l ++ vs
unfolding spliced
take-written l vs i n e h = take_at (take i l ++ vs) (drop (i + length vs) l) n (omega (arith, length-append (take i l) vs, length-take-le i l (omega arith)))

-- one line more
module _ (ls : List (List ℕ)) (l : List ℕ) where
  pub text_more : lines_text (ls ++ l ∷ []) ≡ lines_text ls ++ fed l
  unfolding feed_of
  text_more = lines_append ls (l ∷ [])

  pub starts_more : starts_from 0 (ls ++ l ∷ []) ≡ starts_from 0 ls ++ length (lines_text ls) ∷ []
  unfolding starts_from
  starts_more = starts_append 0 ls (l ∷ []) ∙ rw zero-add

  pub each_more : each_may_keep ls ≡ true → may_keep l ≡ true → each_may_keep (ls ++ l ∷ []) ≡ true
  unfolding each_may_keep
  each_more e k = each_append ls (l ∷ []) ∙ rw (e, k)

-- the buffer, the run and the place are these lines
pub record AreKept (t : Trailer) (out offsets : List ℕ) (p : Place) (ls : List (List ℕ)) : Type 0 where
  pub many : p.count ≡ length ls
  pub far : p.at ≡ length (lines_text ls)
  pub inside : p.at ≤ length out
  pub within : p.count ≤ length offsets
  pub text : take p.at out ≡ lines_text ls
  pub starts : take p.count offsets ≡ starts_from 0 ls
  pub run : is_run t ls ≡ true

module _ (t : Trailer) where
  -- a call that takes its line
  module _ (out offsets : List ℕ) (p : Place) (ls : List (List ℕ)) (k : AreKept t out offsets p ls) (l : List ℕ) where
    on : (q : Place) → IsTaken t.most 0 l out offsets p q → AreKept t (spliced out (p.at - 0) (fed l)) (spliced offsets p.count (p.at ∷ [])) q (ls ++ l ∷ [])
    on q i =
        let at = p.at in
        let n = p.count in
        let ms = ls ++ l ∷ [] in
        let far : at + length (fed l) ≡ length (lines_text ms) = omega (arith, ap length (text_more ls l), length-append (lines_text ls) (fed l), k.far) in
        let many : n + 1 ≡ length ms = omega (arith, length-append ls (l ∷ []), k.many) in
        let room : at + length (fed l) ≤ length out = omega (arith, i.room) in
        let one : n + 1 ≤ length offsets = omega (arith, i.one) in
        rw (sub-zero, i.place)
        record {
          many = many;
          far = far;
          inside = omega (arith, length-spliced out (fed l) at room);
          within = omega (arith, length-spliced offsets (at ∷ []) n one);
          text = take-written out (fed l) at (at + length (fed l)) refl room ∙ rw k.text (sym (text_more ls l));
          starts = take-written offsets (at ∷ []) n (n + 1) refl one ∙ rw (k.starts, k.far) (sym (starts_more ls l));
          run = parts_run t ms (each_more ls l (run_parts t ls k.run).0 i.line) (omega (arith, i.fewer)) (omega (arith, i.near));
        }

    called_on : {out' offsets' : List ℕ} (r : Result Place NotKept) → Keeps t.most l out offsets p r out' offsets' → AreKept t out' offsets' (place_after r p) (ls ++ taken_by r l)
    unfolding out_after run_after place_after taken_by
    called_on (Ok q) c = rw (c.1, c.2) (on q (is_taken_lem t.most 0 l out offsets p q (sym c.0)))
    called_on (Err TooLong) c = rw (c.1, c.2, append-nil ls) k
    called_on (Err LineFeed) c = rw (c.1, c.2, append-nil ls) k
    called_on (Err TooMany) c = rw (c.1, c.2, append-nil ls) k
    called_on (Err NoRoom) c = rw (c.1, c.2, append-nil ls) k

  -- AFTER ANY CALLS, TAKEN OR REFUSED, THE LINES TAKEN STAND IN THE BUFFER, AND WHERE THEY BEGIN IN THE RUN
  pub are_kept : {out offsets : List ℕ} {p : Place} {ls : List (List ℕ)} → Run t.most out offsets p ls → AreKept t out offsets p ls
  unfolding starts_from each_may_keep feed_of
  are_kept begun = record { many = refl; far = refl; inside = zero-le; within = zero-le; text = refl; starts = refl; run = parts_run t [] refl zero-le (omega arith) }
  are_kept (called {out = out} {offsets = offsets} {p = p} {ls = ls} {r = r} before l c) = called_on out offsets p ls (are_kept before) l r c

  -- so ending them never answers 13 or 24
  module _ {out offsets : List ℕ} {p : Place} {ls : List (List ℕ)} (run : Run t.most out offsets p ls) where
    agreed : Agrees t out offsets p
    agreed = let k = are_kept run in (k.inside, k.within, record { run = ls; text = k.text; each = (run_parts t ls k.run).0; starts = k.starts })

    not_overfull : IsOverfull t out offsets p → ⊥
    not_overfull (inl h) = let k = are_kept run in omega (arith, k.many, (run_parts t ls k.run).1)
    not_overfull (inr h) = let k = are_kept run in omega (arith, k.far, (run_parts t ls k.run).2)

    in_case : {n : ℕ} → EndCase t out offsets p n → (n ≡ 13 → ⊥) × (n ≡ 24 → ⊥)
    in_case (EndCase.Disagree d) = absurd (d agreed)
    in_case (EndCase.Overfull a o) = absurd (not_overfull o)
    in_case (EndCase.NoRoom a few h) = omega arith
    in_case (EndCase.Whole a few h) = omega arith

    pub never_13 : (r : Result ℕ NotEnded) (out' : List ℕ) → Ends t out offsets p r out' → ended_number r ≡ 13 → ⊥
    never_13 r out' e z = (in_case (end_case t out offsets p)).0 (rw (← e.0) z)

    pub never_24 : (r : Result ℕ NotEnded) (out' : List ℕ) → Ends t out offsets p r out' → ended_number r ≡ 24 → ⊥
    never_24 r out' e z = (in_case (end_case t out offsets p)).1 (rw (← e.0) z)

    -- READING WHAT WAS WRITTEN GIVES THE LINES
    module _ (sound : Sound t) (n : ℕ) (out' : List ℕ) (e : Ends t out offsets p (Ok n) out') where
      pub kept_file : take n out' ≡ file_of t ls
      unfolding out_ended file_of closing
      kept_file =
          let k = are_kept run in
          let d = is_ended t out offsets p n (sym e.0) in
          rw e.1 (take-written out (closing t offsets p) p.at n d.size (omega (arith, d.fits, d.size)) ∙ rw (k.text, k.starts, k.far, k.many))

      -- with no byte more
      pub kept_size : n ≡ length (file_of t ls)
      unfolding file_of closing
      kept_size =
          let k = are_kept run in
          (is_ended t out offsets p n (sym e.0)).size ∙ rw (k.starts, k.far, k.many) (sym (length-append (lines_text ls) (index_of (starts_from 0 ls) ++ trailer_of t (length (lines_text ls)) (length ls))))

      pub kept_opens : open_of t (take n out') ≡ Ok (record { lines = length ls; start = length (lines_text ls) })
      kept_opens = rw kept_file (opens_file t sound ls (are_kept run).run)

      pub kept_lines : lines_in t (take n out') ≡ ls
      kept_lines = rw kept_file (lines_file t sound ls (are_kept run).run)
