-- What a chain over a text gives, in the words of the definitions. Assumes nothing.
use mathlib.Core.Path.{◌≡◌, refl, sym, ap, ◌∙◌}
use mathlib.Core.Bool.{Bool, true, false, cond, not, ◌&&◌, ◌||◌, and_assoc, or_assoc, and-true, or-false}
use mathlib.Core.List.{List, [], ◌∷◌, ◌++◌}
use Prim.Native.Nat.{ℕ, zero, suc, ◌+◌, ◌*◌, ◌/◌, ◌≤◌, ◌<◌}
use native.Mathlib.Omega.{arith}
use lib.Dec.{eqb, leb, ltb}
use lib.ListN.{length, take, drop, length-append, length-drop, take-append-drop}
use lib.Seq.{length-take-le, drop-drop, take_at, drop_at}
use borrow.Author.Tests.{ltb-false}
use Rattle.std.proofs.Common.{Option, Some, None}
use Rattle.std.proofs.lemmas.Iterator.{YieldsList}
use Rattle.std.proofs.lemmas.Iterator.Splits.{YieldsList-from_shown_while}
use Rattle.std.specs.Option.{unwrap_or}
use Rattle.std.specs.Slice.Iter.{chunks_exact_rest, chunks_exact_size, chunks_exact_steps}
use Rattle.std.specs.List.{list_all, list_any, position_or_len, prefix_len, slice_split, zip, fold}
use Rattle.std.specs.Simd.{first_chunks}
use Rattle.text.specs.Class.{all}
use Rattle.text.specs.Place.{all_in}
use Rattle.shapes.specs.Picture.{is_of, fits, fits_any}
use Rattle.shapes.specs.Cut.{up_to, has}
use Rattle.shapes.specs.Pieces.{pieces}
use Rattle.shapes.proofs.Joins.{up_to_past, no_cut}
use Rattle.shapes.proofs.Laws.{up_to_le}
use Rattle.shapes.proofs.Pieces.{has_more}

pub each_is : (f : ℕ → Bool) (s : List ℕ) → list_all f s ≡ all f s
unfolding all
each_is f [] = refl
each_is f (x ∷ s) = rw (each_is f s)

-- a picture and a text of one length, place by place
pub pairs_fit : (p s : List ℕ) → length p ≡ length s → list_all (λ x. is_of x.0 x.1) (zip p s) ≡ fits p s
unfolding fits
pairs_fit [] [] e = refl
pairs_fit [] (b ∷ s) e = absurd (omega arith)
pairs_fit (k ∷ p) [] e = absurd (omega arith)
pairs_fit (k ∷ p) (b ∷ s) e = rw (pairs_fit p s (omega arith))

pub any_fits : (ps : List (List ℕ)) (s : List ℕ) → list_any (λ p. fits p s) ps ≡ fits_any ps s
unfolding fits_any
any_fits [] s = refl
any_fits (p ∷ ps) s = rw (any_fits ps s)

place_is : (b : ℕ) (s : List ℕ) → position_or_len (λ x. eqb x b) s ≡ up_to b s
unfolding up_to
place_is b [] = refl
place_is b (x ∷ s) = rw (place_is b s) (turn (eqb x b))
  where
    turn : (t : Bool) → cond (not t) (1 + up_to b s) 0 ≡ cond t 0 (suc (up_to b s))
    turn true = refl
    turn false = omega arith

-- the place that was found, or the end
pub place_or_end : (b : ℕ) (s : List ℕ) {r : Option ℕ} → r ≡ cond (ltb (position_or_len (λ x. eqb x b) s) (length s)) (Some (position_or_len (λ x. eqb x b) s)) None → unwrap_or r (length s) ≡ up_to b s
place_or_end b s e = rw (e, place_is b s) (go (ltb (up_to b s) (length s)) refl)
  where
    go : (t : Bool) → ltb (up_to b s) (length s) ≡ t → unwrap_or (cond t (Some (up_to b s)) None) (length s) ≡ up_to b s
    go true q = refl
    go false q = omega (arith, ltb-false (up_to b s) (length s) q, up_to_le b s)

pub split_is : (b : ℕ) (s : List ℕ) → slice_split (λ x. eqb x b) s ≡ pieces b s
unfolding pieces
split_is b [] = refl
split_is b (x ∷ s) = rw (split_is b s)

-- a pass that goes on to the end gives what it knew before, and what it sees
pub some_or_has : (b : ℕ) (t : Bool) (s : List ℕ) → fold (λ t x. t || eqb x b) t s ≡ (t || has b s)
unfolding has up_to
some_or_has b t [] = sym (or-false t)
some_or_has b t (x ∷ s) = some_or_has b (t || eqb x b) s ∙ or_assoc t (eqb x b) (has b s) ∙ ap (λ r. t || r) (sym (has_more b x s))

pub each_and_within : (lo hi : ℕ) (t : Bool) (s : List ℕ) → fold (λ t b. t && leb lo b && leb b hi) t s ≡ (t && all_in lo hi s)
unfolding all_in all
each_and_within lo hi t [] = sym (and-true t)
each_and_within lo hi t (x ∷ s) = each_and_within lo hi (t && leb lo x && leb x hi) s ∙ simp and_assoc

-- ---- sixteen at a time

-- the whole sixteens of a text, and those of what is left after the first
abbrev of_sixteen : List ℕ → List (List ℕ)
of_sixteen s = first_chunks 16 (length s / 16) s

no_sixteen : (s : List ℕ) → length s < 16 → length (of_sixteen s) ≡ 0
no_sixteen s h = let z : length s / 16 ≡ 0 = omega arith in rw z

next_sixteen : (s x t : List ℕ) → s ≡ x ++ t → length x ≡ 16 → of_sixteen s ≡ x ∷ of_sixteen t
next_sixteen s x t e h =
    let z : length (x ++ t) / 16 ≡ suc (length t / 16) = omega (arith, length-append x t) in
    rw (e, z, take_at x t 16 h, drop_at x t 16 h)

pub whole_sixteens : {it : _} (s : List ℕ) → chunks_exact_rest it ≡ s → chunks_exact_size it ≡ 16 → YieldsList chunks_exact_steps (λ x. x.now) it (first_chunks 16 (length s / 16) s)
whole_sixteens {it} s e size =
    rw (← e)
    (YieldsList-from_shown_while chunks_exact_steps (λ x. x.now) (λ it. of_sixteen (chunks_exact_rest it)) (λ it. chunks_exact_size it ≡ 16)
    (λ u v p step. no_sixteen (chunks_exact_rest u) (omega (arith, p, step.1.0)))
    (λ u x v p step. (step.0 ∙ p, next_sixteen (chunks_exact_rest u) x.now (chunks_exact_rest v) step.1.0 (step.1.1 ∙ p)))
    it size)

module _ (b : ℕ) where
  -- how many sixteens from the front on have no b
  abbrev pub passed : ℕ → List ℕ → ℕ
  passed k s = prefix_len (λ p. not (has b p)) (first_chunks 16 k s)

  past : (s : List ℕ) → 16 ≤ length s → has b (take 16 s) ≡ false → 16 + up_to b (drop 16 s) ≡ up_to b s
  past s h e =
      omega (arith, length-take-le 16 s h, up_to_past b (take 16 s) (drop 16 s) (no_cut b (take 16 s) e), ap (up_to b) (take-append-drop 16 s))

  -- they and the place in what is left make the place
  pub sixteens : (k : ℕ) (s : List ℕ) → k * 16 ≤ length s → passed k s * 16 + up_to b (drop (passed k s * 16) s) ≡ up_to b s
  sixteens zero s h = omega arith
  sixteens (suc k) s h = go (has b (take 16 s)) refl (sixteens k (drop 16 s) (omega (arith, length-drop 16 s)))
    where
      m : ℕ
      m = passed k (drop 16 s)

      go : (t : Bool) → has b (take 16 s) ≡ t → m * 16 + up_to b (drop (m * 16) (drop 16 s)) ≡ up_to b (drop 16 s)
          → cond (not (has b (take 16 s))) (1 + m) 0 * 16 + up_to b (drop (cond (not (has b (take 16 s))) (1 + m) 0 * 16) s) ≡ up_to b s
      go true q r = rw q (omega arith)
      go false q r =
          let z : (1 + m) * 16 ≡ 16 + m * 16 = omega arith in
          let d : drop (16 + m * 16) s ≡ drop (m * 16) (drop 16 s) = rw drop-drop in
          rw (q, z, d) (omega (arith, r, past s (omega arith) q))
