-- What `join` finds: x and y are the texts of a and b, written with a slash between them at the start of twelve bytes.
-- Assumes nothing.
use Rattle.std.specs.Prelude.{Err, None, Ok, Some}
use mathlib.Core.Path.{◌≡◌, refl, sym, ap, ◌∙◌}
use mathlib.Core.Bool.{Bool, true, false, ◌&&◌, and-false}
use mathlib.Core.List.{List, [], ◌∷◌, ◌++◌}
use Prim.Native.Nat.{ℕ, ◌+◌, ◌≤◌, ◌<◌}
use native.Mathlib.Omega.{arith}
use lib.Dec.{leb}
use lib.ListN.{length, take, set, length-append}
use lib.Seq.{append_snoc}
use borrow.Author.Tests.{le-leb, lt-leb, leb-false}
use Rattle.text.specs.Class.{all, is_digit, is_letter, is_alnum, is_text_byte}
use Rattle.text.specs.Text.{packed, text_of, is_text, is_packed, pack_of, slashed, join_of, spliced, written_next, written_bytes}
use Rattle.text.proofs.Logic.{and_left, and_right}
use Rattle.text.proofs.Codes.{all_between}
use Rattle.text.proofs.Laws.{text_is, next_known, no_room_known, no_text_known, has_room_lem, twelve_unwritten}
use Rattle.text.proofs.Splice.{length-spliced, spliced_next, set-spliced, take-spliced}
use Rattle.text.specs.declared.NotWritten.{NotWritten}
use Rattle.text.specs.declared.NotWritten.TheVariants.{NoRoom, NoText}

pub length-slashed : (x y : List ℕ) → length (slashed x y) ≡ length x + 1 + length y
unfolding slashed
length-slashed x y = omega (arith, length-append x (47 ∷ y))

text_bytes : (t : ℕ) → is_packed t ≡ true → all is_text_byte (text_of t) ≡ true
unfolding is_text
text_bytes t e = and_right (leb (length (text_of t)) 12) (all is_text_byte (text_of t)) (text_is t e)

slashed_bytes : (x y : List ℕ) → all is_text_byte x ≡ true → all is_text_byte y ≡ true → all is_text_byte (slashed x y) ≡ true
unfolding slashed is_text_byte is_alnum is_digit is_letter
slashed_bytes x y h k = all_between is_text_byte x 47 y refl h k

module _ (a b : ℕ) where
  pub join_first : is_packed a ≡ false → None ≡ join_of a b
  unfolding join_of
  join_first e = rw e

  join_second : is_packed a ≡ true → is_packed b ≡ false → None ≡ join_of a b
  unfolding join_of
  join_second e f = rw (e, f)

  join_long : is_packed a ≡ true → 12 < length (text_of a) + 1 + length (text_of b) → None ≡ join_of a b
  unfolding join_of
  join_long e h =
      let long = lt-leb (length (slashed (text_of a) (text_of b))) 12 (omega (arith, length-slashed (text_of a) (text_of b))) in
      rw (e, long, and-false)

  join_done : is_packed a ≡ true → is_packed b ≡ true → length (text_of a) + 1 + length (text_of b) ≤ 12 → pack_of (slashed (text_of a) (text_of b)) ≡ join_of a b
  unfolding join_of pack_of is_text
  join_done e f h =
      let short = le-leb (length (slashed (text_of a) (text_of b))) 12 (omega (arith, length-slashed (text_of a) (text_of b))) in
      rw (e, f, short, slashed_bytes (text_of a) (text_of b) (text_bytes a e) (text_bytes b f))

-- the first text was written
module _ (a b : ℕ) (room : List ℕ) (twelve : length room ≡ 12) where
  pub join_unwritten : (e : NotWritten) → written_next (is_packed a) (text_of a) room 0 ≡ Err e → None ≡ join_of a b
  join_unwritten k h = join_first a b (twelve_unwritten a room k twelve h)

module _ (a b n : ℕ) (room once : List ℕ) (twelve : length room ≡ 12) (told : written_next (is_packed a) (text_of a) room 0 ≡ Ok n) (is : once ≡ written_bytes (is_packed a) (text_of a) room 0) where
  known : (is_packed a ≡ true) × (n ≡ 0 + length (text_of a)) × (0 + length (text_of a) ≤ length room)
  known = next_known (text_of a) room 0 told

  pub join_full : 12 ≤ n → None ≡ join_of a b
  join_full h = join_long a b known.0 (omega (arith, known.1))

  module _ (few : n < 12) where
    begun : set once n 47 ≡ spliced room 0 (text_of a ++ 47 ∷ [])
    begun =
        let e : once ≡ spliced room 0 (text_of a) = is ∙ sym (has_room_lem (text_of a) room 0 known.0 known.2).1 in
        let l = length-spliced room (text_of a) 0 known.2 in
        ap (λ (r : List ℕ). set r n 47) e ∙ set-spliced (spliced room 0 (text_of a)) n 47 (omega (arith, l))
        ∙ (rw known.1 (spliced_next room (text_of a) (47 ∷ []) 0 known.2))

    pub sized : length (set once n 47) ≡ 12
    sized =
        let l = length-append (text_of a) (47 ∷ []) in
        ap length begun ∙ length-spliced room (text_of a ++ 47 ∷ []) 0 (omega (arith, known.1, l)) ∙ twelve

    pub join_unfinished : (e : NotWritten) → written_next (is_packed b) (text_of b) (set once n 47) (n + 1) ≡ Err e → None ≡ join_of a b
    join_unfinished NoText e = join_second a b known.0 (no_text_known (text_of b) (set once n 47) (n + 1) e)
    join_unfinished NoRoom e = join_long a b known.0 (omega (arith, sized, known.1, (no_room_known (text_of b) (set once n 47) (n + 1) e).1))

    -- and the second
    module _ (end : ℕ) (twice : List ℕ) (told₂ : written_next (is_packed b) (text_of b) (set once n 47) (n + 1) ≡ Ok end) (is₂ : twice ≡ written_bytes (is_packed b) (text_of b) (set once n 47) (n + 1)) where
      known₂ : (is_packed b ≡ true) × (end ≡ n + 1 + length (text_of b)) × (n + 1 + length (text_of b) ≤ length (set once n 47))
      known₂ = next_known (text_of b) (set once n 47) (n + 1) told₂

      pub join_end : end ≤ 12
      join_end = omega (arith, known₂.1, known₂.2, sized)

      stands : take end twice ≡ slashed (text_of a) (text_of b)
      unfolding slashed
      stands =
          let l = length-append (text_of a) (47 ∷ []) in
          let m = length-append (text_of a ++ 47 ∷ []) (text_of b) in
          let z : n + 1 ≡ 0 + length (text_of a ++ 47 ∷ []) = omega (arith, known.1, l) in
          let e : twice ≡ spliced (set once n 47) (n + 1) (text_of b) = is₂ ∙ sym (has_room_lem (text_of b) (set once n 47) (n + 1) known₂.0 known₂.2).1 in
          let w : twice ≡ spliced room 0 ((text_of a ++ 47 ∷ []) ++ text_of b) = e ∙ rw (begun, z) (spliced_next room (text_of a ++ 47 ∷ []) (text_of b) 0 (omega (arith, known.1, l))) in
          ap (take end) w ∙ take-spliced room ((text_of a ++ 47 ∷ []) ++ text_of b) end (omega (arith, known₂.1, known.1, l, m)) ∙ append_snoc (text_of a) 47 (text_of b)

      pub join_both : pack_of (take end twice) ≡ join_of a b
      join_both = ap pack_of stands ∙ join_done a b known.0 known₂.0 (omega (arith, known.1, known₂.1, join_end))

-- ---- what `join` answers

pub join_known : (a b : ℕ) {t : ℕ} → join_of a b ≡ Some t → (t ≡ packed (slashed (text_of a) (text_of b))) × (is_text (slashed (text_of a) (text_of b)) ≡ true)
unfolding join_of is_text
join_known a b {t} e = go (is_packed a && is_packed b) refl (leb (length (slashed (text_of a) (text_of b))) 12) refl
  where
    go : (p : Bool) → (is_packed a && is_packed b) ≡ p → (q : Bool) → leb (length (slashed (text_of a) (text_of b))) 12 ≡ q → (t ≡ packed (slashed (text_of a) (text_of b))) × (is_text (slashed (text_of a) (text_of b)) ≡ true)
    go true p true q =
        let x = text_bytes a (and_left (is_packed a) (is_packed b) p) in
        let y = text_bytes b (and_right (is_packed a) (is_packed b) p) in
        ((cc), rw (q, slashed_bytes (text_of a) (text_of b) x y))
    go true p false q = let z : None ≡ Some t = rw (p, q) at e in ((cc), (cc))
    go false p q r = let z : None ≡ Some t = rw p at e in ((cc), (cc))

pub join_none : (a b : ℕ) → is_packed a ≡ true → is_packed b ≡ true → join_of a b ≡ None → 12 < length (slashed (text_of a) (text_of b))
unfolding join_of
join_none a b p q e = go (leb (length (slashed (text_of a) (text_of b))) 12) refl
  where
    go : (r : Bool) → leb (length (slashed (text_of a) (text_of b))) 12 ≡ r → 12 < length (slashed (text_of a) (text_of b))
    go true r = let z : Some (packed (slashed (text_of a) (text_of b))) ≡ None = rw (p, q, r) at e in absurd (let y : ◌≡◌ {A = ℕ} 0 1 = cc in omega arith)
    go false r = leb-false (length (slashed (text_of a) (text_of b))) 12 r
