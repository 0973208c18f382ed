-- Numbers as bytes, high byte first, and an index of them: `text`'s digits of a number, to the base 256. Assumes nothing.
use mathlib.Core.Path.{◌≡◌, refl, sym, ap, ◌∙◌}
use mathlib.Core.Bool.{true, ◌&&◌}
use mathlib.Core.List.{List, [], ◌∷◌, ◌++◌, append_assoc}
use Prim.Native.Nat.{ℕ, zero, suc, ◌+◌, ◌*◌, ◌/◌, ◌^◌, ◌≤◌, ◌<◌}
use native.Mathlib.Nat.{add-zero, mul_assoc, pow-zero, pow-suc}
use native.Mathlib.Numerals.{add-one}
use native.Mathlib.Omega.{arith}
use lib.ListN.{length, take, drop, get_or, length-append, take-append-drop}
use lib.Seq.{take_at, drop_at, split_at, get_or-drop, length-take-le}
use Rattle.text.specs.Place.{value, places, all_in}
use Rattle.text.proofs.Logic.{and_left, and_right}
use Rattle.text.proofs.Places.{all_in_cons, value_four, value_lt, length-places, places_value, value_places}
use Rattle.text.proofs.Parts.{all_append}
use Rattle.dayfile.specs.DayFile.{index_of, is_bytes}
use Rattle.dayfile.specs.Opening.{offsets_in}

-- the number of w digits is looked for in the first w, whatever stands after them
pub value_take : (B w : ℕ) (s : List ℕ) → value B w (take w s) ≡ value B w s
unfolding value
value_take B zero s = refl
value_take B (suc w) [] = refl
value_take B (suc w) (d ∷ s) = rw (value_take B w s)

pub value_front : (B w : ℕ) (x y : List ℕ) → length x ≡ w → value B w (x ++ y) ≡ value B w x
value_front B w x y e = sym (value_take B w (x ++ y)) ∙ ap (value B w) (take_at x y w e)

-- one place more
pub value_next : (B i : ℕ) (s : List ℕ) → value B (i + 1) s ≡ value B i s * B + get_or s i 0
unfolding value
value_next B zero [] = omega arith
value_next B zero (d ∷ s) = rw pow-zero (omega arith)
value_next B (suc i) [] = rw add-one (omega arith)
value_next B (suc i) (d ∷ s) = let e : suc i + 1 ≡ suc (i + 1) = omega arith in rw (e, value_next B i s, add-one, pow-suc) (omega (arith, mul_assoc d (B ^ i) B))

-- ---- lists of bytes

pub all_in_append : (lo hi : ℕ) (x y : List ℕ) → all_in lo hi (x ++ y) ≡ (all_in lo hi x && all_in lo hi y)
unfolding all_in
all_in_append lo hi x y = all_append _ x y

module _ (lo hi : ℕ) (x y : List ℕ) where
  pub all_in_left : all_in lo hi (x ++ y) ≡ true → all_in lo hi x ≡ true
  all_in_left e = and_left (all_in lo hi x) (all_in lo hi y) (sym (all_in_append lo hi x y) ∙ e)

  pub all_in_right : all_in lo hi (x ++ y) ≡ true → all_in lo hi y ≡ true
  all_in_right e = and_right (all_in lo hi x) (all_in lo hi y) (sym (all_in_append lo hi x y) ∙ e)

module _ (n : ℕ) (s : List ℕ) (b : is_bytes s ≡ true) where
  pub bytes_take : is_bytes (take n s) ≡ true
  bytes_take = all_in_left 0 255 (take n s) (drop n s) (rw take-append-drop b)

  pub bytes_drop : is_bytes (drop n s) ≡ true
  bytes_drop = all_in_right 0 255 (take n s) (drop n s) (rw take-append-drop b)

-- ---- the digit law at the base 256

pub number_of : (w n : ℕ) → n < 256 ^ w → value 256 w (places 256 w n) ≡ n
number_of w n h = value_places 256 255 (omega arith) w n h

-- the bytes of the number of the first w bytes are these
pub bytes_of : (w : ℕ) (s : List ℕ) → w ≤ length s → is_bytes s ≡ true → places 256 w (value 256 w s) ≡ take w s
bytes_of w s h b = rw (← (value_take 256 w s)) (places_value 256 255 (omega arith) w (take w s) (length-take-le w s h) (bytes_take w s b))

pub number_below : (w : ℕ) (s : List ℕ) → is_bytes s ≡ true → value 256 w s < 256 ^ w
number_below w s b = value_lt 256 255 (omega arith) 0 w s b

-- ---- an index

pub length_index : (os : List ℕ) → length (index_of os) ≡ 4 * length os
unfolding index_of
length_index [] = refl
length_index (o ∷ os) = omega (arith, length-append (places 256 4 o) (index_of os), length-places 256 4 o, length_index os)

pub index_append : (os ps : List ℕ) → index_of (os ++ ps) ≡ index_of os ++ index_of ps
unfolding index_of
index_append [] ps = refl
index_append (o ∷ os) ps = rw (index_append os ps) (sym (append_assoc (places 256 4 o) (index_of os) (index_of ps)))

-- the first four bytes are the first number
pub offsets_four : (x s : List ℕ) → length x ≡ 4 → offsets_in (x ++ s) ≡ value 256 4 x ∷ offsets_in s
unfolding offsets_in
offsets_four [] s e = absurd (omega arith)
offsets_four (a ∷ []) s e = absurd (omega arith)
offsets_four (a ∷ (b ∷ [])) s e = absurd (omega arith)
offsets_four (a ∷ (b ∷ (c ∷ []))) s e = absurd (omega arith)
offsets_four (a ∷ (b ∷ (c ∷ (d ∷ [])))) s e = refl
offsets_four (a ∷ (b ∷ (c ∷ (d ∷ (f ∷ x))))) s e = absurd (omega arith)

-- as many numbers as there are whole fours
pub length-offsets : (s : List ℕ) → length (offsets_in s) ≡ length s / 4
unfolding offsets_in
length-offsets [] = omega arith
length-offsets (a ∷ []) = omega arith
length-offsets (a ∷ (b ∷ [])) = omega arith
length-offsets (a ∷ (b ∷ (c ∷ []))) = omega arith
length-offsets (a ∷ (b ∷ (c ∷ (d ∷ s)))) = omega (arith, length-offsets s)

-- whole numbers of an index, and then the others
pub offsets_append : (x y : List ℕ) (n : ℕ) → length x ≡ 4 * n → offsets_in (x ++ y) ≡ offsets_in x ++ offsets_in y
unfolding offsets_in
offsets_append [] y n e = refl
offsets_append (a ∷ []) y n e = absurd (omega arith)
offsets_append (a ∷ (b ∷ [])) y n e = absurd (omega arith)
offsets_append (a ∷ (b ∷ (c ∷ []))) y n e = absurd (omega arith)
offsets_append (a ∷ (b ∷ (c ∷ (d ∷ x)))) y zero e = absurd (omega arith)
offsets_append (a ∷ (b ∷ (c ∷ (d ∷ x)))) y (suc n) e = rw (offsets_append x y n (omega arith))

pub offsets_index : (os : List ℕ) → all_in 0 4294967295 os ≡ true → offsets_in (index_of os) ≡ os
unfolding index_of offsets_in
offsets_index [] e = refl
offsets_index (o ∷ os) e =
    let p = all_in_cons 0 4294967295 o os e in
    offsets_four (places 256 4 o) (index_of os) (length-places 256 4 o) ∙ rw (number_of 4 o (omega arith), offsets_index os p.2)

pub index_offsets : (s : List ℕ) (n : ℕ) → is_bytes s ≡ true → length s ≡ 4 * n → index_of (offsets_in s) ≡ s
unfolding index_of offsets_in
index_offsets [] n b e = refl
index_offsets (a ∷ []) n b e = absurd (omega arith)
index_offsets (a ∷ (b ∷ [])) n i e = absurd (omega arith)
index_offsets (a ∷ (b ∷ (c ∷ []))) n i e = absurd (omega arith)
index_offsets (a ∷ (b ∷ (c ∷ (d ∷ s)))) zero i e = absurd (omega arith)
index_offsets (a ∷ (b ∷ (c ∷ (d ∷ s)))) (suc n) i e =
    let x = a ∷ (b ∷ (c ∷ (d ∷ []))) in
    rw (bytes_of 4 x (omega arith) (all_in_left 0 255 x s i), index_offsets s n (all_in_right 0 255 x s i) (omega arith))

-- the bytes of the k-th number
pub index_at : (os : List ℕ) (k : ℕ) (rest : List ℕ) → k < length os → drop (4 * k) (index_of os ++ rest) ≡ places 256 4 (get_or os k 0) ++ (index_of (drop (suc k) os) ++ rest)
unfolding index_of
index_at os k rest h =
    let o = get_or os k 0 in
    let before = index_of (take k os) in
    let after = index_of (drop (suc k) os) in
    let e : index_of os ≡ before ++ (places 256 4 o ++ after) = ap index_of (split_at os k 0 h) ∙ index_append (take k os) (o ∷ drop (suc k) os) in
    let size : length before ≡ 4 * k = omega (arith, length_index (take k os), length-take-le k os (omega arith)) in
    rw (e, append_assoc) (drop_at before (places 256 4 o ++ after ++ rest) (4 * k) size ∙ append_assoc (places 256 4 o) after rest)

-- ---- four bytes and two from a place on, high byte first, in numbers

abbrev pub four_at : List ℕ → ℕ → ℕ
four_at s i = get_or s i 0 * 16777216 + get_or s (i + 1) 0 * 65536 + get_or s (i + 2) 0 * 256 + get_or s (i + 3) 0

abbrev pub two_at : List ℕ → ℕ → ℕ
two_at s i = get_or s i 0 * 256 + get_or s (i + 1) 0

two_bytes : (s : List ℕ) → value 256 2 s ≡ two_at s 0
unfolding value
two_bytes [] = refl
two_bytes (a ∷ []) = omega arith
two_bytes (a ∷ (b ∷ s)) = omega arith

pub four_at_lem : (s : List ℕ) (i : ℕ) → value 256 4 (drop i s) ≡ four_at s i
four_at_lem s i = value_four (drop i s) ∙ rw (get_or-drop i s 0 0, get_or-drop i s 1 0, get_or-drop i s 2 0, get_or-drop i s 3 0, add-zero)

pub two_at_lem : (s : List ℕ) (i : ℕ) → value 256 2 (drop i s) ≡ two_at s i
two_at_lem s i = two_bytes (drop i s) ∙ rw (get_or-drop i s 0 0, get_or-drop i s 1 0, add-zero)
