-- Writing in a buffer: bytes after bytes are written as one. Assumes nothing.
use mathlib.Core.Path.{◌≡◌, sym, ◌∙◌}
use mathlib.Core.List.{List, [], ◌∷◌, ◌++◌, append-nil, append_assoc}
use Prim.Native.Nat.{ℕ, suc, ◌+◌, ◌-◌, ◌≤◌, ◌<◌}
use native.Mathlib.Nat.{zero-add, add-zero, le_of_eq}
use native.Mathlib.Numerals.{add-one}
use native.Mathlib.Omega.{arith}
use lib.ListN.{length, take, drop, set, length-append, length-drop, drop_of_length-le, take-append-drop}
use lib.Seq.{length-take-le, take_at, drop_at, drop-drop, set_split, append_snoc, take_all, take-set-le}
use borrow.Rule.Slice.PartMut.{put_mid}
use Rattle.text.specs.Text.{spliced}

pub length-spliced : (l vs : List ℕ) (i : ℕ) → i + length vs ≤ length l → length (spliced l i vs) ≡ length l
unfolding spliced
length-spliced l vs i h =
    omega (arith, length-append (take i l ++ vs) (drop (i + length vs) l), length-append (take i l) vs, length-take-le i l (omega arith), length-drop (i + length vs) l)

-- us after vs is both at once
pub spliced_next : (l vs us : List ℕ) (i : ℕ) → i + length vs ≤ length l → spliced (spliced l i vs) (i + length vs) us ≡ spliced l i (vs ++ us)
unfolding spliced
spliced_next l vs us i h =
    let front : length (take i l ++ vs) ≡ i + length vs = omega (arith, length-append (take i l) vs, length-take-le i l (omega arith)) in
    let z : i + length (vs ++ us) ≡ i + length vs + length us = omega (arith, length-append vs us) in
    rw (
      take_at (take i l ++ vs) (drop (i + length vs) l) (i + length vs) front,
      ← (drop-drop (length us) (i + length vs) (take i l ++ vs ++ drop (i + length vs) l)),
      drop_at (take i l ++ vs) (drop (i + length vs) l) (i + length vs) front,
      drop-drop (length us) (i + length vs) l,
      z,
      append_assoc (take i l) vs us,
    )

-- one store is one byte written
pub set-spliced : (l : List ℕ) (i b : ℕ) → i < length l → set l i b ≡ spliced l i (b ∷ [])
unfolding spliced
set-spliced l i b h = set_split l i b h ∙ rw add-one (sym (append_snoc (take i l) b (drop (suc i) l)))

-- one store more, after what was written
pub next_store : (l vs : List ℕ) (i b : ℕ) → i + length vs < length l → set (spliced l i vs) (i + length vs) b ≡ spliced l i (vs ++ b ∷ [])
next_store l vs i b h =
    let k : i + length vs ≤ length l = omega arith in
    set-spliced (spliced l i vs) (i + length vs) b (omega (arith, length-spliced l vs i k)) ∙ spliced_next l vs (b ∷ []) i k

-- what was written at the start stands at the start
pub take-spliced : (l vs : List ℕ) (n : ℕ) → n ≡ length vs → take n (spliced l 0 vs) ≡ vs
unfolding spliced
take-spliced l vs n e = take_at vs (drop (0 + length vs) l) n (sym e)

-- no bytes written change nothing
pub spliced_none : (l : List ℕ) (i : ℕ) → spliced l i [] ≡ l
unfolding spliced
spliced_none l i = rw (append-nil, add-zero) (take-append-drop i l)

-- one store, and then what comes before it, is both at once
pub spliced_last : (l vs : List ℕ) (i m b : ℕ) → length vs ≡ m → i + m < length l → spliced (set l (i + m) b) i vs ≡ spliced l i (vs ++ b ∷ [])
unfolding spliced
spliced_last l vs i m b e h =
    let j = i + m in
    let back : drop j (set l j b) ≡ b ∷ drop (suc j) l = rw (set_split l j b h) (drop_at (take j l) (b ∷ drop (suc j) l) j (length-take-le j l (omega arith))) in
    let next : i + length (vs ++ b ∷ []) ≡ suc j = omega (arith, length-append vs (b ∷ [])) in
    rw (take-set-le i l j b (omega arith), e, back, next, ← (append_assoc (take i l) vs (b ∷ [])), append_snoc)

-- what is written at the start of the rest that is lent on, from m, is written at m
pub lend_on : (l us : List ℕ) (m : ℕ) {ys : List ℕ} → ys ≡ spliced (take (length l - m) (drop m l)) 0 us → put_mid m (length l - m) l ys ≡ spliced l m us
unfolding spliced
lend_on l us m e =
    let after = us ++ drop (0 + length us) (drop m l) in
    rw (e, take_all (length l - m) (drop m l) (le_of_eq (length-drop m l)), drop_of_length-le (drop m l) (le_of_eq (length-drop m l)), append-nil after, zero-add, drop-drop (length us) m l)
    (sym (append_assoc (take m l) us (drop (m + length us) l)))

-- the bytes vs copied over the part of l that starts at i
pub put_mid-spliced : (l vs ys : List ℕ) (i : ℕ) → ys ≡ vs → put_mid i (i + length vs - i) l ys ≡ spliced l i vs
unfolding spliced
put_mid-spliced l vs ys i e =
    let k : i + length vs - i ≡ length vs = omega arith in
    rw (e, k, drop-drop (length vs) i l) (sym (append_assoc (take i l) vs (drop (i + length vs) l)))
