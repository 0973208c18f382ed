-- The laws of opening a file: the numbers in its last bytes, 20 to 22 by them, and 23 by what a walk over its lines tells. Assumes nothing.
use Rattle.std.specs.Prelude.{Err, Ok, Result}
use mathlib.Core.Path.{◌≡◌, refl, sym, ap, ◌∙◌}
use mathlib.Core.Bool.{Bool, true, false, cond}
use mathlib.Core.List.{List}
use Prim.Native.Nat.{ℕ, ◌+◌, ◌-◌, ◌*◌, ◌^◌, ◌≤◌, ◌<◌}
use native.Mathlib.Nat.{pow-le-pow_right}
use native.Mathlib.Omega.{arith}
use lib.Dec.{eqb, ltb}
use lib.ListN.{length, take, drop, length-drop}
use lib.Seq.{length-take-le}
use borrow.Author.Tests.{lt-ltb, le-ltb, eq-eqb, ne_eqb, eqb-true}
use Rattle.text.specs.Place.{value}
use Rattle.dayfile.specs.DayFile.{Sound, trailer_size}
use Rattle.dayfile.specs.Opening.{start_by, count_by, version_by, offsets_in, open_by, agree, or_wrong_lines, tail_of, open_of}
use Rattle.dayfile.specs.Walk.{Walks}
use Rattle.dayfile.specs.declared.Trailer.{Trailer}
use Rattle.dayfile.specs.declared.Contents.{Contents}
use Rattle.dayfile.specs.declared.walking.Walked.{Walked}
use Rattle.dayfile.proofs.Bytes.{value_take, length-offsets}
use Rattle.dayfile.proofs.Walks.{walked_agree, fewer_lines, fewer_bytes}
use Rattle.dayfile.specs.declared.NotOpened.TheVariants.{TooShort, UnknownVersion, WrongLength, WrongLines}
use Rattle.dayfile.specs.declared.NotOpened.{NotOpened}

-- ---- numbers in a part

-- the first m of some bytes, where m comes to w, and their number
module _ (m w : ℕ) (x : List ℕ) (e : m ≡ w) (h : w ≤ length x) where
  pub front_long : length (take m x) ≡ w
  front_long = rw e (length-take-le w x h)

  pub front_number : value 256 (length (take m x)) (take m x) ≡ value 256 w x
  front_number = rw (front_long, e) (value_take 256 w x)

-- a number of four bytes at most
pub below_four : (w n : ℕ) → w ≤ 4 → n < 256 ^ w → n < 4294967296
below_four w n h b = let p : 256 ^ w ≤ 256 ^ 4 = pow-le-pow_right (omega arith) {i = w} {j = 4} h in omega arith

-- ---- 20 to 22

pub too_short : (t : Trailer) (size : ℕ) (tail : List ℕ) (width : ℕ) → width ≡ trailer_size t → size < width → Err TooShort ≡ open_by t size tail
unfolding open_by
too_short t size tail width e h = rw (lt-ltb size (trailer_size t) (omega arith))

-- a file that is not too short, and its last bytes
pub record LongEnough (t : Trailer) (size : ℕ) (tail : List ℕ) : Type 0 where
  pub wide : t.wide ≤ 4
  pub long : length tail ≡ 4 + t.wide + 2
  pub least : trailer_size t ≤ size

-- what is asked of `u` is known of `t`, the same by its parts
pub long_enough : {t u : Trailer} {size : ℕ} {tail : List ℕ} {width : ℕ} → t ≡ u → Sound t → (trailer_size u ≤ size → length tail ≡ trailer_size u) → width ≡ trailer_size u
    → width ≤ size → LongEnough t size tail
unfolding trailer_size
long_enough {t = t} {u = u} e s k w h =
    let same : trailer_size t ≡ trailer_size u = ap trailer_size e in
    record { wide = s.0; long = k (omega (arith, w, h)) ∙ sym same; least = omega (arith, w, h, same) }

module _ {t : Trailer} {size : ℕ} {tail : List ℕ} (v : LongEnough t size tail) where
  -- the numbers there
  abbrev version_part : List ℕ
  version_part = take (length tail - (4 + t.wide)) (drop (4 + t.wide) tail)

  abbrev count_part : List ℕ
  count_part = take (4 + t.wide - 4) (drop 4 tail)

  version_at : (length tail - (4 + t.wide) ≡ 2) × (2 ≤ length (drop (4 + t.wide) tail))
  version_at = (omega (arith, v.long), rw length-drop (omega (arith, v.long)))

  count_at : (4 + t.wide - 4 ≡ t.wide) × (t.wide ≤ length (drop 4 tail))
  count_at = (omega arith, rw length-drop (omega (arith, v.long)))

  start_at : 4 ≤ length tail
  start_at = omega (arith, v.long)

  pub version_few : length version_part ≤ 4
  version_few = omega (arith, front_long _ 2 (drop (4 + t.wide) tail) version_at.0 version_at.1)

  pub count_few : length count_part ≤ 4
  count_few = omega (arith, front_long _ t.wide (drop 4 tail) count_at.0 count_at.1, v.wide)

  pub start_four : length (take 4 tail) ≡ 4
  start_four = length-take-le 4 tail start_at

  version_read : (n : ℕ) → n ≡ value 256 (length version_part) version_part → n ≡ version_by t tail
  version_read n e = e ∙ front_number _ 2 (drop (4 + t.wide) tail) version_at.0 version_at.1

  start_read : (n : ℕ) → n ≡ value 256 (length (take 4 tail)) (take 4 tail) → n ≡ start_by tail
  start_read n e = e ∙ front_number 4 4 tail refl start_at

  count_read : (n : ℕ) → n ≡ value 256 (length count_part) count_part → n ≡ count_by t tail
  count_read n e = e ∙ front_number _ t.wide (drop 4 tail) count_at.0 count_at.1

  module _ (n : ℕ) (read : n ≡ value 256 (length version_part) version_part) where
    pub unknown_version : (n ≡ t.version → ⊥) → Err UnknownVersion ≡ open_by t size tail
    unfolding open_by
    unknown_version h = rw (le-ltb size (trailer_size t) v.least, ne_eqb (version_by t tail) t.version (λ e. h (version_read n read ∙ e)))

    module _ (known : n ≡ t.version) (start count width : ℕ) (s : start ≡ value 256 (length (take 4 tail)) (take 4 tail))
        (c : count ≡ value 256 (length count_part) count_part) (w : width ≡ trailer_size t) where
      sum : start + 4 * count + width ≡ start_by tail + 4 * count_by t tail + trailer_size t
      sum = rw (← start_read start s, ← count_read count c, w)

      is_known : version_by t tail ≡ t.version
      is_known = sym (version_read n read) ∙ known

      pub wrong_length : (start + 4 * count + width ≡ size → ⊥) → Err WrongLength ≡ open_by t size tail
      unfolding open_by
      wrong_length h =
          rw (
            le-ltb size (trailer_size t) v.least,
            eq-eqb (version_by t tail) t.version is_known,
            ne_eqb (start_by tail + 4 * count_by t tail + trailer_size t) size (λ e. h (sum ∙ e)),
          )

      pub day_told : start + 4 * count + width ≡ size → Ok (record { lines = count; start = start }) ≡ open_by t size tail
      unfolding open_by
      day_told h =
          rw (
            le-ltb size (trailer_size t) v.least,
            eq-eqb (version_by t tail) t.version is_known,
            eq-eqb (start_by tail + 4 * count_by t tail + trailer_size t) size (sym sum ∙ h),
            ← start_read start s,
            ← count_read count c,
          )

-- ---- what a day says of the size: "start plus index plus trailer" is the file's length

pub day_size : (t : Trailer) (size : ℕ) (tail : List ℕ) (c : Contents) → Ok c ≡ open_by t size tail → c.start + 4 * c.lines + trailer_size t ≡ size
unfolding open_by
day_size t size tail c =
    go (ltb size (trailer_size t)) refl (eqb (version_by t tail) t.version) refl (eqb (start_by tail + 4 * count_by t tail + trailer_size t) size) refl
  where
    go : (a : Bool) → ltb size (trailer_size t) ≡ a → (b : Bool) → eqb (version_by t tail) t.version ≡ b
        → (d : Bool) → eqb (start_by tail + 4 * count_by t tail + trailer_size t) size ≡ d → Ok c ≡ open_by t size tail → c.start + 4 * c.lines + trailer_size t ≡ size
    go true p b q d r e = let z : Ok c ≡ Err TooShort = rw p at e in cc
    go false p false q d r e = let z : Ok c ≡ Err UnknownVersion = rw (p, q) at e in cc
    go false p true q false r e = let z : Ok c ≡ Err WrongLength = rw (p, q, r) at e in cc
    go false p true q true r e =
        let z : Ok c ≡ Ok (record { lines = count_by t tail; start = start_by tail }) = rw (p, q, r) at e in
        let k : c ≡ record { lines = count_by t tail; start = start_by tail } = cc in
        rw k (eqb-true (start_by tail + 4 * count_by t tail + trailer_size t) size r)

-- ---- a whole file

-- what 20 to 22 tell of it
pub record Told (t : Trailer) (file : List ℕ) (told : Result Contents NotOpened) : Type 0 where
  pub by : told ≡ open_by t (length file) (tail_of t file)

module _ (t : Trailer) (file tail : List ℕ) (width : ℕ) (w : width ≡ trailer_size t) (at : tail ≡ drop (length file - width) file) where
  pub by_tail : {told : (Result Contents NotOpened)} → told ≡ open_by t (length file) tail → Told t file told
  by_tail e = record { by = rw (at, w) at e }

module _ {t : Trailer} {file : List ℕ} {told : (Result Contents NotOpened)} (v : Told t file told) where
  whole : open_of t file ≡ or_wrong_lines told file
  unfolding open_of
  whole = rw (← v.by)

  pub no_day : {e : NotOpened} → told ≡ Err e → told ≡ open_of t file
  no_day {e} is = is ∙ go e ∙ sym (whole ∙ ap (λ (o : Result Contents NotOpened). or_wrong_lines o file) is)
    where
      go : (e : NotOpened) → Err e ≡ or_wrong_lines (Err e) file
      go TooShort = refl
      go UnknownVersion = refl
      go WrongLength = refl
      go WrongLines = refl

  module _ (c : Contents) (day : told ≡ Ok c) where
    abbrev index : List ℕ
    index = take (c.start + 4 * c.lines - c.start) (drop c.start file)

    pub day_inside : c.start + 4 * c.lines ≤ length file
    day_inside = omega (arith, day_size t (length file) (tail_of t file) c (sym day ∙ v.by))

    measured : c.start + 4 * c.lines - c.start ≡ 4 * c.lines
    measured = omega arith

    lines_long : length (offsets_in index) ≡ c.lines
    lines_long = omega (arith, length-offsets index, front_long _ (4 * c.lines) (drop c.start file) measured (rw length-drop (omega (arith, day_inside))))

    start_long : length (take c.start file) ≡ c.start
    start_long = length-take-le c.start file (omega (arith, day_inside))

    by_lines : open_of t file ≡ cond (agree (take c.start file) (offsets_in index)) (Ok c) (Err WrongLines)
    by_lines = rw measured (whole ∙ rw day)

    module _ {r : Walked} (k : Walks 0 (take c.start file) (offsets_in index) r) where
      pub other_lines : (r.lines ≡ c.lines → ⊥) → Err WrongLines ≡ open_of t file
      other_lines n = sym (by_lines ∙ rw (fewer_lines k (λ q. n (q ∙ lines_long))))

      pub other_used : (r.used ≡ c.start → ⊥) → Err WrongLines ≡ open_of t file
      other_used n = sym (by_lines ∙ rw (fewer_bytes k (λ q. n (q ∙ start_long))))

      pub same_lines : r.lines ≡ c.lines → r.used ≡ c.start → Ok c ≡ open_of t file
      same_lines p q = sym (by_lines ∙ rw (walked_agree k (p ∙ sym lines_long) (q ∙ sym start_long)))
