-- The file of a run of lines, part by part: its lines, where they begin, its trailer; and bytes that are exactly so many lines. Assumes nothing.
use mathlib.Core.Path.{◌≡◌, refl, sym, ap, ◌∙◌}
use mathlib.Core.Bool.{true, false, ◌&&◌, not, and_assoc}
use mathlib.Core.Logic.{◌⊎◌, inl, inr}
use mathlib.Core.List.{List, [], ◌∷◌, ◌++◌, append_assoc}
use Prim.Native.Nat.{ℕ, zero, suc, ◌+◌, ◌*◌, ◌-◌, ◌≤◌, ◌<◌, zero-le}
use native.Mathlib.Nat.{zero-add}
use native.Mathlib.Omega.{arith}
use lib.Dec.{eqb, leb, ltb}
use lib.ListN.{length, take, drop, get_or, length-append, length-drop, take-append-drop, get_or-eq_default}
use lib.Seq.{split_at, get_or_at, take_all, drop_at, drop-drop, length-take-le}
use borrow.Author.Tests.{leb-true, ltb-true, eqb-true, not-true, le-leb, lt-ltb, eq-eqb, ne_eqb}
use Rattle.text.specs.Place.{places, all_in}
use Rattle.text.specs.Class.{all}
use Rattle.text.proofs.Logic.{and_left, and_right}
use Rattle.text.proofs.Places.{all_in_more, length-places}
use Rattle.shapes.specs.Cut.{has, up_to}
use Rattle.shapes.specs.Pieces.{none_has}
use Rattle.rules.specs.Frame.{line_feed, longest_line}
use Rattle.cutter.specs.Feed.{feed_of, texts_of, rest_of}
use Rattle.cutter.proofs.Feeds.{feed_text, feed_only}
use Rattle.dayfile.specs.DayFile.{version1, Sound, trailer_size, trailer_of, lines_text, starts_from, file_of, may_keep, each_may_keep, is_run, too_far, is_bytes}
use Rattle.dayfile.specs.Opening.{start_by, count_by, version_by, same_numbers, is_empty, agree, tail_of, numbered, place_of}
use Rattle.dayfile.specs.Cases.{AreLines}
use Rattle.dayfile.specs.declared.Trailer.{Trailer}
use Rattle.dayfile.proofs.Bytes.{value_front, bytes_drop, number_of, bytes_of, length_index, four_at, two_at, four_at_lem, two_at_lem}

-- ---- the bytes of lines, one after the other

pub feed_rest : (ls : List (List ℕ)) (rest : List ℕ) → feed_of ls rest ≡ lines_text ls ++ rest
unfolding feed_of
feed_rest [] rest = refl
feed_rest (l ∷ ls) rest = rw (feed_rest ls rest) (sym (append_assoc l (line_feed ∷ lines_text ls) rest))

pub lines_append : (ls ms : List (List ℕ)) → lines_text (ls ++ ms) ≡ lines_text ls ++ lines_text ms
unfolding feed_of
lines_append [] ms = refl
lines_append (l ∷ ls) ms = rw (lines_append ls ms) (sym (append_assoc l (line_feed ∷ lines_text ls) (lines_text ms)))

pub length_more : (l : List ℕ) (ls : List (List ℕ)) → length (lines_text (l ∷ ls)) ≡ length l + 1 + length (lines_text ls)
unfolding feed_of
length_more l ls = omega (arith, length-append l (line_feed ∷ lines_text ls))

-- ---- where they begin

pub length-starts : (from : ℕ) (ls : List (List ℕ)) → length (starts_from from ls) ≡ length ls
unfolding starts_from
length-starts from [] = refl
length-starts from (l ∷ ls) = ap suc (length-starts (from + length l + 1) ls)

pub starts_append : (from : ℕ) (ls ms : List (List ℕ)) → starts_from from (ls ++ ms) ≡ starts_from from ls ++ starts_from (from + length (lines_text ls)) ms
unfolding starts_from feed_of
starts_append from [] ms = ap (λ (n : ℕ). starts_from n ms) (omega arith)
starts_append from (l ∷ ls) ms =
    let e : from + length l + 1 + length (lines_text ls) ≡ from + length (lines_text (l ∷ ls)) = omega (arith, length_more l ls) in
    rw (starts_append (from + length l + 1) ls ms, e)

-- none begins past the text
pub starts_in : (from hi : ℕ) (ls : List (List ℕ)) → from + length (lines_text ls) ≤ suc hi → all_in 0 hi (starts_from from ls) ≡ true
unfolding starts_from all_in all
starts_in from hi [] h = refl
starts_in from hi (l ∷ ls) h =
    all_in_more 0 hi from (starts_from (from + length l + 1) ls) zero-le (omega (arith, length_more l ls))
    ∙ starts_in (from + length l + 1) hi ls (omega (arith, length_more l ls))

-- ---- the k-th line, and where it begins

pub lines_at : (ls : List (List ℕ)) (k : ℕ) → k < length ls → lines_text ls ≡ lines_text (take k ls) ++ (get_or ls k [] ++ 10 ∷ lines_text (drop (suc k) ls))
unfolding feed_of
lines_at ls k h = ap (λ (ms : List (List ℕ)). lines_text ms) (split_at ls k [] h) ∙ lines_append (take k ls) (get_or ls k [] ∷ drop (suc k) ls)

pub start_at : (from : ℕ) (ls : List (List ℕ)) (k : ℕ) → k < length ls → get_or (starts_from from ls) k 0 ≡ from + length (lines_text (take k ls))
unfolding starts_from
start_at from ls k h =
    let o = from + length (lines_text (take k ls)) in
    let l = get_or ls k [] in
    let before = starts_from from (take k ls) in
    let e : starts_from from ls ≡ before ++ starts_from o (l ∷ drop (suc k) ls) = ap (starts_from from) (split_at ls k [] h) ∙ starts_append from (take k ls) (l ∷ drop (suc k) ls) in
    rw e (get_or_at before o (starts_from (o + length l + 1) (drop (suc k) ls)) 0 k (length-starts from (take k ls) ∙ length-take-le k ls (omega arith)))

pub from_line : (ls : List (List ℕ)) (k : ℕ) (rest : List ℕ) → k < length ls
    → drop (get_or (starts_from 0 ls) k 0) (lines_text ls ++ rest) ≡ get_or ls k [] ++ 10 ∷ (lines_text (drop (suc k) ls) ++ rest)
from_line ls k rest h =
    let before = lines_text (take k ls) in
    let l = get_or ls k [] in
    let after = lines_text (drop (suc k) ls) in
    rw (lines_at ls k h, append_assoc before (l ++ 10 ∷ after) rest, append_assoc l (10 ∷ after) rest)
    (drop_at before (l ++ 10 ∷ (after ++ rest)) (get_or (starts_from 0 ls) k 0) (sym (start_at 0 ls k h ∙ omega arith)))

-- ---- the line with a number, the first being 1

pub numbered_at : (ls : List (List ℕ)) (k n : ℕ) → k < length ls → n ≡ k + 1 → (numbered ls n ≡ get_or ls k []) × (place_of ls n ≡ length (lines_text (take k ls)))
unfolding numbered place_of
numbered_at ls k n h e =
    let i : n - 1 ≡ k = omega arith in
    (rw (ne_eqb n 0 (λ z. omega arith), i), rw (i, start_at 0 ls k h, zero-add))

-- no line has the number 0, or one past the last
pub numbered_none : (ls : List (List ℕ)) (n : ℕ) → (n ≡ 0) ⊎ (length ls < n) → (numbered ls n ≡ []) × (place_of ls n ≡ 0)
unfolding numbered place_of starts_from
numbered_none ls n (inl e) = (rw e, rw e (first ls))
  where
    first : (ms : List (List ℕ)) → get_or (starts_from 0 ms) 0 0 ≡ 0
    first [] = refl
    first (m ∷ ms) = refl
numbered_none ls n (inr h) =
    let past : length ls ≤ n - 1 = omega arith in
    (rw (ne_eqb n 0 (λ z. omega arith)) (get_or-eq_default ls [] past), get_or-eq_default (starts_from 0 ls) 0 (rw length-starts past))

-- ---- the file

pub length_trailer : (t : Trailer) (start count : ℕ) → length (trailer_of t start count) ≡ trailer_size t
unfolding trailer_of trailer_size
length_trailer t start count =
    simp (length-append, length-places) (omega arith)

pub length-file : (t : Trailer) (ls : List (List ℕ)) → length (file_of t ls) ≡ length (lines_text ls) + 4 * length ls + trailer_size t
unfolding file_of
length-file t ls = simp (length-append, length_index, length-starts, length_trailer) (omega arith)

-- ---- lines that may be kept

pub kept_line : (l : List ℕ) → may_keep l ≡ true → (length l ≤ 2048) × (has 10 l ≡ false)
unfolding may_keep
kept_line l e =
    (leb-true (length l) longest_line (and_left (leb (length l) longest_line) (not (has line_feed l)) e), not-true (has line_feed l) (and_right (leb (length l) longest_line) (not (has line_feed l)) e))

pub line_kept : (l : List ℕ) → length l ≤ 2048 → has 10 l ≡ false → may_keep l ≡ true
unfolding may_keep
line_kept l h e = rw (le-leb (length l) longest_line h, e)

pub each_append : (ls ms : List (List ℕ)) → each_may_keep (ls ++ ms) ≡ (each_may_keep ls && each_may_keep ms)
unfolding each_may_keep
each_append [] ms = refl
each_append (l ∷ ls) ms = rw (each_append ls ms) (sym (and_assoc (may_keep l) (each_may_keep ls) (each_may_keep ms)))

-- each of them, by its number
pub each_at : (ls : List (List ℕ)) → each_may_keep ls ≡ true → (k : ℕ) → k < length ls → may_keep (get_or ls k []) ≡ true
unfolding each_may_keep
each_at [] e k h = absurd (omega arith)
each_at (l ∷ ls) e zero h = and_left (may_keep l) (each_may_keep ls) e
each_at (l ∷ ls) e (suc k) h = each_at ls (and_right (may_keep l) (each_may_keep ls) e) k (omega arith)

pub each_all : (ls : List (List ℕ)) → ((k : ℕ) → k < length ls → may_keep (get_or ls k []) ≡ true) → each_may_keep ls ≡ true
unfolding each_may_keep
each_all [] f = refl
each_all (l ∷ ls) f = rw (f 0 (omega arith)) (each_all ls (λ k h. f (suc k) (omega arith)))

pub each_none : (ls : List (List ℕ)) → each_may_keep ls ≡ true → none_has line_feed ls ≡ true
unfolding each_may_keep none_has
each_none [] e = refl
each_none (l ∷ ls) e =
    rw (kept_line l (and_left (may_keep l) (each_may_keep ls) e)).1 (each_none ls (and_right (may_keep l) (each_may_keep ls) e))

-- so the lines of their bytes are these, and nothing is left
pub texts_lines : (ls : List (List ℕ)) → each_may_keep ls ≡ true → (texts_of (lines_text ls) ≡ ls) × (rest_of (lines_text ls) ≡ [])
unfolding has up_to
texts_lines ls e = feed_only ls [] (each_none ls e) refl

-- ---- a run that may be kept

module _ (t : Trailer) (ls : List (List ℕ)) where
  abbrev IsFew : Type 0
  IsFew = length ls ≤ t.most

  abbrev IsNear : Type 0
  IsNear = length (lines_text ls) < too_far

  pub run_parts : is_run t ls ≡ true → (each_may_keep ls ≡ true) × IsFew × IsNear
  unfolding is_run
  run_parts e =
      let a = each_may_keep ls in
      let b = leb (length ls) t.most in
      let c = ltb (length (lines_text ls)) too_far in
      let r : (b && c) ≡ true = and_right a (b && c) e in
      (and_left a (b && c) e, leb-true (length ls) t.most (and_left b c r), ltb-true (length (lines_text ls)) too_far (and_right b c r))

  pub parts_run : each_may_keep ls ≡ true → IsFew → IsNear → is_run t ls ≡ true
  unfolding is_run
  parts_run e f n = rw (e, le-leb (length ls) t.most f, lt-ltb (length (lines_text ls)) too_far n)

-- ---- "exactly that many lines, each with its line feed, of at most 2,048 bytes, each starting at its offset", as a test

same_equal : (xs ys : List ℕ) → same_numbers xs ys ≡ true → xs ≡ ys
unfolding same_numbers
same_equal [] [] e = refl
same_equal [] (y ∷ ys) e = cc
same_equal (x ∷ xs) [] e = cc
same_equal (x ∷ xs) (y ∷ ys) e =
    rw (eqb-true x y (and_left (eqb x y) (same_numbers xs ys) e), same_equal xs ys (and_right (eqb x y) (same_numbers xs ys) e))

same_refl : (xs : List ℕ) → same_numbers xs xs ≡ true
unfolding same_numbers
same_refl [] = refl
same_refl (x ∷ xs) = rw (eq-eqb x x refl, same_refl xs)

empty_nil : (s : List ℕ) → is_empty s ≡ true → s ≡ []
unfolding is_empty
empty_nil [] e = refl
empty_nil (x ∷ s) e = cc

pub agree_lines : (s os : List ℕ) → agree s os ≡ true → AreLines s os
unfolding agree
agree_lines s os e =
    let a = is_empty (rest_of s) in
    let b = each_may_keep (texts_of s) in
    let c = same_numbers os (starts_from 0 (texts_of s)) in
    let r : (b && c) ≡ true = and_right a (b && c) e in
    record {
      run = texts_of s;
      text = sym (feed_text s) ∙ ap (feed_of (texts_of s)) (empty_nil (rest_of s) (and_left a (b && c) e));
      each = and_left b c r;
      starts = same_equal os (starts_from 0 (texts_of s)) (and_right b c r);
    }

pub lines_agree : (s os : List ℕ) → AreLines s os → agree s os ≡ true
unfolding agree is_empty
lines_agree s os l =
    let p = texts_lines l.run l.each in
    rw (l.text, l.starts, p.0, p.1, l.each) (same_refl (starts_from 0 l.run))

-- the lines are those of the bytes
pub lines_run : {s os : List ℕ} (l : AreLines s os) → texts_of s ≡ l.run
lines_run l = rw l.text (texts_lines l.run l.each).0

-- ---- the trailer, read and written

module _ (t : Trailer) (sound : Sound t) where
  module _ (start count : ℕ) where
    pub start_trailer : start < too_far → start_by (trailer_of t start count) ≡ start
    unfolding trailer_of
    start_trailer h = value_front 256 4 (places 256 4 start) (places 256 t.wide count ++ places 256 2 t.version) (length-places 256 4 start) ∙ number_of 4 start h

    after_start : drop 4 (trailer_of t start count) ≡ places 256 t.wide count ++ places 256 2 t.version
    unfolding trailer_of
    after_start = drop_at (places 256 4 start) (places 256 t.wide count ++ places 256 2 t.version) 4 (length-places 256 4 start)

    pub count_trailer : count ≤ t.most → count_by t (trailer_of t start count) ≡ count
    count_trailer h =
        let w = t.wide in
        rw (after_start, value_front 256 w (places 256 w count) (places 256 2 t.version) (length-places 256 w count)) (number_of w count (omega (arith, sound.2)))

    pub version_trailer : version_by t (trailer_of t start count) ≡ t.version
    version_trailer =
        let w = t.wide in
        rw (← (drop-drop w 4 (trailer_of t start count)), after_start, drop_at (places 256 w count) (places 256 2 t.version) w (length-places 256 w count))
        (number_of 2 t.version sound.1)

  -- bytes as many as a trailer has are the trailer of what they tell
  pub trailer_tail : (tail : List ℕ) → length tail ≡ trailer_size t → is_bytes tail ≡ true → version_by t tail ≡ t.version → trailer_of t (start_by tail) (count_by t tail) ≡ tail
  unfolding trailer_of trailer_size
  trailer_tail tail e b v =
      let w = t.wide in
      let y = drop (4 + w) tail in
      let size : length y ≡ 2 = length-drop (4 + w) tail ∙ omega arith in
      rw (bytes_of 4 tail (omega arith) b, bytes_of w (drop 4 tail) (omega (arith, length-drop 4 tail)) (bytes_drop 4 tail b), ← v)
      (rw (bytes_of 2 y (omega arith) (bytes_drop (4 + w) tail b), take_all 2 y (omega arith), ← (drop-drop w 4 tail), take-append-drop w (drop 4 tail), take-append-drop 4 tail))

-- ---- the numbers of version 1, byte by byte

pub sound_1 : Sound version1
sound_1 = (omega arith, omega arith, refl)

pub eight_bytes : trailer_size version1 ≡ 8
unfolding trailer_size
eight_bytes = refl

module _ (file : List ℕ) where
  pub start_bytes : start_by (tail_of version1 file) ≡ four_at file (length file - 8)
  unfolding trailer_size
  start_bytes = four_at_lem file (length file - 8)

  module _ (long : 8 ≤ length file) where
    pub count_bytes : count_by version1 (tail_of version1 file) ≡ two_at file (length file - 4)
    unfolding trailer_size
    count_bytes =
        let n = length file - 8 in
        let e : n + 4 ≡ length file - 4 = omega arith in
        rw (drop-drop 4 n file, e) (two_at_lem file (length file - 4))

    pub version_bytes : version_by version1 (tail_of version1 file) ≡ two_at file (length file - 2)
    unfolding trailer_size
    version_bytes =
        let n = length file - 8 in
        let e : n + 6 ≡ length file - 2 = omega arith in
        rw (drop-drop 6 n file, e) (two_at_lem file (length file - 2))
